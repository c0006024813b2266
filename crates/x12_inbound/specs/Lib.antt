pub mod Order
pub mod Filing
pub mod Posting
pub mod Arrival
pub mod Sighting
pub mod Place
pub mod Register
pub mod Accepted
