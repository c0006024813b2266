pub mod Told
pub mod Arrived
pub mod Entries
pub mod Verified
