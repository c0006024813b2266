pub mod Plan
pub mod Inbox
pub mod Route
pub mod Link
pub mod Worker
pub mod Net
pub mod Laws
