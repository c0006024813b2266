pub mod Inspecting
pub mod Finding
pub mod Accepting
pub mod Standing
pub mod Checking
pub mod Showing
pub mod Sending
pub mod Explaining
