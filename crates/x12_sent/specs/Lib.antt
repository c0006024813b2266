pub mod Sender
pub mod Closing
pub mod Sent
pub mod Submitter
