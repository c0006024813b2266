pub mod Fault
pub mod Number
pub mod Output
pub mod Answering
pub mod Session
pub mod Words
