pub mod Keyed
pub mod Kept
pub mod Query
