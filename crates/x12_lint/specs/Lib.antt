pub mod Element
pub mod Linting
