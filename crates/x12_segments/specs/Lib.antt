pub mod Plain
pub mod Laying
pub mod Walk
