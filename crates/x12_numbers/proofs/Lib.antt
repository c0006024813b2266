pub mod Shelf
pub mod RisingLemmas
