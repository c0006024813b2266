pub mod Count
pub mod Book
pub mod History
