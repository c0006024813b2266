pub mod InputLemmas
pub mod OutputLemmas
pub mod AnsweringLemmas
pub mod PartLemmas
