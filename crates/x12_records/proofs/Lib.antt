pub mod LeftLemmas
pub mod WrittenLemmas
