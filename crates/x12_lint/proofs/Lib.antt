pub mod ElementLemmas
pub mod PartLemmas
