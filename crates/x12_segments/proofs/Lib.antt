pub mod TextsLemmas
pub mod PlainLemmas
pub mod LayingLemmas
pub mod WalkLemmas
