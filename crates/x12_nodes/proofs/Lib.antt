pub mod TakingLemmas
pub mod NumberLemmas
pub mod MergeLemmas
pub mod FairLemmas
mod HeadlineLemmas
mod CellLemmas
pub mod MergingLemmas
pub mod LabelLemmas
mod GetLemmas
mod FoundingLemmas
mod SettlingLemmas
mod ComparingLemmas
mod ReceivingLemmas
mod UnlockingLemmas
mod CellsLemmas
mod OwnLemmas
