pub mod SubmissionLemmas
mod AskLemmas
pub mod ActionLemmas
mod DiskLemmas
