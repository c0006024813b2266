pub mod SenderLemmas
pub mod SubmitterLemmas
pub mod ClosingLemmas
