pub mod Shelf
pub mod PlaceLemmas
pub mod SearchLemmas
pub mod RowLemmas
pub mod WriteLemmas
pub mod LedgerLemmas
pub mod LoopLemmas
pub mod CountLemmas
pub mod KeyLemmas
pub mod FateLemmas
pub mod SettleLemmas
pub mod PlanLemmas
pub mod CopyLemmas
mod ToldLemmas
mod FindingLemmas
mod GroupLemmas
mod FoundLemmas
mod LimitLemmas
mod SubjectLemmas
mod EvidenceLemmas
mod BothLemmas
mod ScheduledLemmas
mod AnswerLemmas
mod PlannedLemmas
pub mod FirstEvidenceLemmas
mod TwiceLemmas
pub mod SubmittingLemmas
pub mod SendableLemmas
