pub mod ListLemmas
pub mod EntryLemmas
pub mod FateLookupLemmas
mod SubmissionLemmas
mod LookUpLemmas
mod ArrivalMapLemmas
mod MemoryLemmas
mod KeptLemmas
pub mod NothingLemmas
mod SoundAnswerLemmas
pub mod HistoryLemmas
pub mod LoadingLemmas
pub mod OpenLemmas
mod OpenedLemmas
pub mod SeqLemmas
pub mod ItemLemmas
pub mod NumberedLemmas
pub mod AgreedLemmas
pub mod PendingLemmas
pub mod OlderLemmas
pub mod FateLemmas
pub mod CellLemmas
pub mod SettledLemmas
pub mod TickLemmas
pub mod TargetLemmas
pub mod OwnLemmas
pub mod KnownLemmas
pub mod ArrivedLemmas
pub mod FiledLemmas
pub mod PostingLemmas
pub mod DurableFiledLemmas
pub mod PieceLemmas
pub mod LedgerLemmas
pub mod HeldLemmas
pub mod DraftLemmas
pub mod HearingLemmas
pub mod ClosedLemmas
pub mod BesideLemmas
pub mod StepLemmas
pub mod FilingLemmas
pub mod NotingLemmas
pub mod DurableLemmas
mod AskedLemmas
mod OnceLemmas
pub mod TableLemmas
pub mod ArrivalTableLemmas
mod AgreementLemmas
mod NewLemmas
pub mod PreparedLemmas
pub mod EnterLemmas
pub mod EnteringLemmas
pub mod SubmittingLemmas
pub mod ArrivingLemmas
pub mod ArrivedNewLemmas
mod SightedLemmas
pub mod StandingLemmas
mod StoppedLemmas
pub mod OrderedLemmas
pub mod OrderingLemmas
pub mod OrdersLemmas
pub mod SubmittedLemmas
mod FindingLemmas
mod PlacedLemmas
