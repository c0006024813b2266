mod DecidedLemmas
pub mod NodesLemmas
mod NetworkLemmas
mod Traces
mod TraceLemmas
mod RoutedLemmas
pub mod WorldLemmas
mod StationLemmas
mod HubLemmas
pub mod RunLemmas
mod LearntLemmas
mod HeadlineLemmas
mod TrafficLemmas
mod OutsiderLemmas
mod StandingLemmas
mod MoveLemmas
mod RefinesLemmas
mod ToyProfile
mod ToyRuns
pub mod RefusalLemmas
pub mod TakenLemmas
mod LossLemmas
mod KeyLemmas
mod HubStateLemmas
mod RiseLemmas
mod NumberLemmas
mod OnceLemmas
mod GoodLemmas
mod ReachLemmas
pub mod PacketLemmas
pub mod RunningLemmas
pub mod FailingLemmas
pub mod AnswerLemmas
pub mod ActingLemmas
pub mod DisksLemmas
mod RanLemmas
pub mod FoundingLemmas
mod AuditingLemmas
mod AskingLemmas
mod PlacingLemmas
pub mod SubmissionLemmas
mod ListingLemmas
mod PostedLemmas
mod AuditsLemmas
mod WorldAskedLemmas
