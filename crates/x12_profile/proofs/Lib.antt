pub mod PartyLemmas
pub mod ListLemmas
pub mod FieldLemmas
mod Below
mod WrittenLemmas
pub mod PlaceLemmas
mod NamedLemmas
mod ReplyLemmas
pub mod SubmissionLemmas
mod TellsLemmas
mod AboutLemmas
mod RefusalLemmas
mod AllLaws
mod OrderLemmas
pub mod CountLemmas
pub mod Shelf
