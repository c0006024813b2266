pub mod Shelf
pub mod ListLemmas
pub mod KeptNoteLemmas
pub mod ElementErrorLemmas
pub mod TakenElementLemmas
pub mod SegmentNoteLemmas
pub mod KeyLemmas
pub mod RisingNumberLemmas
pub mod BodyLemmas
pub mod SetNoteLemmas
pub mod SetVerdictLemmas
pub mod AgreementLemmas
pub mod OutlineBoundLemmas
pub mod SmallVerdictLemmas
pub mod JudgedReadLemmas
mod RisingNoteLemmas
