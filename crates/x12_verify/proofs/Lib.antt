mod ApartLemmas
mod ToldLemmas
mod EntryLemmas
mod DueLemmas
mod AgainLemmas
mod PlacedLemmas
mod HistoryLemmas
