pub mod InspectingLemmas
pub mod PrintingLemmas
pub mod ExplainingLemmas
