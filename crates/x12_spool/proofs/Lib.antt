mod DeedLemmas
mod TurnLemmas
mod OfferLemmas
mod HandingLemmas
mod NumberingLemmas
mod PowerLemmas
