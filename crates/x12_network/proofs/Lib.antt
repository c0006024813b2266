mod DeliveryLemmas
mod CallerLemmas
