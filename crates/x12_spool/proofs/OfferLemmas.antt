-- Offers that are put one after the other.
use Rattle.std.proofs.Common.{◌≡◌, ◌∙◌, ◌++◌, [], List, Option, ap, drop, map, sym, take, ℕ}
use Rattle.std.proofs.lemmas.List.{map-append, take-append-drop}
use Rattle.x12_spool.specs.declared.node.Offer.{Offer}
use Rattle.x12_spool.specs.Deed.{Deed, AddsDeeds}
use Rattle.x12_spool.specs.Node.{offer_view}
use Rattle.x12_spool.specs.Offering.{deed_of_offer, AreFront}
use Rattle.x12_spool.specs.Turn.{Does}
use Rattle.x12_spool.proofs.DeedLemmas.{adds_same}

front_is : (vs : List Offer) (i : ℕ) → map deed_of_offer (map offer_view (take i vs)) ++ map deed_of_offer (map offer_view (drop i vs)) ≡ map deed_of_offer (map offer_view vs)
front_is vs i =
    sym (map-append deed_of_offer (map offer_view (take i vs)) (map offer_view (drop i vs)))
    ∙ ap (map deed_of_offer) (sym (map-append offer_view (take i vs) (drop i vs)))
    ∙ ap (λ xs. map deed_of_offer (map offer_view xs)) (take-append-drop i vs)

-- it stopped among them
pub stops_put : (vs : List Offer) (i : ℕ) (a b c : Option (List Deed)) → AddsDeeds a b (map deed_of_offer (map offer_view (take i vs))) → AddsDeeds b c [] → Does a c (AreFront (map deed_of_offer (map offer_view vs)))
stops_put vs i a b c before same =
    (map deed_of_offer (map offer_view (take i vs)), (map deed_of_offer (map offer_view (drop i vs)), front_is vs i), adds_same a b c _ before same)
