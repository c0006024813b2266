-- Fronts of deeds, one behind the other.
use Rattle.std.proofs.Common.{◌==◌, ◌≡◌, ◌∙◌, ◌⊎◌, ◌++◌, ◌∷◌, [], List, Option, ap, append_assoc, drop, false, inl, inr, length, map, refl, subst, sym, take, ℕ}
use Rattle.std.proofs.lemmas.List.{map-append, take-append-drop}
use Rattle.x12_acks.specs.Accepted.{AcceptedSet}
use Rattle.x12_inbound.specs.declared.posting.Posting.{Posting}
use Rattle.x12_inbound.specs.Posting.{posting_view}
use Rattle.x12_spool.specs.Deed.{Deed, AddsDeeds, Settles}
use Rattle.x12_spool.specs.Handing.{drafted_synced_marked_named, hands_new, hands_over}
use Rattle.x12_spool.specs.Offering.{AreFront}
use Rattle.x12_spool.specs.Turn.{Does}
use Rattle.x12_spool.proofs.DeedLemmas.{adds_on, adds_same}

module _ (deed : AcceptedSet → Deed) (vs : List Posting) (i : ℕ) where
  front_is : map deed (map posting_view (take i vs)) ++ map deed (map posting_view (drop i vs)) ≡ map deed (map posting_view vs)
  front_is =
      sym (map-append deed (map posting_view (take i vs)) (map posting_view (drop i vs)))
      ∙ ap (map deed) (sym (map-append posting_view (take i vs) (drop i vs)))
      ∙ ap (λ xs. map deed (map posting_view xs)) (take-append-drop i vs)

  -- it stopped among them
  pub stops_among : (a b c : Option (List Deed)) → AddsDeeds a b (map deed (map posting_view (take i vs))) → AddsDeeds b c [] → Does a c (AreFront (map deed (map posting_view vs)))
  stops_among a b c before same = (map deed (map posting_view (take i vs)), (map deed (map posting_view (drop i vs)), front_is), adds_same a b c _ before same)

module _ (xs ys : List Deed) where
  -- it stopped in the first part, or in the second
  pub stops_in_first : (a b : Option (List Deed)) → Does a b (AreFront xs) → Does a b (AreFront (xs ++ ys))
  stops_in_first a b did = (did.0, (did.1.0 ++ ys, sym (append_assoc did.0 did.1.0 ys) ∙ ap (λ l. l ++ ys) did.1.1), did.2)

  pub stops_in_second : (a b c : Option (List Deed)) → AddsDeeds a b xs → Does b c (AreFront ys) → Does a c (AreFront (xs ++ ys))
  stops_in_second a b c first did = (xs ++ did.0, (did.1.0, append_assoc xs did.0 did.1.0 ∙ ap (λ l. xs ++ l) did.1.1), adds_on a b c xs did.0 first did.2)

-- it stopped in front of all of them, or behind the first
pub stops_unsure : (x : Deed) (xs : List Deed) (a b : Option (List Deed)) → AddsDeeds a b [] ⊎ AddsDeeds a b (x ∷ []) → Does a b (AreFront (x ∷ xs))
stops_unsure x xs a b (inl same) = ([], (x ∷ xs, refl), same)
stops_unsure x xs a b (inr did) = (x ∷ [], (xs, refl), did)

hands_new_is : (new : List Posting) (count : ℕ) → (length new == 0) ≡ false → hands_new (map posting_view new) count ≡ drafted_synced_marked_named (map posting_view new) count
hands_new_is [] count some = absurd cc
hands_new_is (p ∷ new) count some = refl

-- it stopped behind what was settled
pub stops_new : (marked new : List Posting) (count : ℕ) → (length new == 0) ≡ false
    → (a b c : Option (List Deed)) → AddsDeeds a b (Settles (map posting_view marked) ∷ []) → Does b c (AreFront (drafted_synced_marked_named (map posting_view new) count)) → Does a c (AreFront (hands_over (map posting_view marked) (map posting_view new) count))
stops_new marked new count some a b c settled did =
    subst (λ l. Does a c (AreFront (Settles (map posting_view marked) ∷ l))) (sym (hands_new_is new count some))
    (stops_in_second (Settles (map posting_view marked) ∷ []) (drafted_synced_marked_named (map posting_view new) count) a b c settled did)
