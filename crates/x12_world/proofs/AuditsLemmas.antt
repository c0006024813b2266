-- Each submitted key has its audit.
use Rattle.std.specs.Prelude.{◌≡◌, ◌≢◌, ℕ, ◌<◌, ◌+◌, drop, List, [], ◌∷◌, ◌++◌, Bool, true, Option, Some, None, All, AllPairs, Contains, flat_map, get_or, is_some, length, map, option_and_then, option_map, option_to_list, refl}
use mathlib.Core.Path.{sym, ap, ap₂, subst, ◌∙◌}
use mathlib.Core.Logic.{inl, inr}
use Rattle.std.proofs.lemmas.List.{append_assoc, map-append}
use Rattle.std.proofs.lemmas.List.Elements.{All-contains}
use Rattle.std.specs.List.Sorted.{IsPermutation}
use Rattle.std.proofs.lemmas.List.Sorted.{Contains-permutation, IsPermutation-sym}
use Rattle.std.proofs.lemmas.Option.{slice_get-get_or}
use Rattle.x12_acks.specs.Key.{is_same_key, key_view}
use Rattle.x12_acks.specs.Submission.{TransactionSetKey}
use Rattle.x12_judge.specs.Agreement.{is_same_party}
use Rattle.x12_numbers.proofs.Shelf.{all_from_contains, contains_cons, contains_head, contains_mapped, contains_tail, found_passes, none_in_nil, some_inj}
use Rattle.x12_outbound.specs.declared.fate.Fate.{Fate}
use Rattle.x12_outbound.proofs.FirstEvidenceLemmas.{same_key}
use Rattle.x12_profile.specs.X12.{x12}
use Rattle.x12_station.specs.Key.{OwnSet, own_fate, own_key, own_keys, own_set, own_sets}
use Rattle.x12_station.specs.Station.{Station}
use Rattle.x12_station.specs.StationStep.{fate_by_key}
use Rattle.x12_station.proofs.ListLemmas.{contains_flat_map, contains_map, flat_map_contains, get_contains}
use Rattle.x12_station.proofs.SeqLemmas.{pairs_head, pairs_tail}
use Rattle.x12_world.specs.Audit.{Audit, audit, audit_of, keys_of, stations_of}
use Rattle.x12_world.specs.Auditing.{found_under, held_under, station_among}
use Rattle.x12_world.specs.Audits.{audits_under, AreAudits}
use Rattle.x12_world.specs.Listing.{keys_of_sets, keys_of_stations, sets_of_stations, AreKeysOf, IsSubmittedBy}
use Rattle.x12_world.specs.Placing.{AddressedSet, addressed, outgoing, outgoing_view}
use Rattle.x12_world.specs.declared.placing.OutgoingSet.{OutgoingSet as CodeOutgoingSet}
use Rattle.x12_world.proofs.AuditingLemmas.{audit_by, audited, pair}
use Rattle.x12_core.specs.Node.{IsStation}
use Rattle.x12_world.specs.Reach.{ReachedFacts}
use Rattle.x12_world.specs.Submission.{NumbersRise}
use Rattle.x12_world.specs.World.{World}
use Rattle.x12_world.proofs.KeyLemmas.{station_in_list}
use Rattle.x12_world.proofs.ListingLemmas.{cut_there}
use Rattle.x12_world.proofs.NodesLemmas.{listed_at}

one_there : (o : Option Audit) (rest : List Audit) → is_some o ≡ true → map Some (option_to_list o ++ rest) ≡ o ∷ map Some rest
one_there (Some a) rest there = refl
one_there None rest there = absurd (cc)

each_there : (w : World) (ks : List TransactionSetKey) → ((k : TransactionSetKey) → Contains ks k → is_some (audit x12 w k) ≡ true) → map Some (audits_under w ks) ≡ map (audit x12 w) ks
each_there w [] there = refl
each_there w (k ∷ ks) there =
    one_there (audit x12 w k) (audits_under w ks) (there k (contains_head k ks))
    ∙ ap (λ os. audit x12 w k ∷ os) (each_there w ks (λ j h. there j (contains_tail j k ks h)))

-- of each station the numbers of its submissions rise
pub all_rise : (w : World) → ReachedFacts x12 w → All NumbersRise (stations_of w)
all_rise w facts k d within =
    let s = get_or (stations_of w) k d in
    let place = station_in_list w.nodes.listed s (get_contains (stations_of w) k s (slice_get-get_or (stations_of w) k d within)) in
    facts.numbers.of_submissions place.0 s (listed_at w.nodes facts.few place.0 (IsStation s) place.1)

pub rise_among : (w : World) → ReachedFacts x12 w → (ss : List Station) → stations_of w ≡ ss → All NumbersRise ss
rise_among w facts ss are = subst (All NumbersRise) are (all_rise w facts)

pub audits_are : (w : World) (ss : List Station) (keys : List TransactionSetKey) (found : List Audit) → ReachedFacts x12 w → stations_of w ≡ ss → AreKeysOf ss keys
    → found ≡ audits_under w keys → AreAudits w found
audits_are w ss keys found facts is are each = record {
  keys = keys;
  all = all;
  rise = are.rise (subst (AllPairs (λ j k. j ≢ k)) (ap keys_of_stations is) facts.keys.once);
  each = ap (map Some) each
      ∙ each_there w keys (λ k h. (facts.keys.exactly k).0 (Contains-permutation keys (keys_of x12 w) k (IsPermutation-sym (keys_of x12 w) keys all) h));
}
  where
    all : IsPermutation (keys_of x12 w) keys
    all = subst (λ ks. IsPermutation ks keys) (ap keys_of_stations (sym is)) are.all

-- one set more
pub one_audited : (w : World) (sets : List CodeOutgoingSet) (i : ℕ) (x : CodeOutgoingSet) (before new : List Audit) → i < length sets → x ≡ get_or sets i x
    → new ≡ before ++ option_to_list (audit x12 w (key_view x.key))
    → before ++ audits_under w (keys_of_sets (map outgoing_view (drop i sets))) ≡ audits_under w (keys_of_sets (map outgoing_view sets))
    → new ++ audits_under w (keys_of_sets (map outgoing_view (drop (i + 1) sets))) ≡ audits_under w (keys_of_sets (map outgoing_view sets))
one_audited w sets i x before new within at is was =
    let cut = cut_there sets i x within at in
    ap (λ l. l ++ audits_under w (keys_of_sets (map outgoing_view (drop (i + 1) sets)))) is
    ∙ append_assoc before (option_to_list (audit x12 w (key_view x.key))) (audits_under w (keys_of_sets (map outgoing_view (drop (i + 1) sets))))
    ∙ ap (λ l. before ++ audits_under w (keys_of_sets (map outgoing_view l))) (sym cut)
    ∙ was

-- What the sender is asked of a set that it submitted.
module _ (k : TransactionSetKey) (set : AddressedSet) where
  held_by : (fate : Fate) (s : Station) (o : Option OwnSet) → option_map addressed o ≡ Some set → Some fate ≡ option_map (own_fate x12 s.me s.hubs s.items) o
      → Some (pair set fate) ≡ option_map (λ c. (addressed c, own_fate x12 s.me s.hubs s.items c)) o
  held_by fate s None sent fares = absurd cc
  held_by fate s (Some c) sent fares = ap Some (ap₂ pair (sym (some_inj sent)) (some_inj fares))

  held_so : (fate : Fate) (o : Option Station) → option_map addressed (option_and_then (λ (s : Station). own_set x12 s.items k) o) ≡ Some set → Some fate ≡ option_and_then (λ s. fate_by_key x12 s k) o
      → Some (pair set fate) ≡ option_and_then (λ s. held_under s k) o
  held_so fate None sent fares = absurd cc
  held_so fate (Some s) sent fares = held_by fate s (own_set x12 s.items k) sent fares

  no_fate : (o : Option Station) → option_map addressed (option_and_then (λ (s : Station). own_set x12 s.items k) o) ≡ Some set → None ≡ option_and_then (λ s. fate_by_key x12 s k) o → ⊥
  no_fate None sent fares = absurd cc
  no_fate (Some s) sent fares = by (own_set x12 s.items k) sent fares
    where
      by : (o : Option OwnSet) → option_map addressed o ≡ Some set → None ≡ option_map (own_fate x12 s.me s.hubs s.items) o → ⊥
      by None sent fares = absurd cc
      by (Some c) sent fares = absurd cc

  -- its audit, by its fate and by what its receiver has
  pub audited_by : (ss : List Station) (w : World) → stations_of w ≡ ss → (fate : Fate) (found : Option ℕ × Bool) → found ≡ found_under (station_among ss set.receiver) k set.bytes
      → IsSubmittedBy ss (record { key = k; set = set }) → Some fate ≡ option_and_then (λ s. fate_by_key x12 s k) (station_among ss k.sender)
      → Some (audit_by k set fate found) ≡ audit x12 w k
  audited_by ss w are fate found receiver sent fares = audited ss w are k set fate found receiver (held_so fate (station_among ss k.sender) sent fares)

  -- it has a fate
  pub has_fate : (ss : List Station) (o : Option Fate) → ((fate : Fate) → o ≢ Some fate) → IsSubmittedBy ss (record { key = k; set = set })
      → o ≡ option_and_then (λ s. fate_by_key x12 s k) (station_among ss k.sender) → ⊥
  has_fate ss (Some fate) none sent fares = none fate refl
  has_fate ss None none sent fares = no_fate (station_among ss k.sender) sent fares

-- What stands once is known by its key.
module _ {X K : Type 0} (f : X → K) where
  differs : (x : X) (xs : List X) (y : X) → AllPairs (λ j k. j ≢ k) (map f (x ∷ xs)) → Contains xs y → f x ≢ f y
  differs x xs y apart h = All-contains (λ k. f x ≢ k) (map f xs) (f y) (pairs_head (λ j k. j ≢ k) (f x) (map f xs) apart) (contains_mapped f xs y h)

  known_by : (xs : List X) (a b : X) → AllPairs (λ j k. j ≢ k) (map f xs) → Contains xs a → Contains xs b → f a ≡ f b → a ≡ b
  known_by [] a b apart ha hb same = none_in_nil a ha
  known_by (x ∷ xs) a b apart ha hb same = elim (contains_cons a x xs ha) [
    | inl first ↦ elim (contains_cons b x xs hb) [
      | inl other ↦ sym first ∙ other
      | inr later ↦ absurd (differs x xs b apart later (ap f first ∙ same))
    ]
    | inr later ↦ elim (contains_cons b x xs hb) [
      | inl first ↦ absurd (differs x xs a apart later (ap f first ∙ sym same))
      | inr other ↦ known_by xs a b (pairs_tail (λ j k. j ≢ k) (f x) (map f xs) apart) later other same
    ]
  ]

-- all that stations submitted
abbrev all_own : List Station → List OwnSet
all_own ss = flat_map (λ (s : Station). own_sets x12 s.items) ss

keys_together : (ss : List Station) → map (own_key x12) (all_own ss) ≡ keys_of_stations ss
keys_together [] = refl
keys_together (s ∷ ss) = map-append (own_key x12) (own_sets x12 s.items) (all_own ss) ∙ ap (λ ks. own_keys x12 s.items ++ ks) (keys_together ss)

module _ (w : World) (facts : ReachedFacts x12 w) (ss : List Station) (are : stations_of w ≡ ss) where
  apart : AllPairs (λ j k. j ≢ k) (map (own_key x12) (all_own ss))
  apart = subst (AllPairs (λ j k. j ≢ k)) (ap keys_of_stations are ∙ sym (keys_together ss)) facts.keys.once

  module _ (c : OwnSet) (there : Contains (all_own ss) c) where
    own_there : (s : Station) (o : Option OwnSet) → Contains ss s → own_set x12 s.items (own_key x12 c) ≡ o → is_some (option_map (audit_of x12 w s) o) ≡ true → o ≡ Some c
    own_there s None here is some = absurd cc
    own_there s (Some d) here is some =
        let found = found_passes (λ e. is_same_key (own_key x12 c) (own_key x12 e)) (own_sets x12 s.items) d is in
        ap Some (known_by (own_key x12) (all_own ss) d c apart (flat_map_contains (λ (s : Station). own_sets x12 s.items) ss s d here found.0) there (sym (same_key (own_key x12 c) (own_key x12 d) found.1)))

    own_found : (o : Option Station) → station_among ss (own_key x12 c).sender ≡ o → is_some (option_and_then (λ s. option_map (audit_of x12 w s) (own_set x12 s.items (own_key x12 c))) o) ≡ true
        → option_and_then (λ (s : Station). own_set x12 s.items (own_key x12 c)) o ≡ Some c
    own_found None is some = absurd cc
    own_found (Some s) is some = own_there s (own_set x12 s.items (own_key x12 c)) (found_passes (λ r. is_same_party r.me (own_key x12 c).sender) ss s is).0 refl some

    submitted_by : IsSubmittedBy ss (outgoing c)
    submitted_by =
        let key : Contains (keys_of x12 w) (own_key x12 c) = subst (λ ks. Contains ks (own_key x12 c)) (keys_together ss ∙ ap keys_of_stations (sym are)) (contains_mapped (own_key x12) (all_own ss) c there) in
        let some = (facts.keys.exactly (own_key x12 c)).0 key in
        ap (option_map addressed) (own_found (station_among ss (own_key x12 c).sender) refl
        (subst (λ ts. is_some (option_and_then (λ s. option_map (audit_of x12 w s) (own_set x12 s.items (own_key x12 c))) (station_among ts (own_key x12 c).sender)) ≡ true) are some))

  -- each set that is listed was submitted by its key's sender
  pub all_submitted_by : (sets : List CodeOutgoingSet) → IsPermutation (sets_of_stations ss) (map outgoing_view sets) → All (λ s. IsSubmittedBy ss (outgoing_view s)) sets
  all_submitted_by sets permuted = all_from_contains (λ s. IsSubmittedBy ss (outgoing_view s)) sets (λ x h.
      let listed = Contains-permutation (map outgoing_view sets) (sets_of_stations ss) (outgoing_view x) (IsPermutation-sym (sets_of_stations ss) (map outgoing_view sets) permuted) (contains_mapped outgoing_view sets x h) in
      let from = contains_flat_map (λ (s : Station). map outgoing (own_sets x12 s.items)) ss (outgoing_view x) listed in
      let own = contains_map outgoing (own_sets x12 from.0.items) (outgoing_view x) from.2 in
      subst (IsSubmittedBy ss) own.2 (submitted_by own.0 (flat_map_contains (λ (s : Station). own_sets x12 s.items) ss from.0 own.0 from.1 own.1)))
