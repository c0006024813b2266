-- What is listed of a station are its submitted sets; all sets, in the order of their keys.
use Rattle.std.specs.Prelude.{◌≡◌, ◌≢◌, ℕ, zero, suc, ◌+◌, ◌<◌, List, [], ◌∷◌, ◌++◌, Bool, true, false, ◌==◌, cond, drop, Option, Some, All, AllPairs, find, flat_map, get_or, length, map, option_to_list, slice_get, take, refl}
use mathlib.Core.Path.{sym, ap, subst, ◌∙◌}
use native.Mathlib.Omega.{arith}
use Rattle.std.specs.List.{AllByRecursion, IsDistinct}
use Rattle.std.proofs.lemmas.List.{append_assoc, append-nil, map-append}
use Rattle.std.proofs.lemmas.List.Elements.{All-head, All-tail}
use Rattle.std.proofs.lemmas.Grind.{flat_map-append}
use Rattle.x12_acks.specs.declared.key.SetKey.{SetKey}
use Rattle.x12_acks.specs.Key.{is_same_key, key_view}
use Rattle.x12_acks.specs.Submission.{TransactionSetKey}
use Rattle.x12_profile.specs.Interchange.{Bytes, PlacedTransactionSet}
use Rattle.x12_profile.specs.X12.{x12}
use Rattle.x12_station.specs.History.{Item, submissions}
use Rattle.x12_station.specs.Key.{own_keys, own_sets}
use Rattle.x12_station.specs.Seen.{StationView}
use Rattle.x12_station.specs.Station.{Station}
use Rattle.x12_numbers.proofs.Shelf.{map_twice, eq_itself}
use Rattle.x12_station.proofs.SeqLemmas.{pairs_head, pairs_tail}
use Rattle.x12_world.specs.Listing.{keys_of_sets, keys_of_stations, sets_of_stations, outgoing_under}
use Rattle.x12_world.specs.Placing.{OutgoingSet, outgoing, outgoing_in, outgoing_view}
use Rattle.x12_world.specs.declared.placing.OutgoingSet.{OutgoingSet as CodeOutgoingSet}
use Rattle.x12_world.specs.Asking.{states_of}
use Rattle.x12_core.specs.Submission.{submitted_numbers}
use Rattle.x12_world.specs.Submission.{numbers_at, AreListed, NumbersRise}
use Rattle.x12_core.specs.declared.submission.Listed.{Listed}
use Rattle.x12_world.proofs.AskingLemmas.{state_there}
use Rattle.x12_world.proofs.AuditingLemmas.{sets_in}
use Rattle.x12_outbound.proofs.FirstEvidenceLemmas.{same_key}
use Rattle.std.proofs.Common.{drop-cons, ne_eqb}

-- Of submissions with rising numbers each is found by its number.
abbrev at_number : ℕ → List Bytes → Option Bytes
at_number n xs = find (λ x. x12.number x == n) xs

all_found : (xs : List Bytes) → AllPairs (λ a b. x12.number a < x12.number b) xs → All (λ y. at_number (x12.number y) xs ≡ Some y) xs
all_found [] rise k d within = absurd (omega (arith, within))
all_found (x ∷ xs) rise zero d within = ap (λ b. cond b (Some x) (at_number (x12.number x) xs)) (eq_itself (x12.number x))
all_found (x ∷ xs) rise (suc k) d within =
    let y = get_or xs k d in
    let up : x12.number x < x12.number y = pairs_head (λ a b. x12.number a < x12.number b) x xs rise k d (omega (arith, within)) in
    ap (λ b. cond b (Some x) (at_number (x12.number y) xs)) (ne_eqb (x12.number x) (x12.number y) (λ e. absurd (omega (arith, up, e))))
    ∙ all_found xs (pairs_tail (λ a b. x12.number a < x12.number b) x xs rise) k d (omega (arith, within))

each_under : (items : List Item) (ys : List Bytes) → All (λ y. at_number (x12.number y) (submissions items) ≡ Some y) ys
    → flat_map (outgoing_under items) (map x12.number ys) ≡ map outgoing (flat_map sets_in ys)
each_under items [] found = refl
each_under items (y ∷ ys) found =
    let here : outgoing_under items (x12.number y) ≡ outgoing_in y = ap (λ o. flat_map outgoing_in (option_to_list o)) (All-head (λ y. at_number (x12.number y) (submissions items) ≡ Some y) y ys found) ∙ append-nil (outgoing_in y) in
    ap (λ ks. ks ++ flat_map (outgoing_under items) (map x12.number ys)) (here ∙ sym (map_twice outgoing (λ (t : PlacedTransactionSet). record { interchange = y; set = t }) (x12.sets y)))
    ∙ ap (λ ks. map outgoing (sets_in y) ++ ks) (each_under items ys (All-tail (λ y. at_number (x12.number y) (submissions items) ≡ Some y) y ys found))
    ∙ sym (map-append outgoing (sets_in y) (flat_map sets_in ys))

-- the sets of a station
abbrev sets_of : Station → List OutgoingSet
sets_of s = map outgoing (own_sets x12 s.items)

-- what is listed of a station gives its sets
of_station : (s : Station) (numbers : List ℕ) → numbers ≡ submitted_numbers s → NumbersRise s → flat_map (outgoing_under s.items) numbers ≡ sets_of s
of_station s numbers is rise = ap (flat_map (outgoing_under s.items)) is ∙ each_under s.items (submissions s.items) (all_found (submissions s.items) rise)

-- one station more
one_station : (ss : List Station) (i : ℕ) (s : Station) (before after : List OutgoingSet) (numbers : List ℕ) → slice_get ss i ≡ Some s → numbers ≡ submitted_numbers s → NumbersRise s
    → before ≡ sets_of_stations (take i ss) → after ≡ before ++ flat_map (outgoing_under s.items) numbers
    → after ≡ sets_of_stations (take (i + 1) ss)
one_station ss i s before after numbers at listed rise was is =
    is ∙ ap (λ ks. ks ++ flat_map (outgoing_under s.items) numbers) was
    ∙ ap (λ ks. sets_of_stations (take i ss) ++ ks) (of_station s numbers listed rise ∙ sym (append-nil (sets_of s)))
    ∙ sym (flat_map-append sets_of (take i ss) (s ∷ []))
    ∙ sym (ap sets_of_stations (taken ss i s at))
  where
    taken : (ts : List Station) (j : ℕ) (t : Station) → slice_get ts j ≡ Some t → take (j + 1) ts ≡ take j ts ++ t ∷ []
    taken [] j t e = absurd cc
    taken (r ∷ ts) zero t e = let same : r ≡ t = cc in ap (λ z. z ∷ []) same
    taken (r ∷ ts) (suc j) t e = let n : suc j + 1 ≡ suc (j + 1) = omega arith in rw n (ap (λ zs. r ∷ zs) (taken ts j t e))

all_at : (P : Station → Type 0) (ss : List Station) (i : ℕ) (s : Station) → All P ss → slice_get ss i ≡ Some s → P s
all_at P [] i s all e = absurd cc
all_at P (r ∷ ss) zero s all e = let same : r ≡ s = cc in subst P same (All-head P r ss all)
all_at P (r ∷ ss) (suc i) s all e = all_at P ss i s (All-tail P r ss all) e

-- of stations that stayed as they were
pub gathered : {R : Type 0} → (first ss : List (StationView R)) (i : ℕ) (old : StationView R) (xs : List Listed) (before after : List OutgoingSet) → i < length ss → old ≡ get_or ss i old → states_of ss ≡ states_of first
    → AreListed (states_of first) xs → All NumbersRise (states_of first) → before ≡ sets_of_stations (take i (states_of first))
    → after ≡ before ++ flat_map (outgoing_under old.state.items) (numbers_at (i + 1) xs)
    → after ≡ sets_of_stations (take (i + 1) (states_of first))
gathered first ss i old xs before after within is same listed rise was put =
    let at : slice_get (states_of first) i ≡ Some old.state = subst (λ ts. slice_get ts i ≡ Some old.state) same (state_there ss i old is within) in
    one_station (states_of first) i old.state before after (numbers_at (i + 1) xs) at (listed i old.state at) (all_at NumbersRise (states_of first) i old.state rise at) was put

-- what is left from a set on
pub cut_there : (sets : List CodeOutgoingSet) (i : ℕ) (x : CodeOutgoingSet) → i < length sets → x ≡ get_or sets i x → drop i sets ≡ x ∷ drop (i + 1) sets
cut_there sets i x within at =
    let next : i + 1 ≡ suc i = omega arith in
    drop-cons sets i x within ∙ ap (λ y. y ∷ drop (suc i) sets) (sym at) ∙ ap (λ n. x ∷ drop n sets) (sym next)

-- one key more
pub one_key_more : (sets : List CodeOutgoingSet) (i : ℕ) (x : CodeOutgoingSet) (keys new : List SetKey) (all : List TransactionSetKey) → i < length sets → x ≡ get_or sets i x
    → new ≡ keys ++ x.key ∷ [] → map key_view keys ++ keys_of_sets (map outgoing_view (drop i sets)) ≡ all
    → map key_view new ++ keys_of_sets (map outgoing_view (drop (i + 1) sets)) ≡ all
one_key_more sets i x keys new all within at is was =
    ap (λ ks. map key_view ks ++ keys_of_sets (map outgoing_view (drop (i + 1) sets))) is
    ∙ ap (λ ks. ks ++ keys_of_sets (map outgoing_view (drop (i + 1) sets))) (map-append key_view keys (x.key ∷ []))
    ∙ append_assoc (map key_view keys) (key_view x.key ∷ []) (keys_of_sets (map outgoing_view (drop (i + 1) sets)))
    ∙ ap (λ xs. map key_view keys ++ keys_of_sets (map outgoing_view xs)) (sym (cut_there sets i x within at))
    ∙ was

-- the keys of the sets of stations are the stations' keys
pub keys_are : (ss : List Station) → keys_of_sets (sets_of_stations ss) ≡ keys_of_stations ss
keys_are [] = refl
keys_are (s ∷ ss) =
    map-append (λ (t : OutgoingSet). t.key) (sets_of s) (sets_of_stations ss)
    ∙ ap (λ ks. ks ++ keys_of_sets (sets_of_stations ss)) (map_twice (λ (t : OutgoingSet). t.key) outgoing (own_sets x12 s.items))
    ∙ ap (λ ks. own_keys x12 s.items ++ ks) (keys_are ss)

-- No key stands twice.
differs : (j k : TransactionSetKey) → j ≢ k → is_same_key j k ≡ false
differs j k ne = by (is_same_key j k) refl
  where
    by : (t : Bool) → is_same_key j k ≡ t → t ≡ false
    by true is = absurd (ne (same_key j k is))
    by false is = refl

row_differs : (j : TransactionSetKey) (ks : List TransactionSetKey) → All (λ k. j ≢ k) ks → AllByRecursion (λ k. is_same_key j k ≡ false) ks
row_differs j [] all = tt
row_differs j (k ∷ ks) all = (differs j k (All-head (λ k. j ≢ k) k ks all), row_differs j ks (All-tail (λ k. j ≢ k) k ks all))

pub keys_differ : (ks : List TransactionSetKey) → AllPairs (λ j k. j ≢ k) ks → IsDistinct (λ j k. is_same_key j k) ks
unfolding IsDistinct
keys_differ [] once = tt
keys_differ (k ∷ ks) once = (row_differs k ks (pairs_head (λ j k. j ≢ k) k ks once), keys_differ ks (pairs_tail (λ j k. j ≢ k) k ks once))
