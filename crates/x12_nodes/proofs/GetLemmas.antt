-- What `get` and a search by stamp find.
use Rattle.std.proofs.Common.{◌≡◌, ◌≢◌, ℕ, zero, suc, ◌-◌, ◌<◌, ◌≤◌, List, [], ◌∷◌, Option, Some, None, IfSome, Bor, map, length, get_or, refl, option_map, slice_get, sym, ap, ◌∙◌, arith, All, AllPairs}
use Rattle.std.specs.List.{HoldsAt}
use Rattle.std.specs.Option.{option_copied}
use Rattle.std.specs.Prelude.{MatchOption}
use Rattle.std.proofs.lemmas.List.Elements.{All-nil, All-cons}
use Rattle.std.proofs.lemmas.List.Kept.{AllPairs-cons}
use Rattle.std.proofs.lemmas.Option.{slice_get_past, slice_get_read, slice_get-map}
use Rattle.x12_core.specs.Packet.{Packet}
use Rattle.x12_nodes.specs.Finding.{packet_at_place}
use Rattle.x12_nodes.specs.Log.{LogEntry, StampsRise}
use Rattle.x12_numbers.proofs.Shelf.{no_pairs}

-- what stands there is what stands there for
pub got : {X Y : Type 0} (v : X → Y) (r : Option (Bor X)) (xs : List X) (i : ℕ) → IfSome r (λ x. x.now ≡ get_or xs i x.now) → MatchOption r (length xs ≤ i) (λ x. (i < length xs) × HoldsAt (λ y. x.now ≡ y) xs i)
    → option_map v (option_copied r) ≡ slice_get (map v xs) i
got v None xs i value h = sym (slice_get-map v xs i ∙ ap (option_map v) (slice_get_past xs i h))
got v (Some x) xs i value h = sym (slice_get-map v xs i ∙ ap (option_map v) (slice_get_read xs (length xs) i x.now refl h.0 value))

pub place_above : (place : ℕ) (qs : List Packet) → place ≢ 0 → packet_at_place place qs ≡ slice_get qs (place - 1)
place_above zero qs above = absurd (above refl)
place_above (suc k) qs above = let e : suc k - 1 ≡ k = omega arith in rw e refl

all_above : (r s : ℕ) (es : List LogEntry) → r ≤ s → StampsRise s es → All (λ (e : LogEntry). r < e.stamp) es
all_above r s [] le rises = All-nil (λ (e : LogEntry). r < e.stamp)
all_above r s (e ∷ es) le rises = All-cons (λ (d : LogEntry). r < d.stamp) e es (let lt = rises.0 in omega arith) (all_above r e.stamp es (let lt = rises.0 in omega arith) rises.2)

pub stamps_apart : (s : ℕ) (es : List LogEntry) → StampsRise s es → AllPairs (λ (d e : LogEntry). d.stamp < e.stamp) es
stamps_apart s [] rises = no_pairs (λ (d e : LogEntry). d.stamp < e.stamp)
stamps_apart s (e ∷ es) rises = AllPairs-cons (λ (d f : LogEntry). d.stamp < f.stamp) e es (all_above e.stamp e.stamp es (omega arith) rises.2) (stamps_apart e.stamp es rises.2)

-- an index, and what stands there, without what is between
pub index_and_entry : (o : Option ℕ) (A B C : ℕ → Type 0) → IfSome o (λ i. A i × B i × C i) → IfSome o (λ i. A i × C i)
index_and_entry None A B C h = h
index_and_entry (Some i) A B C h = (h.0, h.2)
