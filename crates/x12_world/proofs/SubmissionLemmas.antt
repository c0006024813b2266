-- What was submitted is listed: a station's submissions grow at its submissions alone.
use Rattle.std.specs.Prelude.{◌≡◌, ◌≢◌, ℕ, zero, suc, ◌+◌, ◌<◌, List, [], ◌∷◌, ◌++◌, true, ◌==◌, cond, Option, Some, All, filter, flat_map, map, length, get_or, set, slice_get, refl}
use mathlib.Core.Path.{sym, ap, subst, ◌∙◌}
use mathlib.Core.Logic.{inl, inr}
use native.Mathlib.Omega.{arith}
use Rattle.std.proofs.lemmas.Bool.Decides.{eqb_tells}
use Rattle.std.proofs.lemmas.List.{append-nil, map-append, map-set}
use Rattle.std.proofs.lemmas.List.Elements.{All-head, All-tail, filter-append}
use Rattle.x12_envelopes.specs.declared.party.Party.{Party}
use Rattle.x12_station.specs.Seen.{StationView}
use Rattle.x12_station.specs.Station.{Station}
use Rattle.x12_station.proofs.ListLemmas.{get_set_other}
use Rattle.x12_numbers.proofs.Shelf.{eq_itself, slice_get_set_same}
use Rattle.x12_core.specs.declared.submission.Listed.{Listed}
use Rattle.x12_world.specs.Asking.{states_of}
use Rattle.x12_world.specs.Audit.{station_in}
use Rattle.x12_world.specs.Founding.{IsMember}
use Rattle.x12_world.specs.Nodes.{Nodes}
use Rattle.x12_world.specs.Running.{Hubs, nodes_of, station_nodes}
use Rattle.x12_world.proofs.AskingLemmas.{state_there, stations_are}
use Rattle.x12_core.specs.Submission.{submitted_numbers, SubmitsMore}
use Rattle.x12_world.specs.Submission.{numbers_at, AreListed, ListsMore}
use Rattle.std.proofs.Common.{ne_eqb}

-- The list, once one station became another.
all_passes : (node : ℕ) (xs : List Listed) → All (λ (y : Listed). y.node ≡ node) xs → filter (λ (y : Listed). y.node == node) xs ≡ xs
all_passes node [] all = refl
all_passes node (x ∷ xs) all =
    let e : (x.node == node) ≡ true = rw (All-head (λ (y : Listed). y.node ≡ node) x xs all) (eq_itself node) in
    ap (λ t. cond t (x ∷ filter (λ (y : Listed). y.node == node) xs) (filter (λ (y : Listed). y.node == node) xs)) e
    ∙ ap (λ ys. x ∷ ys) (all_passes node xs (All-tail (λ (y : Listed). y.node ≡ node) x xs all))

none_passes : (node other : ℕ) (xs : List Listed) → other ≢ node → All (λ (y : Listed). y.node ≡ node) xs → filter (λ (y : Listed). y.node == other) xs ≡ []
none_passes node other [] ne all = refl
none_passes node other (x ∷ xs) ne all =
    let is : x.node ≡ node = All-head (λ (y : Listed). y.node ≡ node) x xs all in
    ap (λ t. cond t (x ∷ filter (λ (y : Listed). y.node == other) xs) (filter (λ (y : Listed). y.node == other) xs)) (ne_eqb x.node other (λ e. ne (sym e ∙ is)))
    ∙ none_passes node other xs ne (All-tail (λ (y : Listed). y.node ≡ node) x xs all)

pub numbers-append : (node : ℕ) (xs ys : List Listed) → numbers_at node (xs ++ ys) ≡ numbers_at node xs ++ numbers_at node ys
numbers-append node xs ys =
    ap (map (λ (y : Listed). y.icn)) (filter-append (λ (y : Listed). y.node == node) xs ys)
    ∙ map-append (λ (y : Listed). y.icn) (filter (λ (y : Listed). y.node == node) xs) (filter (λ (y : Listed). y.node == node) ys)

some_station : {a b : Station} → Some a ≡ Some b → a ≡ b
some_station e = cc

pub lists_more : (ss : List Station) (i node : ℕ) (old new : Station) (more : List Listed) → node ≡ i + 1 → slice_get ss i ≡ Some old → SubmitsMore node old new more → ListsMore ss (set ss i new) more
lists_more ss i node old new more is at did xs was j s there = elim (eqb_tells j i) [
  | inl same ↦
      let here : slice_get (set ss i new) i ≡ Some s = subst (λ k. slice_get (set ss i new) k ≡ Some s) same.1 there in
      let mine : new ≡ s = some_station (sym (slice_get_set_same ss i new old at) ∙ here) in
      let place : j + 1 ≡ node = let e = same.1 in omega arith in
      ap (λ k. numbers_at k (xs ++ more)) place
      ∙ numbers-append node xs more
      ∙ ap (λ ns. ns ++ numbers_at node more) (ap (λ k. numbers_at k xs) is ∙ was i old at)
      ∙ ap (λ ys. submitted_numbers old ++ map (λ (y : Listed). y.icn) ys) (all_passes node more did.theirs)
      ∙ sym did.numbers
      ∙ ap submitted_numbers mine
  | inr other ↦
      let before : slice_get ss j ≡ Some s = sym (get_set_other ss i j new other.1) ∙ there in
      let far : j + 1 ≢ node = λ e. other.1 (omega (arith, e, is)) in
      numbers-append (j + 1) xs more
      ∙ ap (λ ys. numbers_at (j + 1) xs ++ map (λ (y : Listed). y.icn) ys) (none_passes node (j + 1) more far did.theirs)
      ∙ append-nil (numbers_at (j + 1) xs)
      ∙ was j s before
]

-- no station became another, and nothing is listed
pub lists_nothing : (ss : List Station) (more : List Listed) → more ≡ [] → ListsMore ss ss more
lists_nothing ss more is xs was j s at = ap (numbers_at (j + 1)) (ap (λ ys. xs ++ ys) is ∙ append-nil xs) ∙ was j s at

-- the states, once one station became another
pub states_set : {R : Type 0} → (ss : List (StationView R)) (i : ℕ) (new : StationView R) → states_of (set ss i new) ≡ set (states_of ss) i new.state
states_set ss i new = map-set (λ (s : StationView _). s.state) ss i new

-- Where nothing was done yet, nothing is listed.
pub new_listed : {R : Type 0} → (hub : Party) (second : Option Party) (ss : List (StationView R)) → All (λ (s : StationView R). IsMember hub second s.state) ss → AreListed (states_of ss) []
new_listed hub second [] all i s at = absurd (cc)
new_listed hub second (r ∷ ss) all zero s at =
    let m = All-head (λ (t : StationView _). IsMember hub second t.state) r ss all in
    let mine : r.state ≡ s = some_station at in
    sym (ap submitted_numbers (sym mine ∙ m.new))
new_listed hub second (r ∷ ss) all (suc i) s at = new_listed hub second ss (All-tail (λ (t : StationView _). IsMember hub second t.state) r ss all) i s at

-- a station of the code's
pub station_lists : {R : Type 0} → (ss : List (StationView R)) (i node : ℕ) (old new : StationView R) (more : List Listed) → node ≡ i + 1 → i < length ss → old ≡ get_or ss i old → SubmitsMore node old.state new.state more
    → ListsMore (states_of ss) (states_of (set ss i new)) more
station_lists ss i node old new more at within is did =
    subst (λ ts. ListsMore (states_of ss) ts more) (sym (states_set ss i new)) (lists_more (states_of ss) i node old.state new.state more at (state_there ss i old is within) did)

-- the states are those of the nodes
pub states_by : {R : Type 0} → (ss rs : List (StationView R)) → station_nodes rs ≡ station_nodes ss → states_of rs ≡ states_of ss
states_by ss rs same = sym (stations_are rs) ∙ ap (flat_map station_in) same ∙ stations_are ss

-- where the nodes stay
pub still_listed : {R : Type 0} → (h k : Hubs) (ss rs : List (StationView R)) (xs ys : List Listed) → nodes_of k rs ≡ nodes_of h ss → ys ≡ xs → AreListed (states_of ss) xs → AreListed (states_of rs) ys
still_listed h k ss rs xs ys nodes same was =
    let states : states_of rs ≡ states_of ss = sym (stations_are rs) ∙ ap (λ (z : Nodes). flat_map station_in z.listed) nodes ∙ stations_are ss in
    subst (λ ts. AreListed ts ys) (sym states) (subst (AreListed (states_of ss)) (sym same) was)
