-- The nodes of a running network: the hubs have their numbers, and a station that changes changes its place alone.
use Rattle.std.specs.Prelude.{◌≡◌, ℕ, zero, suc, ◌-◌, ◌<◌, ◌≤◌, List, [], ◌∷◌, Bool, true, false, ◌&&◌, ◌||◌, ◌≢◌, Option, Some, None, IsSome, IsTrue, Result, Ok, Err, IfErr, OnErr, refl, map, length, set, slice_get, is_some, option_map, option_to_list, get_or, ◌⊎◌, nat_le, ◌==◌}
use mathlib.Core.Path.{sym, ap, ◌∙◌}
use mathlib.Core.Logic.{inl, inr}
use native.Mathlib.Omega.{arith}
use Rattle.std.proofs.lemmas.Bool.Decides.{eqb_tells, leb_tells}
use Rattle.std.proofs.lemmas.List.{map-set, map-append}
use Rattle.std.proofs.Math.Seq.{map-set_same}
use Rattle.std.proofs.lemmas.Option.{slice_get-map, slice_get-get_or}
use Rattle.std.specs.List.{list_any}
use Rattle.x12_envelopes.specs.declared.header.Header.{Header}
use Rattle.x12_envelopes.specs.declared.header.HeaderFault.{HeaderFault}
use Rattle.x12_envelopes.specs.declared.moment.Moment.{Moment}
use Rattle.x12_envelopes.specs.declared.party.Party.{Party}
use Rattle.x12_envelopes.specs.Header.{header_of}
use Rattle.x12_judge.specs.Agreement.{is_same_party}
use Rattle.x12_judge.proofs.BodyLemmas.{some_mapped}
use Rattle.x12_profile.specs.Interchange.{Bytes}
use Rattle.x12_profile.specs.Reading.{header_in}
use Rattle.x12_profile.specs.X12.{x12}
use Rattle.x12_profile.proofs.FieldLemmas as field
use Rattle.x12_hub.specs.Hub.{Hub}
use Rattle.x12_station.specs.Seen.{StationView}
use Rattle.x12_station.specs.Station.{Station}
use Rattle.std.proofs.lemmas.Bool.{and_parts, and_from}
use Rattle.x12_core.specs.Ask.{Ask, does_at, suits}
use Rattle.x12_core.specs.Core.{IsCoreRefusal}
use Rattle.x12_world.specs.Asks.{IsAsked, IsAskedInVain}
use Rattle.x12_core.specs.declared.fault.CoreFault.{CoreFault}
use Rattle.x12_core.specs.Packet.{Packet}
use Rattle.x12_numbers.proofs.Shelf.{any_append, false_is_never_true}
use Rattle.x12_world.specs.Nodes.{all_nodes, node_at, with_node, is_hub_number}
use Rattle.x12_world.specs.declared.hubs.Hubs.{Hubs as CodeHubs}
use Rattle.x12_world.specs.Running.{HasNumbers, Hubs, hubs_in, all_answer, beside, nodes_of, station_nodes}
use Rattle.x12_world.specs.EventRefusal.{is_spoken_for, may_be_asked}
use Rattle.x12_core.specs.declared.packet.Site.{Site}
use Rattle.x12_core.specs.Node.{Node, IsHub, IsStation, is_station, party_of_node, second_hub_node}
use Rattle.x12_world.specs.World.{World, Outside, parties_of}
use Rattle.x12_world.proofs.KeyLemmas.{false_true}

pub if_err : {A E : Type 0} (r : Result A E) (P Q : E → Type 0) → ((e : E) → P e → Q e) → IfErr r P → IfErr r Q
if_err (Ok a) P Q f h = tt
if_err (Err e) P Q f h = f e h

pub on_err : {A E : Type 0} (r : Result A E) (P Q : Type 0) → (P → Q) → OnErr r P → OnErr r Q
on_err (Ok a) P Q f h = tt
on_err (Err e) P Q f h = f h

-- the station that changed answers, if all do
pub answers_there : {R : Type 0} → (ss : List (StationView R)) (i : ℕ) (new : StationView R) → i < length ss → IsTrue (all_answer (set ss i new)) → IsTrue new.answers
answers_there [] i new lt h = absurd (omega arith)
answers_there (s ∷ ss) zero new lt h = (and_parts new.answers (all_answer ss) h).0
answers_there (s ∷ ss) (suc i) new lt h = answers_there ss i new (omega arith) (and_parts s.answers (all_answer (set ss i new)) h).1

-- and all did before
pub answered_before : {R : Type 0} → (ss : List (StationView R)) (i : ℕ) (new d : StationView R) → i < length ss → (IsTrue new.answers → IsTrue (get_or ss i d).answers) → IsTrue (all_answer (set ss i new)) → IsTrue (all_answer ss)
answered_before [] i new d lt still h = refl
answered_before (s ∷ ss) zero new d lt still h =
    let e = and_parts new.answers (all_answer ss) h in
    and_from s.answers (all_answer ss) (still e.0) e.1
answered_before (s ∷ ss) (suc i) new d lt still h =
    let e = and_parts s.answers (all_answer (set ss i new)) h in
    and_from s.answers (all_answer ss) e.0 (answered_before ss i new d (omega arith) still e.1)

pub behind : {A : Type 0} (x : A) (xs : List A) (n : ℕ) → 1 ≤ n → slice_get (x ∷ xs) n ≡ slice_get xs (n - 1)
behind x xs zero le = absurd (omega arith)
behind x xs (suc n) le = let e : suc n - 1 ≡ n = omega arith in rw e refl

pub set_behind : {A : Type 0} (x y : A) (xs : List A) (n : ℕ) → 1 ≤ n → set (x ∷ xs) n y ≡ x ∷ set xs (n - 1) y
set_behind x y xs zero le = absurd (omega arith)
set_behind x y xs (suc n) le = let e : suc n - 1 ≡ n = omega arith in rw e refl

-- a number of a station isn't the second hub's
pub below : {R : Type 0} → (h : Hubs) (ss : List (StationView R)) (node : ℕ) → HasNumbers h ss → node ≤ length ss → IsSome h.second → node ≢ second_hub_node
below h ss node numbers high some is = let le = numbers some in absurd (omega (arith, le, high, is))

-- what stands beside the hubs, under its number
module _ (first : Hub) (homes : List ℕ) (ns : List Node) (node : ℕ) where
  abbrev hubs_with : Option Hub → Hubs
  hubs_with second = record { first = first; second = second; homes = homes }

  found_beside : (second : Option Hub) → (IsSome second → node ≢ second_hub_node) → node_at (beside (hubs_with second) ns) node ≡ slice_get (IsHub first ∷ ns) node
  found_beside None apart = refl
  found_beside (Some k) apart = elim (eqb_tells node second_hub_node) [ inl e ↦ absurd (apart refl e.1) | inr e ↦ rw (e.0) refl ]

  changed_beside : (second : Option Hub) → (IsSome second → node ≢ second_hub_node) → (n : Node) → with_node (beside (hubs_with second) ns) node n ≡ record (beside (hubs_with second) ns) { listed = set (IsHub first ∷ ns) node n }
  changed_beside None apart n = refl
  changed_beside (Some k) apart n = elim (eqb_tells node second_hub_node) [ inl e ↦ absurd (apart refl e.1) | inr e ↦ rw (e.0) refl ]

pub listed_beside : (h : Hubs) (ns : List Node) (node : ℕ) → (IsSome h.second → node ≢ second_hub_node) → node_at (beside h ns) node ≡ slice_get (IsHub h.first ∷ ns) node
listed_beside h ns node apart = found_beside h.first h.homes ns node h.second apart

pub with_listed : (h : Hubs) (ns : List Node) (node : ℕ) → (IsSome h.second → node ≢ second_hub_node) → (n : Node) → with_node (beside h ns) node n ≡ record (beside h ns) { listed = set (IsHub h.first ∷ ns) node n }
with_listed h ns node apart n = changed_beside h.first h.homes ns node h.second apart n

-- the station at a node
pub station_there : {R : Type 0} → (h : Hubs) (ss : List (StationView R)) (node : ℕ) (old : StationView R) → HasNumbers h ss → 1 ≤ node → node ≤ length ss → old ≡ get_or ss (node - 1) old → node_at (nodes_of h ss) node ≡ Some (IsStation old.state)
station_there h ss node old numbers low high is =
    listed_beside h (station_nodes ss) node (below h ss node numbers high)
    ∙ behind (IsHub h.first) (station_nodes ss) node low
    ∙ slice_get-map (λ (s : StationView _). IsStation s.state) ss (node - 1)
    ∙ rw (slice_get-get_or ss (node - 1) old (omega arith)) (ap (λ (s : StationView _). Some (IsStation s.state)) (sym is))

-- the nodes once it changed
pub nodes_changed : {R : Type 0} → (h : Hubs) (ss : List (StationView R)) (node : ℕ) (new : StationView R) → HasNumbers h ss → 1 ≤ node → node ≤ length ss → nodes_of h (set ss (node - 1) new) ≡ with_node (nodes_of h ss) node (IsStation new.state)
nodes_changed h ss node new numbers low high =
    ap (λ ns. record (nodes_of h ss) { listed = IsHub h.first ∷ ns }) (map-set (λ (s : StationView _). IsStation s.state) ss (node - 1) new)
    ∙ ap (λ ns. record (nodes_of h ss) { listed = ns }) (sym (set_behind (IsHub h.first) (IsStation new.state) (station_nodes ss) node low))
    ∙ sym (with_listed h (station_nodes ss) node (below h ss node numbers high) (IsStation new.state))

pub stations_kept : {R : Type 0} → (ss : List (StationView R)) (i : ℕ) (new old : StationView R) → old ≡ get_or ss i old → new.state ≡ old.state → station_nodes (set ss i new) ≡ station_nodes ss
stations_kept ss i new old is same = map-set_same (λ (s : StationView _). IsStation s.state) ss i new old (ap IsStation same ∙ ap (λ (s : StationView _). IsStation s.state) is)

-- the station was asked
pub asked : {R : Type 0} → (ask : Ask) (h : Hubs) (ss : List (StationView R)) (at : Site) (old new : StationView R) (sends : List Packet) → HasNumbers h ss → 1 ≤ at.node → at.node ≤ length ss → old ≡ get_or ss (at.node - 1) old
    → does_at x12 at ask (IsStation old.state) ≡ Some (record { node = IsStation new.state; sends = sends })
    → IsAsked ask at (nodes_of h ss) (nodes_of h (set ss (at.node - 1) new)) sends
asked ask h ss at old new sends numbers low high is effect = record {
  node = IsStation old.state;
  is = station_there h ss at.node old numbers low high is;
  next = IsStation new.state;
  effect = effect;
  nodes = nodes_changed h ss at.node new numbers low high;
}

pub asked_in_vain : {R : Type 0} → (ask : Ask) (h : Hubs) (ss : List (StationView R)) (node : ℕ) (old : StationView R) (r : CoreFault) → HasNumbers h ss → 1 ≤ node → node ≤ length ss → old ≡ get_or ss (node - 1) old
    → IsCoreRefusal node ask (IsStation old.state) r → IsAskedInVain ask node (nodes_of h ss) r
asked_in_vain ask h ss node old r numbers low high is why = record {
  node = IsStation old.state;
  is = station_there h ss node old numbers low high is;
  why = why;
}

-- what stands at a number
some_station : {R : Type 0} → (ss : List (StationView R)) (i : ℕ) → i < length ss → (s : Station) × (slice_get (station_nodes ss) i ≡ Some (IsStation s))
some_station [] i lt = absurd (omega arith)
some_station (s ∷ ss) zero lt = (s.state, refl)
some_station (s ∷ ss) (suc i) lt = some_station ss i (omega arith)

no_station : {R : Type 0} → (ss : List (StationView R)) (i : ℕ) → length ss ≤ i → slice_get (station_nodes ss) i ≡ None
no_station [] i le = refl
no_station (s ∷ ss) zero le = absurd (omega arith)
no_station (s ∷ ss) (suc i) le = no_station ss i (omega arith)

le_or_gt : (m n : ℕ) → (m ≤ n) ⊎ (n < m)
le_or_gt m n = elim (leb_tells m n) [
  | inl le ↦ inl le.1
  | inr gt ↦ inr gt.1
]

-- what stands under a number: a hub, a station, or nothing
pub data At {R : Type 0} (h : Hubs) (ss : List (StationView R)) (node : ℕ) : Type 0 where
  at_hub : (k : Hub) → is_hub_number (is_some h.second) node ≡ true → node_at (nodes_of h ss) node ≡ Some (IsHub k) → At h ss node
  at_station : (s : Station) → is_hub_number (is_some h.second) node ≡ false → 1 ≤ node → node ≤ length ss → node_at (nodes_of h ss) node ≡ Some (IsStation s) → At h ss node
  at_none : is_hub_number (is_some h.second) node ≡ false → length ss < node → node_at (nodes_of h ss) node ≡ None → At h ss node

module _ {R : Type 0} (h : Hubs) (ss : List (StationView R)) (node : ℕ) (numbers : HasNumbers h ss) where
  -- a number that is no hub's
  behind_hubs : is_hub_number (is_some h.second) node ≡ false → 1 ≤ node → (IsSome h.second → node ≢ second_hub_node) → At h ss node
  behind_hubs isnt low apart = elim (le_or_gt node (length ss)) [
    | inl le ↦ let there = some_station ss (node - 1) (omega (arith, low, le)) in
        at_station there.0 isnt low le (listed_beside h (station_nodes ss) node apart ∙ behind (IsHub h.first) (station_nodes ss) node low ∙ there.1)
    | inr past ↦ at_none isnt past (listed_beside h (station_nodes ss) node apart ∙ behind (IsHub h.first) (station_nodes ss) node low ∙ no_station ss (node - 1) (omega (arith, low, past)))
  ]

  pub where_is : At h ss node
  where_is = elim (eqb_tells node 0) [
    | inl zero_is ↦ at_hub h.first (rw (zero_is.0) refl) (rw (zero_is.1) (listed_beside h (station_nodes ss) 0 (λ some e. absurd cc)))
    | inr some ↦ by_second h.second refl some.0 (let apart = some.1 in omega (arith, apart))
  ]
    where
      by_second : (second : Option Hub) → h.second ≡ second → (node == 0) ≡ false → 1 ≤ node → At h ss node
      by_second None is isnt low = behind_hubs (rw (isnt, is) refl) low (λ some. false_is_never_true (ap is_some (sym is) ∙ some))
      by_second (Some k) is isnt low = elim (eqb_tells node second_hub_node) [
        | inl e ↦ at_hub k (rw (isnt, is, e.0) refl) (rw (is, e.0) refl)
        | inr e ↦ behind_hubs (rw (isnt, is, e.0) refl) low (λ some. e.1)
      ]

  -- the tests of a number
  pub station_test : (node ≡ 0 → ⊥) → nat_le node (length ss) ≡ is_station (node_at (nodes_of h ss) node)
  station_test some = by where_is
    where
      low : nat_le node (length ss) ≡ true → node ≤ length ss
      low e = elim (leb_tells node (length ss)) [ inl le ↦ le.1 | inr gt ↦ absurd (false_true (sym gt.0 ∙ e)) ]

      -- a hub's number that isn't 0 is above those of the stations
      no_room : (k : Hub) → is_hub_number (is_some h.second) node ≡ true → node ≤ length ss → ⊥
      no_room k tells high = elim (eqb_tells node 0) [
        | inl zero_is ↦ some zero_is.1
        | inr not_zero ↦ by_second (is_some h.second) refl (rw (not_zero.0) at tells)
      ]
        where
          by_second : (b : Bool) → is_some h.second ≡ b → (b && (node == second_hub_node)) ≡ true → ⊥
          by_second false is e = absurd (false_true e)
          by_second true is e = elim (eqb_tells node second_hub_node) [
            | inl same ↦ below h ss node numbers high is same.1
            | inr apart ↦ absurd (false_true (sym apart.0 ∙ e))
          ]

      by : At h ss node → nat_le node (length ss) ≡ is_station (node_at (nodes_of h ss) node)
      by (at_hub k tells at) = elim (leb_tells node (length ss)) [
        | inl le ↦ absurd (no_room k tells le.1)
        | inr gt ↦ gt.0 ∙ sym (ap is_station at)
      ]
      by (at_station s isnt least high at) = elim (leb_tells node (length ss)) [
        | inl le ↦ le.0 ∙ sym (ap is_station at)
        | inr gt ↦ let past = gt.1 in absurd (omega (arith, past, high))
      ]
      by (at_none isnt past at) = elim (leb_tells node (length ss)) [
        | inl le ↦ let high = le.1 in absurd (omega (arith, past, high))
        | inr gt ↦ gt.0 ∙ sym (ap is_station at)
      ]

  pub node_test : (is_hub_number (is_some h.second) node || is_station (node_at (nodes_of h ss) node)) ≡ is_some (node_at (nodes_of h ss) node)
  node_test = by where_is
    where
      by : At h ss node → (is_hub_number (is_some h.second) node || is_station (node_at (nodes_of h ss) node)) ≡ is_some (node_at (nodes_of h ss) node)
      by (at_hub k tells at) = rw (tells, at) refl
      by (at_station s isnt low high at) = rw (isnt, at) refl
      by (at_none isnt past at) = rw (isnt, at) refl

  -- whether it is asked so: a hub by its number, and else a station
  pub hub_asked : (a : Ask) (r : Bool) → is_hub_number (is_some h.second) node ≡ true → ((k : Hub) → r ≡ suits node a (IsHub k)) → r ≡ may_be_asked node a (node_at (nodes_of h ss) node)
  hub_asked a r tells each = by where_is
    where
      by : At h ss node → r ≡ may_be_asked node a (node_at (nodes_of h ss) node)
      by (at_hub k is at) = rw at (each k)
      by (at_station s isnt low high at) = absurd (false_true (sym isnt ∙ tells))
      by (at_none isnt past at) = absurd (false_true (sym isnt ∙ tells))

  pub station_asked : (a : Ask) (r : Bool) → is_hub_number (is_some h.second) node ≡ false → is_station (node_at (nodes_of h ss) node) ≡ true → ((s : Station) → r ≡ suits node a (IsStation s)) → r ≡ may_be_asked node a (node_at (nodes_of h ss) node)
  station_asked a r isnt there each = by where_is
    where
      by : At h ss node → r ≡ may_be_asked node a (node_at (nodes_of h ss) node)
      by (at_hub k tells at) = absurd (false_true (sym isnt ∙ tells))
      by (at_station s also low high at) = rw at (each s)
      by (at_none also past at) = absurd (false_true (sym (ap is_station at) ∙ there))

  pub none_asked : (a : Ask) → is_hub_number (is_some h.second) node ≡ false → is_station (node_at (nodes_of h ss) node) ≡ false → false ≡ may_be_asked node a (node_at (nodes_of h ss) node)
  none_asked a isnt there = by where_is
    where
      by : At h ss node → false ≡ may_be_asked node a (node_at (nodes_of h ss) node)
      by (at_hub k tells at) = absurd (false_true (sym isnt ∙ tells))
      by (at_station s also low high at) = absurd (false_true (sym there ∙ ap is_station at))
      by (at_none also past at) = rw at refl

  -- who is asked and is no hub is a station
  pub station_meant : (a : Ask) → is_hub_number (is_some h.second) node ≡ false → may_be_asked node a (node_at (nodes_of h ss) node) ≡ true → (1 ≤ node) × (node ≤ length ss)
  station_meant a isnt asked = by where_is
    where
      by : At h ss node → (1 ≤ node) × (node ≤ length ss)
      by (at_hub k tells at) = absurd (false_true (sym isnt ∙ tells))
      by (at_station s also low high at) = (low, high)
      by (at_none also past at) = absurd (false_true (sym (ap (may_be_asked node a) at) ∙ asked))

-- the code's hubs have a second one where the definition's do
pub second_kept : {H : Type 0} → (h : CodeHubs H) (node : ℕ) → is_hub_number (is_some h.second) node ≡ is_hub_number (is_some (hubs_in h).second) node
second_kept h node = ap (λ b. is_hub_number b node) (some_mapped (λ k. k.hub) h.second)

-- 16 stations leave the second hub its number
pub few_numbers : {H R : Type 0} → (h : CodeHubs H) (ss : List (StationView R)) → length ss ≤ 16 → HasNumbers (hubs_in h) ss
few_numbers h ss few = λ some. few

-- the stations' parties
pub stations_named : {R : Type 0} → (party : Party) (ss : List (StationView R)) → list_any (λ (s : StationView R). is_same_party party s.state.me) ss ≡ list_any (is_same_party party) (map party_of_node (station_nodes ss))
stations_named party [] = refl
stations_named party (s ∷ ss) = rw (stations_named party ss) refl

second_named : (o : Option Hub) → map party_of_node (option_to_list (option_map IsHub o)) ≡ map (λ (k : Hub). k.me) (option_to_list o)
second_named None = refl
second_named (Some k) = refl

-- the parties of all nodes: the first hub's, the stations', and the second hub's
pub all_named : {R : Type 0} → (party : Party) (h : Hubs) (ss : List (StationView R)) → list_any (is_same_party party) (map party_of_node (all_nodes (nodes_of h ss)))
    ≡ (is_same_party party h.first.me || (list_any (λ (s : StationView R). is_same_party party s.state.me) ss || list_any (is_same_party party) (map (λ (k : Hub). k.me) (option_to_list h.second))))
all_named party h ss =
    let is = is_same_party party in
    let stations = map party_of_node (station_nodes ss) in
    let second = map party_of_node (option_to_list (option_map IsHub h.second)) in
    ap (λ b. is h.first.me || b) (
    ap (list_any is) (map-append party_of_node (station_nodes ss) (option_to_list (option_map IsHub h.second)))
    ∙ any_append is stations second
    ∙ ap (λ b. b || list_any is second) (sym (stations_named party ss))
    ∙ ap (λ ps. list_any (λ (s : StationView _). is s.state.me) ss || list_any is ps) (second_named h.second)
    )

-- bytes from outside whose header can be read, and others
pub spoken_for : (w : World) (i : ℕ) (b : Bytes) (m : Moment) (h : Header) → header_of b ≡ Ok h → is_spoken_for x12 w (Outside i b m) ≡ list_any (is_same_party h.sender) (parties_of w)
spoken_for w i b m h is = rw (field.has_header_is b h is, field.sender_is b h is) refl

pub unread : (b : Bytes) (f : HeaderFault) → header_of b ≡ Err f → x12.has_header b ≡ false
unfolding x12 header_in
unread b f is = rw is refl

pub not_spoken_for : (w : World) (i : ℕ) (b : Bytes) (m : Moment) (f : HeaderFault) → header_of b ≡ Err f → is_spoken_for x12 w (Outside i b m) ≡ false
not_spoken_for w i b m f is = rw (unread b f is) refl
