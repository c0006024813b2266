-- What was checked of cells and passes makes them a settled network.
use Rattle.std.proofs.Common.{◌≡◌, ℕ, zero, suc, ◌+◌, ◌-◌, ◌^◌, ◌<◌, List, [], ◌∷◌, Bool, false, true, ◌==◌, ◌&&◌, nat_lt, not, Option, Some, None, IsSome, IsTrue, All, Contains, bytes_eq, find, is_some, map, length, option_map, refl, slice_get, option_and_then, sym, ap, subst, ◌∙◌, inl, inr, arith}
use Rattle.std.proofs.lemmas.Bool.{and_parts, not-true}
use Rattle.std.specs.List.{list_all}
use Rattle.std.proofs.lemmas.Bool.Decides.{nat_tests}
use Rattle.std.proofs.lemmas.List.{length-map}
use Rattle.std.proofs.lemmas.Option.{get_or_from_slice_get, slice_get_within}
use Rattle.x12_core.specs.Action.{node_served}
use Rattle.x12_core.specs.Ask.{Ask, Do, Comes, Outside, Fate}
use Rattle.x12_core.specs.Node.{Node}
use Rattle.x12_core.specs.Packet.{Load, Deposit, Item, Refusal, Taken, Packet, PacketName}
use Rattle.x12_nodes.specs.Cell.{CellView, IsReplayed, opening_node}
use Rattle.x12_nodes.specs.Cells.{cell_at, nodes_now, split}
use Rattle.x12_nodes.specs.Check.{all_ask_for_nodes, all_came_rightly, asks_for_node, came_rightly, is_another, load_is, names_one, packet_from, packet_is, parties_opened, are_network, are_numbered, is_replay, stamps_logged}
use Rattle.x12_nodes.specs.Settling.{all_cells_answer, AreOneRun}
use Rattle.x12_nodes.proofs.CellsLemmas.{cells_apart, home_is, node_is, number_at_place, number_of, same_number}
use Rattle.x12_nodes.proofs.FoundingLemmas.{opens_network, OpensAs}
use Rattle.x12_nodes.specs.Finding.{entry_at, packet_at_place, packet_sent}
use Rattle.x12_nodes.specs.Law.{IsAnother, IsSentBy, NamesNone, ServesAnother, IsFairAmong, AllFair, EachReplays, MergeIsRun, FairAmongIsFair}
use Rattle.x12_nodes.specs.Log.{LogEntry, Replays, StampsRise}
use Rattle.x12_nodes.specs.Merge.{Logged, entries_of}
use Rattle.x12_nodes.specs.Merging.{merged_onto, stamp_itself, stamps_rise_from}
use Rattle.x12_nodes.proofs.OwnLemmas.{Apart, found_itself, labelled, merge_of, own_of, came_from}
use Rattle.x12_nodes.proofs.MergingLemmas.{map_onto}
use Rattle.x12_numbers.proofs.Shelf.{contains_head, contains_tail, contains_cons, contains_mapped, none_in_nil, bytes_eq_tells, eq_itself, false_is_never_true, found_passes, map_twice, some_inj}
use Rattle.x12_judge.proofs.BodyLemmas.{some_mapped}
use Rattle.x12_station.proofs.ListLemmas.{contains_filter}
use Rattle.x12_world.specs.Network.{Network, new_nodes}
use Rattle.x12_world.specs.Nodes.{Nodes, home_of, node_at, site_of}
use Rattle.x12_world.proofs.NodesLemmas.{contains_get}

abbrev pub log_of : CellView → List LogEntry
log_of c = c.log

abbrev pub logged_at : ℕ → LogEntry → Logged
logged_at i e = record { node = i; entry = e }

abbrev pub node_in : Logged → ℕ
node_in x = x.node

abbrev pub stamp_in : Logged → ℕ
stamp_in x = x.entry.stamp

abbrev pub entry_in : Logged → LogEntry
entry_in x = x.entry

-- the logs under the numbers of their nodes, and merged
abbrev logs_of : List CellView → List (List Logged)
logs_of cells = labelled number_of log_of logged_at node_in (λ i e. refl) stamp_in cells

abbrev pub merged_logs : List CellView → List Logged
merged_logs cells = merge_of number_of log_of logged_at node_in (λ i e. refl) stamp_in cells

stamps_from : (cells : List CellView) → map (map stamp_in) (logs_of cells) ≡ map (λ (c : CellView). map (λ (e : LogEntry). e.stamp) c.log) cells
stamps_from [] = refl
stamps_from (c ∷ cells) =
    ap (λ l. l ∷ map (map stamp_in) (logs_of cells)) (map_twice stamp_in (logged_at (number_of c)) c.log)
    ∙ ap (λ l. map (λ (e : LogEntry). e.stamp) c.log ∷ l) (stamps_from cells)

pub stamps_are : (cells : List CellView) → map stamp_in (merged_logs cells) ≡ stamps_logged cells
stamps_are cells = map_onto stamp_in [] (logs_of cells) ∙ ap (merged_onto stamp_itself []) (stamps_from cells)

entries_back : (i : ℕ) (es : List LogEntry) → map entry_in (map (logged_at i) es) ≡ es
entries_back i [] = refl
entries_back i (e ∷ es) = ap (λ l. e ∷ l) (entries_back i es)

pub logs_are : (cells : List CellView) → Apart number_of cells → (i : ℕ) (c : CellView) → cell_at cells i ≡ Some c → entries_of i (merged_logs cells) ≡ c.log
logs_are cells apart i c at = ap (map entry_in) (own_of number_of log_of logged_at node_in (λ i e. refl) stamp_in i cells c at apart) ∙ entries_back i c.log

-- an entry of a log stands in the merge
pub in_merge : (cells : List CellView) → Apart number_of cells → (i : ℕ) (c : CellView) (e : LogEntry) → cell_at cells i ≡ Some c → Contains c.log e → Contains (merged_logs cells) (logged_at i e)
in_merge cells apart i c e at h =
    contains_filter (λ (x : Logged). x.node == i) (merged_logs cells) (logged_at i e)
    (subst (λ xs. Contains xs (logged_at i e)) (sym (own_of number_of log_of logged_at node_in (λ i e. refl) stamp_in i cells c at apart)) (contains_mapped (logged_at i) c.log e h))

-- where an entry of the merge stands
pub record StandsIn (cells : List CellView) (x : Logged) : Type 0 where
  pub cell : CellView
  pub has : Contains cells cell
  pub number : cell.site.node ≡ x.node
  pub there : cell_at cells x.node ≡ Some cell
  pub within : Contains cell.log x.entry

pub stands_in : (cells : List CellView) → Apart number_of cells → (x : Logged) → Contains (merged_logs cells) x → StandsIn cells x
stands_in cells apart x h =
    let r = came_from number_of log_of logged_at node_in (λ i e. refl) stamp_in cells x h in
    let number : r.0.site.node ≡ x.node = ap node_in r.4 in
    record {
      cell = r.0;
      has = r.1;
      number = number;
      there = subst (λ i. cell_at cells i ≡ Some r.0) number (found_itself number_of cells r.0 apart r.1);
      within = subst (Contains r.0.log) (ap entry_in r.4) r.3;
    }

-- stamps rise in the merge, and none is the greatest
stamp_below : (s : ℕ) (es : List LogEntry) (e : LogEntry) → StampsRise s es → Contains es e → e.stamp < 2 ^ 64 - 1
stamp_below s [] e rises h = none_in_nil e h
stamp_below s (d ∷ es) e rises h = elim (contains_cons e d es h) [
  | inl is ↦ subst (λ (z : LogEntry). z.stamp < 2 ^ 64 - 1) is rises.1
  | inr past ↦ stamp_below d.stamp es e rises.2 past
]

pub less_known : (a b : ℕ) → nat_lt a b ≡ true → a < b
less_known a b e = grind (arith, nat_tests)

rises_by : (s : ℕ) (xs : List Logged) → stamps_rise_from s (map stamp_in xs) ≡ true → ((x : Logged) → Contains xs x → x.entry.stamp < 2 ^ 64 - 1) → StampsRise s (map entry_in xs)
rises_by s [] e below = tt
rises_by s (x ∷ xs) e below =
    let parts = and_parts (nat_lt s x.entry.stamp) (stamps_rise_from x.entry.stamp (map stamp_in xs)) e in
    (less_known s x.entry.stamp parts.0, below x (contains_head x xs), rises_by x.entry.stamp xs parts.1 (λ y h. below y (contains_tail y x xs h)))

-- the packet that is found under its name was sent under it
place_known : (place : ℕ) (qs : List Packet) (q : Packet) → packet_at_place place qs ≡ Some q → (index : ℕ) × (place ≡ suc index) × (slice_get qs index ≡ Some q)
place_known zero qs q e = absurd cc
place_known (suc index) qs q e = (index, refl, e)

found_in : (es : List LogEntry) (stamp : ℕ) (o : Option LogEntry) → find (λ (e : LogEntry). e.stamp == stamp) es ≡ o → (name : PacketName) (q : Packet) → option_and_then (λ (e : LogEntry). packet_at_place name.place e.packets) o ≡ Some q
    → (e : LogEntry) × Contains es e × (e.stamp ≡ stamp) × (packet_at_place name.place e.packets ≡ Some q)
found_in es stamp None is name q e = absurd cc
found_in es stamp (Some d) is name q e =
    let passes = found_passes (λ (e : LogEntry). e.stamp == stamp) es d is in
    (d, passes.0, same_number d.stamp stamp passes.1, e)

-- a test of all holds of each
pub passes_all : {X : Type 0} (p : X → Bool) (xs : List X) (x : X) → list_all p xs ≡ true → Contains xs x → p x ≡ true
passes_all p [] x e h = none_in_nil x h
passes_all p (y ∷ xs) x e h =
    let parts = and_parts (p y) (list_all p xs) e in
    elim (contains_cons x y xs h) [
      | inl is ↦ subst (λ z. p z ≡ true) is parts.0
      | inr past ↦ passes_all p xs x parts.1 past
    ]

-- the packet that is found is this one
pub bytes_known : (a b : List ℕ) → bytes_eq a b ≡ true → a ≡ b
bytes_known a b e = elim (bytes_eq_tells a b) [
  | inl same ↦ same.1
  | inr apart ↦ false_is_never_true (sym apart.0 ∙ e)
]

pub bytes_apart : (a b : List ℕ) → bytes_eq a b ≡ false → ¬ (a ≡ b)
bytes_apart a b e = elim (bytes_eq_tells a b) [
  | inl same ↦ λ is. false_is_never_true (sym e ∙ same.0)
  | inr apart ↦ apart.1
]

pub load_known : (a b : Load) → load_is a b ≡ true → a ≡ b
load_known (Deposit x) (Deposit y) e = ap Deposit (bytes_known x y e)
load_known (Item i x) (Item j y) e =
    let parts = and_parts (i == j) (bytes_eq x y) e in
    ap (λ n. Item n x) (same_number i j parts.0) ∙ ap (Item j) (bytes_known x y parts.1)
load_known (Refusal x) (Refusal y) e = ap Refusal (bytes_known x y e)
load_known (Taken i) (Taken j) e = ap Taken (same_number i j e)
load_known (Deposit x) (Item j y) e = absurd cc
load_known (Deposit x) (Refusal y) e = absurd cc
load_known (Deposit x) (Taken j) e = absurd cc
load_known (Item i x) (Deposit y) e = absurd cc
load_known (Item i x) (Refusal y) e = absurd cc
load_known (Item i x) (Taken j) e = absurd cc
load_known (Refusal x) (Deposit y) e = absurd cc
load_known (Refusal x) (Item j y) e = absurd cc
load_known (Refusal x) (Taken j) e = absurd cc
load_known (Taken i) (Deposit y) e = absurd cc
load_known (Taken i) (Item j y) e = absurd cc
load_known (Taken i) (Refusal y) e = absurd cc

packet_known : (q : Packet) (o : Option Packet) → packet_is q o ≡ true → o ≡ Some q
packet_known q None e = absurd cc
packet_known q (Some r) e =
    let last = and_parts (r.from == q.from && r.to == q.to) (load_is r.load q.load) e in
    let first = and_parts (r.from == q.from) (r.to == q.to) last.0 in
    ap Some (same r (same_number r.from q.from first.0) (same_number r.to q.to first.1) (load_known r.load q.load last.1))
  where
    same : (r : Packet) → r.from ≡ q.from → r.to ≡ q.to → r.load ≡ q.load → r ≡ q
    same r f t l = ap (λ n. record { from = n; to = r.to; load = r.load }) f ∙ ap (λ n. record { from = q.from; to = n; load = r.load }) t ∙ ap (λ n. record { from = q.from; to = q.to; load = n }) l

-- whose packet it is
sender_known : (cells : List CellView) (from : ℕ) (name : PacketName) (q : Packet) (o : Option CellView) → cell_at cells from ≡ o → option_and_then (λ (c : CellView). packet_sent c.log name) o ≡ Some q
    → (c : CellView) × (cell_at cells from ≡ Some c) × (packet_sent c.log name ≡ Some q)
sender_known cells from name q None at e = absurd cc
sender_known cells from name q (Some c) at e = (c, at, e)

-- a cell that is found is one of them, and has the number
pub cell_found : (cells : List CellView) (i : ℕ) (c : CellView) → cell_at cells i ≡ Some c → Contains cells c × (c.site.node ≡ i)
cell_found cells i c at =
    let found = found_passes (λ (d : CellView). d.site.node == i) cells c at in
    (found.0, same_number c.site.node i found.1)

cell_some : (o : Option CellView) → is_some o ≡ true → (c : CellView) × (o ≡ Some c)
cell_some None e = absurd cc
cell_some (Some c) e = (c, refl)

mapped_some : (f : CellView → Node) (o : Option CellView) (n : Node) → option_map f o ≡ Some n → (c : CellView) × (o ≡ Some c) × (f c ≡ n)
mapped_some f None n e = absurd cc
mapped_some f (Some c) n e = (c, refl, some_inj e)

-- no two cells of a replay have one number
pub apart_by : (cells : List CellView) → is_replay cells ≡ true → Apart number_of cells
apart_by cells replay =
    let asked = and_parts (are_network cells && are_numbered 0 (split cells).0) (all_ask_for_nodes cells cells) replay in
    let made = and_parts (are_network cells) (are_numbered 0 (split cells).0) asked.0 in
    cells_apart cells made.1 (opens_network cells made.1 made.0).few

module _ (cells : List CellView) (replayed : (c : CellView) → Contains cells c → IsReplayed c) (answer : (c : CellView) → Contains cells c → IsTrue c.answers)
    (up : stamps_rise_from 0 (stamps_logged cells) ≡ true) (came : all_came_rightly cells cells ≡ true) (replay : is_replay cells ≡ true) (run : MergeIsRun) (each : FairAmongIsFair) where
  abbrev all : List Logged
  all = merged_logs cells

  asked : (are_network cells && are_numbered 0 (split cells).0 ≡ true) × (all_ask_for_nodes cells cells ≡ true)
  asked = and_parts (are_network cells && are_numbered 0 (split cells).0) (all_ask_for_nodes cells cells) replay

  made : (are_network cells ≡ true) × (are_numbered 0 (split cells).0 ≡ true)
  made = and_parts (are_network cells) (are_numbered 0 (split cells).0) asked.0

  opens : OpensAs cells
  opens = opens_network cells made.1 made.0

  abbrev net : Network
  net = opens.net

  apart : Apart number_of cells
  apart = cells_apart cells made.1 opens.few

  opened_at : (i : ℕ) → node_at (new_nodes net) i ≡ option_map (λ (c : CellView). opening_node c.opening) (cell_at cells i)
  opened_at i = ap (λ (ns : Nodes). node_at ns i) (sym opens.nodes) ∙ node_is cells made.1 opens.few (λ c. opening_node c.opening) i

  now_at : (i : ℕ) → node_at (nodes_now cells) i ≡ option_map (λ (c : CellView). c.now) (cell_at cells i)
  now_at i = node_is cells made.1 opens.few (λ c. c.now) i

  merge_rises : StampsRise 0 (map entry_in all)
  merge_rises = rises_by 0 all (ap (stamps_rise_from 0) (stamps_are cells) ∙ up) (λ x h.
      let s = stands_in cells apart x h in stamp_below 0 s.cell.log x.entry (replayed s.cell s.has).rises s.within)

  was_sent : (sender : CellView) (from : ℕ) (name : PacketName) (q : Packet) → cell_at cells from ≡ Some sender → packet_sent sender.log name ≡ Some q → IsSentBy all name q
  was_sent sender from name q at is =
      let f = found_in sender.log name.event (entry_at sender.log name.event) refl name q is in
      let p = place_known name.place f.0.packets q f.3 in
      record {
        sender = logged_at from f.0;
        there = in_merge cells apart from sender f.0 at f.1;
        stamp = f.2;
        index = p.0;
        place = p.1;
        packet = p.2;
      }

  of_other : (i j : ℕ) → (is_some (cell_at cells j) && not (i == j)) ≡ true → IsAnother net i j
  of_other i j e =
      let parts = and_parts (is_some (cell_at cells j)) (not (i == j)) e in (
        ap is_some (opened_at j) ∙ sym (some_mapped (λ (c : CellView). opening_node c.opening) (cell_at cells j)) ∙ parts.0,
        λ same. false_is_never_true (sym (not-true (i == j) parts.1) ∙ rw same (eq_itself j)),
      )

  served : (i : ℕ) (o : Option ℕ) → is_another cells i o ≡ true → ServesAnother net i o
  served i None e = tt
  served i (Some j) e = of_other i j e

  fair_by : (i stamp : ℕ) (k : Ask) → came_rightly cells i stamp k ≡ true → asks_for_node cells i k ≡ true → IsFairAmong net all stamp i k
  fair_by i stamp (Comes name from load at) c a =
      let parts = and_parts (nat_lt name.event stamp) (packet_is (record { from = from; to = i; load = load }) (packet_from cells from name)) c in
      let is = packet_known (record { from = from; to = i; load = load }) (packet_from cells from name) parts.1 in
      let s = sender_known cells from name (record { from = from; to = i; load = load }) (cell_at cells from) refl is in
      (was_sent s.0 from name (record { from = from; to = i; load = load }) s.1 s.2, less_known name.event stamp parts.0)
  fair_by i stamp (Outside b at) c a = subst (λ ps. NamesNone ps b) opens.parties (not-true (names_one (parties_opened cells) b) c)
  fair_by i stamp (Do x) c a = served i (node_served x) a
  fair_by i stamp (Fate key) c a = tt

  fair_one : (x : Logged) → Contains all x → IsFairAmong net all x.entry.stamp x.node x.entry.ask
  fair_one x h =
      let s = stands_in cells apart x h in
      let c : came_rightly cells s.cell.site.node x.entry.stamp x.entry.ask ≡ true = passes_all (λ (e : LogEntry). came_rightly cells s.cell.site.node e.stamp e.ask) s.cell.log x.entry
      (passes_all (λ (d : CellView). list_all (λ (e : LogEntry). came_rightly cells d.site.node e.stamp e.ask) d.log) cells s.cell came s.has) s.within in
      let a : asks_for_node cells s.cell.site.node x.entry.ask ≡ true = passes_all (λ (e : LogEntry). asks_for_node cells s.cell.site.node e.ask) s.cell.log x.entry
      (passes_all (λ (d : CellView). list_all (λ (e : LogEntry). asks_for_node cells d.site.node e.ask) d.log) cells s.cell asked.1 s.has) s.within in
      subst (λ n. IsFairAmong net all x.entry.stamp n x.entry.ask) s.number (fair_by s.cell.site.node x.entry.stamp x.entry.ask c a)

  all_fair : AllFair net [] all
  all_fair = each net all merge_rises fair_one

  site_is : (i : ℕ) (c : CellView) → cell_at cells i ≡ Some c → site_of (new_nodes net) i ≡ c.site
  site_is i c at =
      let home = ap (λ (ns : Nodes). home_of ns i) (sym opens.nodes) ∙ home_is cells made.1 opens.few (λ d. opening_node d.opening) opens.own i c at in
      let number = (cell_found cells i c at).1 in
      λ j. record { node = sym number j; hub = home j }

  replays_at : (i : ℕ) (a b : Node) → node_at (new_nodes net) i ≡ Some a → node_at (nodes_now cells) i ≡ Some b → Replays (site_of (new_nodes net) i) a (entries_of i all) b
  replays_at i a b at end =
      let o = mapped_some (λ (c : CellView). opening_node c.opening) (cell_at cells i) a (sym (opened_at i) ∙ at) in
      let c = o.0 in
      let found = o.1 in
      let now : c.now ≡ b = some_inj (sym (now_at i ∙ ap (option_map (λ (d : CellView). d.now)) found) ∙ end) in
      let has = (cell_found cells i c found).0 in
      let r : Replays c.site (opening_node c.opening) c.log c.now = (replayed c has).replays (answer c has) in
      let own : Replays (site_of (new_nodes net) i) (opening_node c.opening) c.log c.now = subst (λ s. Replays s (opening_node c.opening) c.log c.now) (sym (site_is i c found)) r in
      let first : Replays (site_of (new_nodes net) i) a c.log c.now = subst (λ n. Replays (site_of (new_nodes net) i) n c.log c.now) o.2 own in
      let last : Replays (site_of (new_nodes net) i) a c.log b = subst (Replays (site_of (new_nodes net) i) a c.log) now first in
      subst (λ es. Replays (site_of (new_nodes net) i) a es b) (sym (logs_are cells apart i c found)) last

  stands_there : (x : Logged) → Contains all x → IsSome (cell_at cells x.node)
  stands_there x h = ap is_some (stands_in cells apart x h).there

  each_replays : EachReplays (new_nodes net) (nodes_now cells) all
  each_replays = record {
    same = ap (λ (ns : Nodes). length ns.listed) (sym opens.nodes) ∙ length-map (split cells).0 (λ (c : CellView). opening_node c.opening) ∙ sym (length-map (split cells).0 (λ (c : CellView). c.now));
    homes = ap (λ (ns : Nodes). ns.homes) (sym opens.nodes);
    second = ap (λ (ns : Nodes). is_some ns.second) (sym opens.nodes) ∙ sym (some_mapped (λ (c : CellView). opening_node c.opening) (split cells).1) ∙ some_mapped (λ (c : CellView). c.now) (split cells).1;
    within = λ x h. ap is_some (opened_at x.node) ∙ sym (some_mapped (λ (c : CellView). opening_node c.opening) (cell_at cells x.node)) ∙ stands_there x h;
    each = λ i a b at end. replays_at i a b at end;
  }

  -- the run, and that its merge is that of the logs
  pub run_of_logs : (one : AreOneRun cells) × (one.merge ≡ all)
  run_of_logs = (
    record {
      net = net;
      network = opens.network;
      opened = opens.nodes;
      numbers = λ i c at. number_at_place 0 i (split cells).0 c made.1 at ∙ (let z : 0 + i ≡ i = omega arith in z);
      merge = all;
      rises = merge_rises;
      logs = logs_are cells apart;
      within = stands_there;
      is_run = run net opens.network all (nodes_now cells) merge_rises all_fair each_replays;
    },
    refl,
  )

  pub are_one_run : AreOneRun cells
  are_one_run = run_of_logs.0

-- the records of each node answer
pub each_answers : (cells : List CellView) (c : CellView) → IsTrue (all_cells_answer cells) → Contains cells c → IsTrue c.answers
each_answers cells c all has = passes_all (λ (d : CellView). d.answers) cells c all has

-- each of all
pub each_replayed : (cells : List CellView) (c : CellView) → All IsReplayed cells → Contains cells c → IsReplayed c
each_replayed cells c all has =
    let place = contains_get cells c has in
    subst IsReplayed (get_or_from_slice_get cells place.0 c c place.1) (all place.0 c (slice_get_within cells place.0 c place.1))
