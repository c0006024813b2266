-- What the logs list are the submissions of the stations that they made.
use Rattle.std.specs.Prelude.{◌≡◌, ◌≢◌, ℕ, zero, suc, ◌+◌, ◌<◌, List, [], ◌∷◌, ◌++◌, true, false, Option, Some, None, IsTrue, All, Contains, flat_map, map, option_map, option_to_list, slice_get, refl}
use mathlib.Core.Path.{sym, ap, subst, ◌∙◌}
use native.Mathlib.Omega.{arith}
use Rattle.std.proofs.Common.{ne_eqb}
use Rattle.std.proofs.lemmas.Grind.{flat_map-append}
use Rattle.std.proofs.lemmas.List.{append-nil, append_assoc, map-append}
use Rattle.std.proofs.lemmas.List.Elements.{Contains-append_left, Contains-append_right}
use Rattle.x12_core.specs.Ask.{Ask, Do, Comes, Outside, Fate, does_at}
use Rattle.x12_core.proofs.ActionLemmas.{Submits, submits_none, submits_one, acts_submit, hub_acts}
use Rattle.x12_core.specs.Effect.{Effect, deposits, from_hub, from_station, reports_taken}
use Rattle.x12_core.specs.Node.{Node, IsHub, IsStation, is_hub}
use Rattle.x12_core.specs.Packet.{Kind, Deposit, Item, Refusal, Taken, Packet}
use Rattle.x12_core.specs.Submission.{submitted_numbers}
use Rattle.x12_core.specs.declared.packet.Site.{Site}
use Rattle.x12_core.specs.declared.submission.Listed.{Listed}
use Rattle.x12_core.proofs.SubmissionLemmas.{arrival_keeps}
use Rattle.x12_envelopes.specs.declared.moment.Moment.{Moment}
use Rattle.x12_envelopes.specs.declared.party.Party.{Party}
use Rattle.x12_nodes.specs.Cell.{CellView, IsReplayed, opening_node}
use Rattle.x12_nodes.specs.Cells.{nodes_opened, split}
use Rattle.x12_nodes.proofs.CellsLemmas.{split_whole}
use Rattle.x12_nodes.specs.Settling.{all_cells_answer, AreOneRun}
use Rattle.x12_nodes.proofs.SettlingLemmas.{each_answers, each_replayed}
use Rattle.x12_nodes.specs.Log.{LogEntry, NodeAnswer, Sent, FateIs, AnswersSo, Replays, number_in_first, number_submitted}
use Rattle.x12_nodes.specs.Unlocking.{listed_as, listed_in, listed_in_logs, listed_of, number_told, states_in}
use Rattle.x12_nodes.specs.Merge.{events_behind}
use Rattle.x12_numbers.proofs.Shelf.{contains_head, eq_itself, if_some_parts, some_inj}
use Rattle.x12_station.proofs.ListLemmas.{get_contains}
use Rattle.x12_profile.specs.Interchange.{Bytes}
use Rattle.x12_profile.specs.X12.{x12}
use Rattle.x12_station.specs.History.{Submitted, submissions}
use Rattle.x12_station.specs.Station.{Station, new_station}
use Rattle.x12_station.specs.StationStep.{StationStep, arrive, entered, may_submit, submit}
use Rattle.x12_station.proofs.ItemLemmas.{submissions-append}
use Rattle.x12_hub.specs.Hub.{Hub, HubStep, deposit, new_hub}
use Rattle.x12_world.specs.Audit.{station_in}
use Rattle.x12_world.specs.Audits.{HasStations}
use Rattle.x12_world.specs.Loss.{Happening, run_so}
use Rattle.x12_world.specs.Reach.{IsReachable, ReachLaws}
use Rattle.x12_world.specs.Network.{Member, Network, believed_at, new_nodes}
use Rattle.x12_world.specs.Nodes.{Nodes}
use Rattle.x12_world.specs.Run.{happens, new_world, run}
use Rattle.x12_world.specs.Submission.{numbers_at, AreListed}
use Rattle.x12_world.specs.World.{World, Event}
use Rattle.x12_world.proofs.SubmissionLemmas.{numbers-append}

-- the numbers that a log tells
abbrev pub numbers_in : List LogEntry → List ℕ
numbers_in log = flat_map (λ (e : LogEntry). option_to_list (number_told e.answer)) log

-- A step of a station.
-- a station, whose submissions are these, with so many more
record IsAfter (s : Station) (more : List ℕ) (new : Node) : Type 0 where
  station : Station
  is : new ≡ IsStation station
  numbers : submitted_numbers station ≡ submitted_numbers s ++ more

record IsFromStation (i : Site) (first : List Packet) (o : Option StationStep) (e : Effect) : Type 0 where
  step : StationStep
  is : o ≡ Some step
  node : e.node ≡ IsStation step.station
  sends : e.sends ≡ first ++ deposits i step.sends

from_step : (i : Site) (first : List Packet) (o : Option StationStep) (e : Effect) → from_station i first o ≡ Some e → IsFromStation i first o e
from_step i first None e is = absurd (cc)
from_step i first (Some step) e is = record {
  step = step;
  is = refl;
  node = sym (ap (λ (f : Effect). f.node) (some_inj is));
  sends = sym (ap (λ (f : Effect). f.sends) (some_inj is));
}

-- what was submitted stands behind what was, and is sent
submitted_one : (i : Site) (s : Station) (x : Bytes) (e : Effect) → from_station i [] (submit x12 s x) ≡ Some e
    → IsAfter s (option_to_list (number_in_first e.sends)) e.node
submitted_one i s x e is =
    let f = from_step i [] (submit x12 s x) e is in
    let done = some_inj (if_some_parts (may_submit x12 s x) (Some (record { station = entered x12 s x; sends = x ∷ [] })) f.step f.is).1 in
    let sends : e.sends ≡ deposits i (x ∷ []) = f.sends ∙ ap (λ (t : StationStep). deposits i t.sends) (sym done) in
    record {
      station = entered x12 s x;
      is = f.node ∙ ap (λ (t : StationStep). IsStation t.station) (sym done);
      numbers = ap (map x12.number) (submissions-append s.items (Submitted x ∷ []))
          ∙ map-append x12.number (submissions s.items) (x ∷ [])
          ∙ sym (ap (λ qs. submitted_numbers s ++ option_to_list (number_in_first qs)) sends);
    }

-- a station whose submissions are what they were
same_after : (s t : Station) (new : Node) → new ≡ IsStation t → submitted_numbers t ≡ submitted_numbers s → IsAfter s [] new
same_after s t new is same = record { station = t; is = is; numbers = same ∙ sym (append-nil (submitted_numbers s)) }

arrived_one : (i : Site) (first : List Packet) (s : Station) (at : Moment) (b : Bytes) (e : Effect) → from_station i first (arrive x12 s at b) ≡ Some e → IsAfter s [] e.node
arrived_one i first s at b e is =
    let f = from_step i first (arrive x12 s at b) e is in
    same_after s f.step.station e.node f.node (arrival_keeps s at b f.step f.is)

acted_one : (i : Site) (ask : Ask) (s : Station) (e : Effect) → does_at x12 i ask (IsStation s) ≡ Some e → IsAfter s (option_to_list (number_submitted ask e.sends)) e.node
acted_one i (Do a) s e is = by (acts_submit i a s e is)
  where
    by : Submits i a s e → IsAfter s (option_to_list (number_submitted (Do a) e.sends)) e.node
    by (submits_one x told from) = rw told (submitted_one i s x e from)
    by (submits_none t isnt node same) = rw isnt (same_after s t e.node node same)
acted_one i (Comes name from (Item item b) at) s e is = arrived_one i (reports_taken i.node from item ∷ []) s at b e is
acted_one i (Comes name from (Refusal b) at) s e is = arrived_one i [] s at b e is
acted_one i (Comes name from (Deposit b) at) s e is = absurd (cc)
acted_one i (Comes name from (Taken item) at) s e is = absurd (cc)
acted_one i (Outside b at) s e is = arrived_one i [] s at b e is
acted_one i (Fate k) s e is = absurd (cc)

number_of_sent : {n m : Option ℕ} {t u : List (ℕ × Kind)} → Sent n t ≡ Sent m u → n ≡ m
number_of_sent e = cc

answered_one : (i : Site) (ask : Ask) (sends : List Packet) (answer : NodeAnswer) (s : Station) (new : Node) → AnswersSo i ask sends answer (IsStation s) new
    → IsAfter s (option_to_list (number_told answer)) new
answered_one i ask sends (FateIs fate) s new so = same_after s s new so.2 refl
answered_one i ask sends (Sent number told) s new so =
    let after = acted_one i ask s (record { node = new; sends = sends }) so.0 in
    let same : number ≡ number_submitted ask sends = number_of_sent so.1 in
    subst (λ n. IsAfter s (option_to_list n) new) (sym same) after

-- what a log made of a station
replayed_station : (i : Site) (log : List LogEntry) (s : Station) (new : Node) → Replays i (IsStation s) log new → IsAfter s (numbers_in log) new
replayed_station i [] s new is = same_after s s new is refl
replayed_station i (e ∷ es) s new r =
    let one = answered_one i e.ask e.packets e.answer s r.0 r.1 in
    let rest = replayed_station i es one.station new (subst (λ n. Replays i n es new) one.is r.2) in
    record {
      station = rest.station;
      is = rest.is;
      numbers = rest.numbers ∙ ap (λ ns. ns ++ numbers_in es) one.numbers ∙ append_assoc (submitted_numbers s) (option_to_list (number_told e.answer)) (numbers_in es);
    }

-- A hub stays one.
from_hub_node : (k : ℕ) (first : List Packet) (to : Option ℕ) (o : Option HubStep) (e : Effect) → from_hub k first to o ≡ Some e → is_hub (Some e.node) ≡ true
from_hub_node k first to None e is = absurd (cc)
from_hub_node k first to (Some step) e is = ap (λ (f : Effect). is_hub (Some f.node)) (sym (some_inj is))

quiet_hub : (h : Hub) (sends : List Packet) (e : Effect) → Some (record { node = IsHub h; sends = sends }) ≡ Some e → is_hub (Some e.node) ≡ true
quiet_hub h sends e is = ap (λ (f : Effect). is_hub (Some f.node)) (sym (some_inj is))

acted_hub : (i : Site) (ask : Ask) (h : Hub) (e : Effect) → does_at x12 i ask (IsHub h) ≡ Some e → is_hub (Some e.node) ≡ true
acted_hub i (Do a) h e is = (hub_acts i a h e is).1
acted_hub i (Comes name from (Item item b) at) h e is = from_hub_node i.node (reports_taken i.node from item ∷ []) (Some from) (deposit x12 h at b) e is
acted_hub i (Comes name from (Refusal b) at) h e is = from_hub_node i.node [] None (deposit x12 h at b) e is
acted_hub i (Comes name from (Deposit b) at) h e is = from_hub_node i.node [] (Some from) (deposit x12 h at b) e is
acted_hub i (Comes name from (Taken item) at) h e is = quiet_hub _ [] e is
acted_hub i (Outside b at) h e is = from_hub_node i.node [] None (deposit x12 h at b) e is
acted_hub i (Fate k) h e is = absurd (cc)

answered_hub : (i : Site) (ask : Ask) (sends : List Packet) (answer : NodeAnswer) (h : Hub) (new : Node) → AnswersSo i ask sends answer (IsHub h) new → is_hub (Some new) ≡ true
answered_hub i ask sends (FateIs fate) h new so = ap (λ n. is_hub (Some n)) so.2
answered_hub i ask sends (Sent number told) h new so = acted_hub i ask h (record { node = new; sends = sends }) so.0

replayed_hub : (i : Site) (log : List LogEntry) (old new : Node) → is_hub (Some old) ≡ true → Replays i old log new → is_hub (Some new) ≡ true
replayed_hub i [] old new was is = ap (λ n. is_hub (Some n)) is ∙ was
replayed_hub i (e ∷ es) (IsStation s) new was r = absurd (cc)
replayed_hub i (e ∷ es) (IsHub h) new was r = replayed_hub i es r.0 new (answered_hub i e.ask e.packets e.answer h r.0 r.1) r.2

-- and what it was asked submitted nothing
none_submitted : (i : Site) (ask : Ask) (h : Hub) (sends : List Packet) (e : Effect) → does_at x12 i ask (IsHub h) ≡ Some e → number_submitted ask sends ≡ None
none_submitted i (Do a) h sends e is = rw (hub_acts i a h e is).0 refl
none_submitted i (Comes name from load at) h sends e is = refl
none_submitted i (Outside b at) h sends e is = refl
none_submitted i (Fate k) h sends e is = refl

none_told : (i : Site) (ask : Ask) (sends : List Packet) (answer : NodeAnswer) (h : Hub) (new : Node) → AnswersSo i ask sends answer (IsHub h) new → number_told answer ≡ None
none_told i ask sends (FateIs fate) h new so = refl
none_told i ask sends (Sent number told) h new so = number_of_sent so.1 ∙ none_submitted i ask h sends (record { node = new; sends = sends }) so.0

hub_lists_nothing : (n : ℕ) (i : Site) (log : List LogEntry) (old new : Node) → is_hub (Some old) ≡ true → Replays i old log new → listed_in n log ≡ []
hub_lists_nothing n i [] old new was r = refl
hub_lists_nothing n i (e ∷ es) (IsStation s) new was r = absurd (cc)
hub_lists_nothing n i (e ∷ es) (IsHub h) new was r =
    ap (λ o. listed_as n o ++ listed_in n es) (none_told i e.ask e.packets e.answer h r.0 r.1)
    ∙ hub_lists_nothing n i es r.0 new (answered_hub i e.ask e.packets e.answer h r.0 r.1) r.2

no_station : (n : Node) → is_hub (Some n) ≡ true → station_in n ≡ []
no_station (IsHub h) is = refl
no_station (IsStation s) is = absurd (cc)

-- What is listed of a node.
own_entry : (i : ℕ) (o : Option ℕ) → numbers_at i (listed_as i o) ≡ option_to_list o
own_entry i None = refl
own_entry i (Some n) = rw (eq_itself i) refl

other_entry : (m i : ℕ) → i ≢ m → (o : Option ℕ) → numbers_at m (listed_as i o) ≡ []
other_entry m i ne None = refl
other_entry m i ne (Some n) = rw (ne_eqb i m ne) refl

own_log : (i : ℕ) (log : List LogEntry) → numbers_at i (listed_in i log) ≡ numbers_in log
own_log i [] = refl
own_log i (e ∷ es) =
    numbers-append i (listed_of i e) (listed_in i es) ∙ ap (λ ns. ns ++ numbers_at i (listed_in i es)) (own_entry i (number_told e.answer))
    ∙ ap (λ ns. option_to_list (number_told e.answer) ++ ns) (own_log i es)

other_log : (m i : ℕ) → i ≢ m → (log : List LogEntry) → numbers_at m (listed_in i log) ≡ []
other_log m i ne [] = refl
other_log m i ne (e ∷ es) =
    numbers-append m (listed_of i e) (listed_in i es) ∙ ap (λ ns. ns ++ numbers_at m (listed_in i es)) (other_entry m i ne (number_told e.answer)) ∙ other_log m i ne es

-- the cells have the numbers from this one on
abbrev Numbered : ℕ → List CellView → Type 0
Numbered n [] = Unit {0}
Numbered n (c ∷ cs) = (c.site.node ≡ n) × Numbered (suc n) cs

none_before : (m n : ℕ) → m < n → (cs : List CellView) → Numbered n cs → numbers_at m (listed_in_logs cs) ≡ []
none_before m n lt [] are = refl
none_before m n lt (c ∷ cs) are =
    let far : c.site.node ≢ m = λ e. let z = are.0 in absurd (omega (arith, e, z, lt)) in
    numbers-append m (listed_in c.site.node c.log) (listed_in_logs cs)
    ∙ ap (λ ns. ns ++ numbers_at m (listed_in_logs cs)) (other_log m c.site.node far c.log)
    ∙ none_before m (suc n) (omega (arith, lt)) cs are.1

-- each cell is a new station's, whom its log made another
abbrev Stations : List CellView → Type 0
Stations [] = Unit {0}
Stations (c ∷ cs) = ((s : Station) × (c.now ≡ IsStation s) × (submitted_numbers s ≡ numbers_in c.log)) × Stations cs

listed_from : (n : ℕ) (cs : List CellView) → Numbered n cs → Stations cs → (i : ℕ) (s : Station) → slice_get (states_in cs) i ≡ Some s
    → numbers_at (n + i) (listed_in_logs cs) ≡ submitted_numbers s
listed_from n [] are made i s at = absurd (cc)
listed_from n (c ∷ cs) are made zero s at =
    let states : states_in (c ∷ cs) ≡ made.0.0 ∷ states_in cs = ap (λ m. station_in m ++ states_in cs) made.0.1 in
    let same : made.0.0 ≡ s = some_inj (sym (ap (λ ss. slice_get ss 0) states) ∙ at) in
    let here : n + 0 ≡ c.site.node = let z = are.0 in omega (arith, z) in
    let below : n + 0 < suc n = omega arith in
    numbers-append (n + 0) (listed_in c.site.node c.log) (listed_in_logs cs)
    ∙ ap (λ ns. numbers_at (n + 0) (listed_in c.site.node c.log) ++ ns) (none_before (n + 0) (suc n) below cs are.1)
    ∙ append-nil (numbers_at (n + 0) (listed_in c.site.node c.log))
    ∙ ap (λ m. numbers_at m (listed_in c.site.node c.log)) here
    ∙ own_log c.site.node c.log ∙ sym made.0.2 ∙ ap submitted_numbers same
listed_from n (c ∷ cs) are made (suc j) s at =
    let states : states_in (c ∷ cs) ≡ made.0.0 ∷ states_in cs = ap (λ m. station_in m ++ states_in cs) made.0.1 in
    let far : c.site.node ≢ n + suc j = λ e. let z = are.0 in absurd (omega (arith, e, z)) in
    let there : slice_get (states_in cs) j ≡ Some s = sym (ap (λ ss. slice_get ss (suc j)) states) ∙ at in
    let place : suc n + j ≡ n + suc j = omega arith in
    numbers-append (n + suc j) (listed_in c.site.node c.log) (listed_in_logs cs)
    ∙ ap (λ ns. ns ++ numbers_at (n + suc j) (listed_in_logs cs)) (other_log (n + suc j) c.site.node far c.log)
    ∙ ap (λ m. numbers_at m (listed_in_logs cs)) (sym place)
    ∙ listed_from (suc n) cs are.1 made.1 j s there

-- The cells of one run.
numbered_from : (n : ℕ) (cs : List CellView) → ((k : ℕ) (c : CellView) → slice_get cs k ≡ Some c → c.site.node ≡ n + k) → Numbered n cs
numbered_from n [] each = tt
numbered_from n (c ∷ cs) each = (
  (let z : n + 0 ≡ n = omega arith in each 0 c refl ∙ z),
  numbered_from (suc n) cs (λ k d at. let z : n + suc k ≡ suc n + k = omega arith in each (suc k) d at ∙ z),
)

abbrev opened_as : CellView → Node
opened_as c = opening_node c.opening

made_from : {M : Type 0} (party_of : M → Party) (hubs_of : M → List Party) (cs : List CellView) (ms : List M) → map opened_as cs ≡ map (λ m. IsStation (new_station (party_of m) (hubs_of m))) ms
    → ((k : ℕ) (c : CellView) → slice_get cs k ≡ Some c → Replays c.site (opened_as c) c.log c.now) → Stations cs
made_from party_of hubs_of [] ms opened each = tt
made_from party_of hubs_of (c ∷ cs) [] opened each = absurd (cc)
made_from party_of hubs_of (c ∷ cs) (m ∷ ms) opened each =
    let head : opened_as c ≡ IsStation (new_station (party_of m) (hubs_of m)) = cc in
    let tail : map opened_as cs ≡ map (λ m. IsStation (new_station (party_of m) (hubs_of m))) ms = cc in
    let after = replayed_station c.site c.log (new_station (party_of m) (hubs_of m)) c.now (subst (λ n. Replays c.site n c.log c.now) head (each 0 c refl)) in
    ((after.station, after.is, after.numbers), made_from party_of hubs_of cs ms tail (λ k d at. each (suc k) d at))

front_listed : (net : Network) (cells : List CellView) → map opened_as cells ≡ (new_nodes net).listed
    → ((k : ℕ) (c : CellView) → slice_get cells k ≡ Some c → c.site.node ≡ k)
    → ((k : ℕ) (c : CellView) → slice_get cells k ≡ Some c → Replays c.site (opened_as c) c.log c.now)
    → AreListed (states_in cells) (listed_in_logs cells)
front_listed net [] opened numbers each i s at = absurd (cc)
front_listed net (c ∷ cs) opened numbers each i s at =
    let head : opened_as c ≡ IsHub (new_hub net.hub) = cc in
    let tail : map opened_as cs ≡ map (λ (m : Member). IsStation (new_station m.party (believed_at net.hub net.second m.home))) net.stations = cc in
    let is : is_hub (Some c.now) ≡ true = replayed_hub c.site c.log (opened_as c) c.now (ap (λ n. is_hub (Some n)) head) (each 0 c refl) in
    let none : station_in c.now ≡ [] = no_station c.now is in
    let there : slice_get (states_in cs) i ≡ Some s = sym (ap (λ ss. slice_get (ss ++ states_in cs) i) none) ∙ at in
    let far : c.site.node ≢ i + 1 = λ e. let z = numbers 0 c refl in absurd (omega (arith, e, z)) in
    let place : 1 + i ≡ i + 1 = omega arith in
    numbers-append (i + 1) (listed_in c.site.node c.log) (listed_in_logs cs)
    ∙ ap (λ ns. ns ++ numbers_at (i + 1) (listed_in_logs cs)) (other_log (i + 1) c.site.node far c.log)
    ∙ ap (λ m. numbers_at m (listed_in_logs cs)) (sym place)
    ∙ listed_from 1 cs (numbered_from 1 cs (λ k d at. let z : suc k ≡ 1 + k = omega arith in numbers (suc k) d at ∙ z))
    (made_from (λ (m : Member). m.party) (λ (m : Member). believed_at net.hub net.second m.home) cs net.stations tail (λ k d at. each (suc k) d at)) i s there

-- the second hub, if there is one, is no station, and lists nothing
module _ (cells : List CellView) (net : Network) (opened : nodes_opened cells ≡ new_nodes net) (each : (c : CellView) → Contains cells c → Replays c.site (opened_as c) c.log c.now) where
  abbrev front : List CellView
  front = (split cells).0

  last_is : (second : Option CellView) → (split cells).1 ≡ second → (states_in (option_to_list second) ≡ []) × (listed_in_logs (option_to_list second) ≡ [])
  last_is None is = (refl, refl)
  last_is (Some d) is =
      let has : Contains cells d = subst (λ cs. Contains cs d) (sym (split_whole cells ∙ ap (λ o. front ++ option_to_list o) is)) (Contains-append_right front (d ∷ []) d (contains_head d [])) in
      let began : Some (opened_as d) ≡ option_map (λ p. IsHub (new_hub p)) net.second = sym (ap (option_map opened_as) is) ∙ ap (λ (ns : Nodes). ns.second) opened in
      let hub : is_hub (Some (opened_as d)) ≡ true = began_hub net.second began in (
        ap (λ ss. ss ++ []) (no_station d.now (replayed_hub d.site d.log (opened_as d) d.now hub (each d has))),
        ap (λ xs. xs ++ []) (hub_lists_nothing d.site.node d.site d.log (opened_as d) d.now hub (each d has)),
      )
    where
      began_hub : (o : Option Party) → Some (opened_as d) ≡ option_map (λ p. IsHub (new_hub p)) o → is_hub (Some (opened_as d)) ≡ true
      began_hub None e = absurd cc
      began_hub (Some p) e = ap is_hub e

  states_are : states_in cells ≡ states_in front
  states_are =
      ap states_in (split_whole cells)
      ∙ ap (flat_map station_in) (map-append (λ (c : CellView). c.now) front (option_to_list (split cells).1))
      ∙ flat_map-append station_in (map (λ (c : CellView). c.now) front) (map (λ (c : CellView). c.now) (option_to_list (split cells).1))
      ∙ ap (λ ss. states_in front ++ ss) (last_is (split cells).1 refl).0
      ∙ append-nil (states_in front)

  logs_list : listed_in_logs cells ≡ listed_in_logs front
  logs_list =
      ap listed_in_logs (split_whole cells)
      ∙ flat_map-append (λ (c : CellView). listed_in c.site.node c.log) front (option_to_list (split cells).1)
      ∙ ap (λ xs. listed_in_logs front ++ xs) (last_is (split cells).1 refl).1
      ∙ append-nil (listed_in_logs front)

  all_listed : ((k : ℕ) (c : CellView) → slice_get front k ≡ Some c → c.site.node ≡ k) → AreListed (states_in cells) (listed_in_logs cells)
  all_listed numbers =
      let of_front = front_listed net front (ap (λ (ns : Nodes). ns.listed) opened) numbers (λ k c at.
      each c (subst (λ cs. Contains cs c) (sym (split_whole cells)) (Contains-append_left front (option_to_list (split cells).1) c (get_contains front k c at)))) in
      subst (λ ss. AreListed ss (listed_in_logs cells)) (sym states_are) (subst (AreListed (states_in front)) (sym logs_list) of_front)

-- nothing is lost in a run
abbrev none_lost : List Event → List Happening
none_lost es = map (λ e. record { event = e; lost = false }) es

run_is : (es : List Event) (w : World) → run_so x12 (none_lost es) w ≡ run x12 es w
run_is [] w = refl
run_is (e ∷ es) w = run_is es (happens x12 w e)

-- the world that one run ends with has the stations of the cells, and their logs list what they submitted
pub has_stations : (cells : List CellView) → ReachLaws x12 → All IsReplayed cells → IsTrue (all_cells_answer cells) → (one : AreOneRun cells)
    → HasStations one.is_run.world (states_in cells) (listed_in_logs cells)
has_stations cells laws replayed answers one =
    let each : (c : CellView) → Contains cells c → Replays c.site (opened_as c) c.log c.now = λ c has. (each_replayed cells c replayed has).replays (each_answers cells c answers has) in
    record {
      reached = subst (IsReachable x12) (run_is (events_behind [] one.merge) (new_world one.net) ∙ sym one.is_run.is)
          (laws.later (new_world one.net) (laws.new one.net one.network) (none_lost (events_behind [] one.merge)));
      stations = ap (λ (ns : Nodes). flat_map station_in ns.listed) one.is_run.nodes ∙ sym (states_are cells one.net one.opened each);
      listed = all_listed cells one.net one.opened each one.numbers;
    }

pub has_stations_so : (cells : List CellView) (ss : List Station) (xs : List Listed) → ReachLaws x12 → All IsReplayed cells → IsTrue (all_cells_answer cells) → (one : AreOneRun cells)
    → ss ≡ states_in cells → xs ≡ listed_in_logs cells → HasStations one.is_run.world ss xs
has_stations_so cells ss xs laws replayed answers one states listed =
    subst (λ ys. HasStations one.is_run.world ss ys) (sym listed) (subst (λ ts. HasStations one.is_run.world ts (listed_in_logs cells)) (sym states) (has_stations cells laws replayed answers one))

-- one cell less to part
pub parted : (before after all : List Station) (n : Node) (c : CellView) (left rest : List CellView) → after ≡ before ++ station_in n → n ≡ c.now → left ≡ c ∷ rest
    → before ++ states_in left ≡ all → after ++ states_in rest ≡ all
parted before after all n c left rest is node cut was =
    ap (λ ss. ss ++ states_in rest) (is ∙ ap (λ m. before ++ station_in m) node)
    ∙ append_assoc before (station_in c.now) (states_in rest)
    ∙ ap (λ cs. before ++ states_in cs) (sym cut)
    ∙ was
