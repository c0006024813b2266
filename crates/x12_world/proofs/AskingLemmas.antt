-- A station that is asked stays as it is, and so does its network.
use Rattle.std.proofs.Common.{◌≡◌, ℕ, zero, suc, ◌+◌, ◌-◌, if◌then◌else◌, ◌<◌, ◌≤◌, List, [], ◌∷◌, Bool, true, false, Option, Some, None, Result, Ok, Err, IsTrue, IfErr, Vec, length, set, drop, drop-cons, get_or, find, flat_map, slice_get, is_some, refl, ap, sym, subst, ◌∙◌, arith}
use Rattle.std.specs.Global.{Global}
use Rattle.std.specs.Result.{IsErrAnd}
use Rattle.std.proofs.lemmas.Bool.{and_parts, and_from}
use Rattle.std.proofs.Math.Seq.{map-set_same}
use Rattle.std.proofs.lemmas.List.{length-map, length-set}
use Rattle.std.proofs.lemmas.Option.{slice_get-map, slice_get-get_or}
use Rattle.x12_envelopes.specs.declared.party.Party.{Party}
use Rattle.x12_judge.specs.Agreement.{is_same_party}
use Rattle.x12_profile.specs.X12.{x12}
use Rattle.x12_station.specs.declared.fault.StationFault.{StationFault}
use Rattle.x12_station.specs.Fault.{IsOfRecords}
use Rattle.x12_station.specs.Seen.{StationView}
use Rattle.x12_station.specs.Station.{Station}
use Rattle.x12_core.specs.declared.packet.Packet.{Packet}
use Rattle.x12_core.specs.declared.fault.NodeFault.TheVariants.{OfStation}
use Rattle.x12_world.specs.declared.refused.Refused.{Refused}
use Rattle.x12_world.specs.declared.refused.Refused.TheVariants.{Node, NoSuchNode}
use Rattle.x12_world.specs.Asking.{IsUnanswered, PartyAnswers, states_of}
use Rattle.x12_world.specs.Audit.{station_in, station_named}
use Rattle.x12_core.specs.declared.submission.Listed.{Listed}
use Rattle.x12_world.specs.Reach.{IsReachable}
use Rattle.x12_world.specs.Submission.{AreListed}
use Rattle.x12_world.specs.declared.hubs.Hubs.{Hubs as CodeHubs}
use Rattle.x12_world.specs.Nodes.{node_at}
use Rattle.x12_world.specs.Running.{HasNumbers, Hubs, NoneWonBack, all_answer, answering, hubs_in, beside, nodes_answer, nodes_of, station_answers, station_nodes, world_of}
use Rattle.x12_world.specs.Runs.{Runs, running}
use Rattle.x12_world.proofs.RunningLemmas.{below, few_numbers, listed_beside}
use Rattle.x12_world.proofs.ActingLemmas.{all_answer_so, station_by_number, stations_answer}
use Rattle.x12_world.proofs.AnswerLemmas.{set_answers, won_among, won_stations}
use Rattle.x12_judge.proofs.Shelf.{same_party}
use Rattle.x12_numbers.proofs.Shelf.{some_inj}
use Rattle.x12_core.specs.Node.{IsStation}

-- what stands at a place
pub state_there : {R : Type 0} → (ss : List (StationView R)) (i : ℕ) (s : StationView R) → s ≡ get_or ss i s → i < length ss → slice_get (states_of ss) i ≡ Some s.state
state_there ss i s is lt = slice_get-map (λ (r : StationView _). r.state) ss i ∙ rw (slice_get-get_or ss i s lt) (ap (λ (r : StationView _). Some r.state) (sym is))

-- the first one that passes stands where a search came to
pub found_there : {R : Type 0} → (p : Station → Bool) (ss : List (StationView R)) (i : ℕ) (s : StationView R) → s ≡ get_or ss i s → i < length ss
    → p s.state ≡ true → find p (states_of (drop i ss)) ≡ find p (states_of ss)
    → find p (states_of ss) ≡ slice_get (states_of ss) i
found_there p ss i s is lt passes front =
    let here : find p (states_of (s ∷ drop (suc i) ss)) ≡ Some s.state = rw passes refl in
    let cut : drop i ss ≡ s ∷ drop (suc i) ss = drop-cons ss i s lt ∙ ap (λ r. r ∷ drop (suc i) ss) (sym is) in
    sym front ∙ ap (λ rs. find p (states_of rs)) cut ∙ here ∙ sym (state_there ss i s is lt)

-- the station at a node
pub node_there : {R : Type 0} → (h : Hubs) (ss : List (StationView R)) (node place : ℕ) (s : StationView R) → HasNumbers h ss → node ≡ place + 1 → place < length ss → s ≡ get_or ss place s
    → node_at (nodes_of h ss) node ≡ Some (IsStation s.state)
node_there h ss node place s numbers at lt is =
    let e : node ≡ suc place = omega arith in
    listed_beside h (station_nodes ss) node (below h ss node numbers (omega (arith, at, lt)))
    ∙ rw e (slice_get-map (λ (r : StationView _). IsStation r.state) ss place ∙ rw (slice_get-get_or ss place s lt) (ap (λ (r : StationView _). Some (IsStation r.state)) (sym is)))

-- all of the stations are those of the nodes
pub stations_are : {R : Type 0} → (ss : List (StationView R)) → flat_map station_in (station_nodes ss) ≡ states_of ss
stations_are [] = refl
stations_are (s ∷ ss) = ap (λ rest. s.state ∷ rest) (stations_are ss)

-- the station of a party, or none, as a search among the stations found it
module _ {H R : Type 0} (h : CodeHubs H) (ss seen : List (StationView R)) (same : seen ≡ ss) (held : List (Vec Packet Global)) (party : Party) where
  station_is : (o : Option Station) → find (λ s. is_same_party s.me party) (states_of seen) ≡ o → station_named (world_of h ss held) party ≡ o
  station_is o found =
      ap (find (λ s. is_same_party s.me party)) (stations_are ss) ∙ subst (λ rs. find (λ s. is_same_party s.me party) (states_of rs) ≡ o) same found

  pub station_found : (place : ℕ) (s : StationView R) → place < length seen → s ≡ get_or ss place s
      → find (λ s. is_same_party s.me party) (states_of seen) ≡ slice_get (states_of seen) place
      → station_named (world_of h ss held) party ≡ Some s.state
  station_found place s within is found =
      station_is (Some s.state) (found ∙ state_there seen place s (is ∙ ap (λ rs. get_or rs place s) (sym same)) within)

  pub none_found : (e : Refused) → (e ≡ NoSuchNode) × (find (λ s. is_same_party s.me party) (states_of seen) ≡ None)
      → IsUnanswered (is_some (station_named (world_of h ss held) party)) e
  none_found e why = subst (IsUnanswered (is_some (station_named (world_of h ss held) party))) (sym why.0) (ap is_some (station_is None why.1))

-- what was found passes
found_passes : (p : Station → Bool) (xs : List Station) (x : Station) → find p xs ≡ Some x → p x ≡ true
found_passes p [] x e = absurd cc
found_passes p (y ∷ xs) x e = by (found_passes p xs x) (p y) refl e
  where
    by : (find p xs ≡ Some x → p x ≡ true) → (t : Bool) → p y ≡ t → (if t then Some y else find p xs) ≡ Some x → p x ≡ true
    by later true is e = subst (λ z. p z ≡ true) (some_inj e) is
    by later false is e = later e

pub has_party : {R : Type 0} → (ss seen : List (StationView R)) (same : seen ≡ ss) (party : Party) (place : ℕ) (s : StationView R) → place < length seen → s ≡ get_or ss place s
    → find (λ s. is_same_party s.me party) (states_of seen) ≡ slice_get (states_of seen) place → is_same_party s.state.me party ≡ true
has_party ss seen same party place s within is found =
    found_passes (λ s. is_same_party s.me party) (states_of seen) s.state (found ∙ state_there seen place s (is ∙ ap (λ rs. get_or rs place s) (sym same)) within)

-- one station was asked
module _ {R : Type 0} (old new : StationView R) (still : IsTrue new.answers → IsTrue old.answers) where
  pub answers_new : (ss : List (StationView R)) (i : ℕ) → i < length ss → IsTrue (all_answer (set ss i new)) → IsTrue new.answers
  answers_new [] i lt h = absurd (omega arith)
  answers_new (s ∷ ss) zero lt h = (and_parts new.answers (all_answer ss) h).0
  answers_new (s ∷ ss) (suc i) lt h = answers_new ss i (omega arith) (and_parts s.answers (all_answer (set ss i new)) h).1

  answers_old : (ss : List (StationView R)) (i : ℕ) → i < length ss → old ≡ get_or ss i old → IsTrue (all_answer (set ss i new)) → IsTrue (all_answer ss)
  answers_old [] i lt is h = refl
  answers_old (s ∷ ss) zero lt is h =
      let parts = and_parts new.answers (all_answer ss) h in
      and_from s.answers (all_answer ss) (subst (λ (r : StationView _). IsTrue r.answers) is (still parts.0)) parts.1
  answers_old (s ∷ ss) (suc i) lt is h =
      let parts = and_parts s.answers (all_answer (set ss i new)) h in
      and_from s.answers (all_answer ss) parts.0 (answers_old ss i (omega arith) is parts.1)

module _ {H R : Type 0} (h : CodeHubs H) (ss : List (StationView R)) (held : List (Vec Packet Global)) (i : ℕ) (old new : StationView R) (within : i < length ss) (is : old ≡ get_or ss i old)
    (still : IsTrue new.answers → IsTrue old.answers) (same : IsTrue new.answers → new.state ≡ old.state) where
  pub still_answers : IsTrue (nodes_answer h (set ss i new)) → IsTrue new.answers
  still_answers answers = answers_new old new still ss i within (stations_answer h (set ss i new) answers)

  -- none is won back
  pub won : NoneWonBack (answering h ss) (answering h (set ss i new))
  won = won_stations h (station_answers ss) (station_answers (set ss i new))
      (length-map ss (λ (s : StationView R). s.answers) ∙ sym (length-set ss i new) ∙ sym (length-map (set ss i new) (λ (s : StationView R). s.answers)))
      (won_among ss i old new within is still)

  -- the records of the station that has a party
  pub by_party : (party : Party) → length ss ≤ 16 → is_same_party old.state.me party ≡ true → PartyAnswers (world_of h ss held) party (running h (set ss i new) held) → IsTrue new.answers
  by_party party few named answers =
      let there = node_there (hubs_in h) ss (i + 1) i old (few_numbers h ss few) refl within is in
      let low : 1 ≤ i + 1 = omega arith in
      let high : i + 1 ≤ length ss = omega (arith, within) in
      let asked = station_by_number h ss (set ss i new) held (i + 1) few (length-set ss i new) (answers (i + 1) old.state there (same_party old.state.me party named)) low high in
      let back : i + 1 - 1 ≡ i = omega arith in
      sym (set_answers ss i new within) ∙ subst (λ k. IsTrue (get_or (station_answers (set ss i new)) k true)) back asked

  pub answered : IsTrue (nodes_answer h (set ss i new)) → IsTrue (nodes_answer h ss)
  answered answers = all_answer_so h ss (set ss i new) answers (answers_old old new still ss i within is (stations_answer h (set ss i new) answers))

  pub stays : IsTrue new.answers → world_of h (set ss i new) held ≡ world_of h ss held
  stays answers =
      let state = same answers in
      let nodes : station_nodes (set ss i new) ≡ station_nodes ss =
      map-set_same (λ (s : StationView _). IsStation s.state) ss i new old (ap IsStation state ∙ ap (λ (s : StationView _). IsStation s.state) is) in
      ap (λ ns. record (world_of h ss held) { nodes = beside (hubs_in h) ns }) nodes

  pub stays_reached : (xs : List Listed) → Runs h ss held xs → Runs h (set ss i new) held xs
  stays_reached xs was = record {
    few = subst (λ n. n ≤ 16) (sym (length-set ss i new)) was.few;
    reached = λ answers. subst (IsReachable x12) (sym (stays (still_answers answers))) (was.reached (answered answers));
    listed = λ answers.
        let states : states_of (set ss i new) ≡ states_of ss = map-set_same (λ (s : StationView _). s.state) ss i new old (same (still_answers answers) ∙ ap (λ (s : StationView _). s.state) is) in
        subst (λ ts. AreListed ts xs) (sym states) (was.listed (answered answers));
  }

-- a station's answer that is none, as the network's: the station is there
pub unanswered : (there : Bool) (fault : StationFault) (e : Refused) → there ≡ true → IsOfRecords fault → e ≡ Node (OfStation fault) → IsUnanswered there e
unanswered there fault e is why from = subst (IsUnanswered there) (sym from) (is, why)

pub handed_on : {T : Type 0} (r : Result T Refused) (there : Bool) (fault : StationFault) → IsErrAnd r (λ e. e ≡ Node (OfStation fault)) → there ≡ true → IsOfRecords fault
    → IfErr r (IsUnanswered there)
handed_on (Ok x) there fault from is why = tt
handed_on (Err e) there fault from is why = unanswered there fault e is why from

-- the network's own, handed on
pub handed_same : {T : Type 0} (r : Result T Refused) (e : Refused) (P : Refused → Type 0) → IsErrAnd r (λ f. f ≡ e) → P e → IfErr r P
handed_same (Ok x) e P from is = tt
handed_same (Err f) e P from is = subst P (sym from) is
