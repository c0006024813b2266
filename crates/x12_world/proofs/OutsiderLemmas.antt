-- What bears no node's name moves nothing between nodes: an arrival adds at most itself to one history.
use Rattle.std.specs.Prelude.{is_some, ◌≡◌, ◌≢◌, ℕ, List, [], ◌∷◌, ◌++◌, Bool, true, false, ◌&&◌, ◌==◌, if◌then◌else◌, Option, Some, None, Contains, refl, ◌⊎◌}
use mathlib.Core.Path.{sym, ap, subst, ◌∙◌}
use mathlib.Core.Logic.{inl, inr}
use Rattle.std.proofs.lemmas.List.{append-nil}
use Rattle.std.proofs.lemmas.Bool.Decides.{eqb_tells}
use Rattle.x12_envelopes.specs.declared.party.Party.{Party}
use Rattle.x12_envelopes.specs.declared.moment.Moment.{Moment}
use Rattle.x12_core.specs.Ask.{Ask, Do, Comes, Outside, Fate, bytes_of_ask, does_at}
use Rattle.x12_profile.specs.declared.edition.Edition.{Edition}
use Rattle.x12_profile.specs.Interchange.{Bytes, PlaceOfSet, PlacedEvidence, Book, book_for, is_within}
use Rattle.x12_profile.specs.Profile.{Profile}
use Rattle.x12_profile.specs.Laws.{Laws}
use Rattle.x12_station.specs.History.{Came, KeptArrival, filed, submissions, first_told, told, told_in, fate_in, posted_under}
use Rattle.x12_station.specs.Station.{Station, edition_next}
use Rattle.x12_hub.specs.Hub.{Hub, HubStep, deposit}
use Rattle.x12_core.specs.Packet.{Packet, Load, Deposit, Refusal, Taken, carried}
use Rattle.x12_core.specs.Packet as packet
use Rattle.x12_core.specs.declared.packet.Site.{Site}
use Rattle.x12_core.specs.Node.{Node, IsHub, IsStation}
use Rattle.x12_world.specs.Network.{Network}
use Rattle.x12_world.specs.Nodes.{node_at, with_node, site_of}
use Rattle.x12_world.specs.World.{World, StationAt, Event, is_named}
use Rattle.x12_world.specs.Traffic.{IsNode}
use Rattle.x12_world.specs.Outsider.{brings, bytes_asked, OutsidersMoveNothing}
use Rattle.x12_judge.specs.Agreement.{is_same_party}
use Rattle.x12_profile.proofs.PartyLemmas.{party_tells}
use Rattle.x12_station.proofs.ListLemmas.{if_cases}
use Rattle.x12_numbers.proofs.Shelf.{contains_head, bytes_eq_tells, if_some_parts, some_inj}
use Rattle.x12_world.proofs.NodesLemmas.{node_same, node_other, unnamed}
use Rattle.x12_station.proofs.HistoryLemmas.{in_submissions, told_append, posted-append, other_posts_nothing}
use Rattle.x12_world.proofs.WorldLemmas.{Sound}
use Rattle.x12_world.proofs.LearntLemmas.{hub_believed}
use Rattle.x12_world.specs.Run.{happens}
use Rattle.x12_world.specs.EventRefusal.{EventRefusal, event_refusal}
use Rattle.x12_core.specs.Effect.{Effect, from_station, from_hub, comes, comes_to_station, comes_to_hub, comes_outside, reports_taken}
use Rattle.x12_world.specs.Effect.{Asked, asked_by, after_effect, effect_at, after_asked}
use Rattle.x12_station.specs.StationStep.{StationStep, arrive, arrive_at, arrive_new, arrive_other, filed_now}
use Rattle.x12_acks.specs.Submission.{TransactionSetKey}

-- a station's history got b, or nothing
pub record Adds (s s' : Station) (b : Bytes) : Type 0 where
  pub me : s'.me ≡ s.me
  pub hubs : s'.hubs ≡ s.hubs
  pub items : (s'.items ≡ s.items) ⊎ ((ed : Edition) × (r : Option Bytes) × (s'.items ≡ s.items ++ Came ed b r ∷ []))

abbrev pub AddsTo : Node → Node → Bytes → Type 0
AddsTo (IsStation s) n b = (s' : Station) × (n ≡ IsStation s') × Adds s s' b
AddsTo (IsHub h) n b = (h' : Hub) × (n ≡ IsHub h')

nothing_new : (s : Station) (b : Bytes) → Adds s s b
nothing_new s b = record { me = refl; hubs = refl; items = inl refl }

module _ (p : Profile) (m : Moment) (s : Station) (b : Bytes) where
  abbrev AddsStep : StationStep → Type 0
  AddsStep step = Adds s step.station b

  new_adds : (book : Book) (step : StationStep) → arrive_new p s m b book ≡ Some step → AddsStep step
  new_adds book step e =
      let r : Bytes = p.reply (edition_next s) s.me s.agreements m book b in
      elim (if_cases (p.needs (edition_next s) s.me s.agreements b).reply (if is_within book then Some (record { station = filed_now p s b (Some r) book; sends = r ∷ [] }) else None) (Some (record { station = filed_now p s b None s.book; sends = [] })) (Some step) e) [
        | inl due ↦ subst AddsStep (some_inj (if_some_parts (is_within book) (Some (record { station = filed_now p s b (Some r) book; sends = r ∷ [] })) step due.1).1) (record { me = refl; hubs = refl; items = inr (edition_next s, Some r, refl) })
        | inr none ↦ subst AddsStep (some_inj none.1) (record { me = refl; hubs = refl; items = inr (edition_next s, None, refl) })
      ]

  other_adds : (book : Book) (step : StationStep) → arrive_other p s m b book ≡ Some step → AddsStep step
  other_adds book step e =
      let r : Bytes = p.refusal 25 s.me m book.interchange b in
      elim (if_cases (p.is_silent b) (Some (record { station = s; sends = [] })) (if is_within book then Some (record { station = record s { book = book }; sends = r ∷ [] }) else None) (Some step) e) [
        | inl quiet ↦ subst AddsStep (some_inj quiet.1) (nothing_new s b)
        | inr loud ↦ subst AddsStep (some_inj (if_some_parts (is_within book) (Some (record { station = record s { book = book }; sends = r ∷ [] })) step loud.1).1) (record { me = refl; hubs = refl; items = inl refl })
      ]

  at_adds : (found : Option KeptArrival) (step : StationStep) → arrive_at p s m b found ≡ Some step → AddsStep step
  at_adds None step e = new_adds (book_for s.book (p.needs (edition_next s) s.me s.agreements b)) step e
  at_adds (Some f) step e = elim (bytes_eq_tells f.body b) [
    | inl same ↦ subst AddsStep (some_inj (rw (same.0) at e)) (nothing_new s b)
    | inr apart ↦ other_adds (book_for s.book (record { reply = true; group = false })) step (rw (apart.0) at e)
  ]

  arrive_adds : (step : StationStep) → arrive p s m b ≡ Some step → AddsStep step
  arrive_adds step e = at_adds (filed p s.items (p.sender b) (p.number b)) step (if_some_parts (p.has_header b) (arrive_at p s m b (filed p s.items (p.sender b) (p.number b))) step e).1

  -- through the world's routing
  station_adds : (i : Site) (first : List Packet) (o : Option StationStep) → arrive p s m b ≡ o → (e : Effect) → from_station i first o ≡ Some e → AddsTo (IsStation s) e.node b
  station_adds i first None is e h = absurd cc
  station_adds i first (Some step) is e h = subst (λ z. AddsTo (IsStation s) z.node b) (some_inj h) (step.station, refl, arrive_adds step is)

hub_adds : (k : ℕ) (h : Hub) (b : Bytes) (first : List Packet) (to : Option ℕ) (o : Option HubStep) (e : Effect) → from_hub k first to o ≡ Some e → AddsTo (IsHub h) e.node b
hub_adds k h b first to None e is = absurd cc
hub_adds k h b first to (Some step) e is = subst (λ z. AddsTo (IsHub h) z.node b) (some_inj is) (step.hub, refl)

module _ (p : Profile) where
  load_adds : (i : Site) (from : ℕ) (m : Moment) (s : Station) (l : Load) (b : Bytes) → carried l ≡ Some b → (e : Effect) → comes_to_station p i from m s l ≡ Some e → AddsTo (IsStation s) e.node b
  load_adds i from m s (packet.Item item c) b is e h = subst (AddsTo (IsStation s) e.node) (some_inj is) (station_adds p m s c i (reports_taken i.node from item ∷ []) (arrive p s m c) refl e h)
  load_adds i from m s (Refusal c) b is e h = subst (AddsTo (IsStation s) e.node) (some_inj is) (station_adds p m s c i [] (arrive p s m c) refl e h)
  load_adds i from m s (Deposit c) b is e h = absurd cc
  load_adds i from m s (Taken item) b is e h = absurd cc

  hub_load_adds : (k from : ℕ) (m : Moment) (h : Hub) (l : Load) (b : Bytes) → carried l ≡ Some b → (e : Effect) → comes_to_hub p k from m h l ≡ Some e → AddsTo (IsHub h) e.node b
  hub_load_adds k from m h (Deposit c) b is e x = hub_adds k h b [] (Some from) (deposit p h m c) e x
  hub_load_adds k from m h (packet.Item item c) b is e x = hub_adds k h b (reports_taken k from item ∷ []) (Some from) (deposit p h m c) e x
  hub_load_adds k from m h (Refusal c) b is e x = hub_adds k h b [] None (deposit p h m c) e x
  hub_load_adds k from m h (Taken item) b is e x = absurd cc

  comes_adds : (i : Site) (from : ℕ) (l : Load) (m : Moment) (b : Bytes) → carried l ≡ Some b → (n : Node) (e : Effect) → comes p i from l m n ≡ Some e → AddsTo n e.node b
  comes_adds i from l m b is (IsStation s) e h = load_adds i from m s l b is e h
  comes_adds i from l m b is (IsHub k) e h = hub_load_adds i.node from m k l b is e h

  outside_adds : (i : Site) (b : Bytes) (m : Moment) (n : Node) (e : Effect) → comes_outside p i b m n ≡ Some e → AddsTo n e.node b
  outside_adds i b m (IsStation s) e h = station_adds p m s b i [] (arrive p s m b) refl e h
  outside_adds i b m (IsHub k) e h = hub_adds i.node k b [] None (deposit p k m b) e h

  -- each station's history got b, or nothing
  abbrev pub AllAdd : World → World → Bytes → Type 0
  AllAdd w w' b = (j : ℕ) (s s' : Station) → StationAt w j s → StationAt w' j s' → Adds s s' b

  same_all : (w : World) (b : Bytes) → AllAdd w w b
  same_all w b j s s' at at' = let same : Some (IsStation s) ≡ Some (IsStation s') = sym at ∙ at' in let is : s ≡ s' = cc in subst (λ z. Adds s z b) is (nothing_new s b)

  set_all : (w : World) (i : ℕ) (n : Node) (e : Effect) (b : Bytes) → node_at w.nodes i ≡ Some n → AddsTo n e.node b → AllAdd w (after_effect p w i (Some e)) b
  set_all w i n e b at adds j s s' here there = elim (eqb_tells j i) [
    | inl same ↦
        let old : Some n ≡ Some (IsStation s) = sym at ∙ subst (λ k. node_at w.nodes k ≡ Some (IsStation s)) same.1 here in
        let now : Some e.node ≡ Some (IsStation s') = sym (node_same w.nodes i n e.node at) ∙ subst (λ k. node_at (with_node w.nodes i e.node) k ≡ Some (IsStation s')) same.1 there in
        two n (some_inj old) adds (some_inj now)
    | inr apart ↦
        let same : Some (IsStation s) ≡ Some (IsStation s') = sym here ∙ sym (node_other w.nodes i n e.node j apart.1) ∙ there in
        let is : s ≡ s' = cc in subst (λ z. Adds s z b) is (nothing_new s b)
  ]
    where
      two : (n : Node) → n ≡ IsStation s → AddsTo n e.node b → e.node ≡ IsStation s' → Adds s s' b
      two (IsHub h) is adds now = absurd cc
      two (IsStation r) is adds now =
          let r_is : r ≡ s = cc in
          let both : IsStation adds.0 ≡ IsStation s' = sym adds.1 ∙ now in
          let s_is : adds.0 ≡ s' = cc in
          subst (λ z. Adds z s' b) r_is (subst (λ z. Adds r z b) s_is adds.2)

  effect_all : (w : World) (i : ℕ) (a : Ask) (b : Bytes) → ((n : Node) (e : Effect) → does_at p (site_of w.nodes i) a n ≡ Some e → AddsTo n e.node b) → (node : Option Node) → node_at w.nodes i ≡ node → (e : Option Effect) → effect_at p (site_of w.nodes i) a node ≡ e → AllAdd w (after_effect p w i e) b
  effect_all w i a b each None at None is = same_all w b
  effect_all w i a b each None at (Some e) is = absurd cc
  effect_all w i a b each (Some n) at None is = same_all w b
  effect_all w i a b each (Some n) at (Some e) is = set_all w i n e b at (each n e is)

  ask_adds : (i : Site) (a : Ask) (b : Bytes) → bytes_of_ask a ≡ Some b → (n : Node) (e : Effect) → does_at p i a n ≡ Some e → AddsTo n e.node b
  ask_adds i (Do x) b is n e h = absurd cc
  ask_adds i (Comes name from l m) b is n e h = comes_adds i from l m b is n e h
  ask_adds i (Outside c m) b is n e h = subst (AddsTo n e.node) (some_inj is) (outside_adds i c m n e h)
  ask_adds i (Fate k) b is n e h = absurd cc

  asked_all : (w : World) (o : Option Asked) (b : Bytes) → bytes_asked o ≡ Some b → AllAdd w (after_asked p w o) b
  asked_all w None b is = absurd cc
  asked_all w (Some a) b is = effect_all w a.node a.ask b (ask_adds (site_of w.nodes a.node) a.ask b is) (node_at w.nodes a.node) refl (effect_at p (site_of w.nodes a.node) a.ask (node_at w.nodes a.node)) refl

  happens_all : (w : World) (e : Event) (b : Bytes) → brings w e ≡ Some b → AllAdd w (happens p w e) b
  happens_all w e b is = by (event_refusal p w e)
    where
      by : (r : Option EventRefusal) → AllAdd w (if is_some r then w else after_asked p w (asked_by w.packets e)) b
      by None = asked_all w (asked_by w.packets e) b is
      by (Some r) = same_all w b

pub empty_if : {X : Type 0} (xs : List X) → ((x : X) → ¬ (Contains xs x)) → xs ≡ []
empty_if [] h = refl
empty_if (x ∷ xs) h = absurd (h x (contains_head x xs))

module _ (p : Profile) (laws : Laws p) (net : Network) (w : World) (was : Sound p net w) (b : Bytes) (out : is_named p w b ≡ false) where
  no_node : (party : Party) → IsNode w party → p.sender b ≢ party
  no_node party node e = unnamed w.nodes (p.sender b) out node.0 (node.1 ∙ ap Some (sym e))

  tells_nothing : (i : ℕ) (s : Station) → StationAt w i s → (x : Bytes) → IsNode w (p.receiver x) → (ed : Edition) (r : Option Bytes) → told p s.me s.hubs x (Came ed b r) ≡ []
  tells_nothing i s at x to ed r = by (p.refuses ed s.me b)
    where
      none : (e : PlacedEvidence) → ¬ (Contains (p.evidence ed s.hubs b x) e)
      none e h = elim (laws.told_by ed s.hubs b x e h) [
        | inl from ↦ no_node (p.receiver x) to from
        | inr from ↦ let k = hub_believed p laws net w was i s at (p.sender b) from in no_node (p.sender b) (k.0, k.2) refl
      ]

      by : (t : Bool) → (if t then [] else p.evidence ed s.hubs b x) ≡ []
      by true = refl
      by false = empty_if (p.evidence ed s.hubs b x) none

  fate_same : (i : ℕ) (s s' : Station) → StationAt w i s → Adds s s' b → (x : Bytes) → Contains (submissions s.items) x → IsNode w (p.receiver x) → (k : PlaceOfSet) → fate_in p s'.me s'.hubs s'.items x k ≡ fate_in p s.me s.hubs s.items x k
  fate_same i s s' at adds x sent to k = by adds.items
    where
      by : (s'.items ≡ s.items) ⊎ ((ed : Edition) × (r : Option Bytes) × (s'.items ≡ s.items ++ Came ed b r ∷ [])) → fate_in p s'.me s'.hubs s'.items x k ≡ fate_in p s.me s.hubs s.items x k
      by (inl same) = rw (adds.me, adds.hubs, same) refl
      by (inr more) = rw (adds.me, adds.hubs, more.2) (ap (first_told k) (told_append p s.me s.hubs s.items (Came more.0 b more.1 ∷ []) x (in_submissions s.items x sent)
          ∙ ap (λ l. told_in p s.me s.hubs s.items x ++ (l ++ [])) (tells_nothing i s at x to more.0 more.1) ∙ append-nil (told_in p s.me s.hubs s.items x)))

  posted_same : (s s' : Station) → Adds s s' b → (k : TransactionSetKey) → IsNode w k.sender → posted_under p k s'.items ≡ posted_under p k s.items
  posted_same s s' adds k node = by adds.items
    where
      unlike : (is_same_party k.sender (p.sender b) && (k.icn == p.number b)) ≡ false
      unlike = elim (party_tells k.sender (p.sender b)) [ inl same ↦ absurd (no_node k.sender node (sym same.1)) | inr apart ↦ rw (apart.0) refl ]

      by : (s'.items ≡ s.items) ⊎ ((ed : Edition) × (r : Option Bytes) × (s'.items ≡ s.items ++ Came ed b r ∷ [])) → posted_under p k s'.items ≡ posted_under p k s.items
      by (inl same) = rw same refl
      by (inr more) = rw more.2 (posted-append p k s.items (Came more.0 b more.1 ∷ []) ∙ ap (λ l. posted_under p k s.items ++ l) (other_posts_nothing p k more.0 b more.1 unlike) ∙ append-nil (posted_under p k s.items))

pub outsiders_move_nothing : (p : Profile) → Laws p → (net : Network) (w : World) → Sound p net w → OutsidersMoveNothing p w
outsiders_move_nothing p laws net w was e b brings out = record {
  fates = λ i s s' at at' x sent to k. fate_same p laws net w was b out i s s' at (happens_all p w e b brings i s s' at at') x sent to k;
  postings = λ j s s' at at' k node. posted_same p laws net w was b out s s' (happens_all p w e b brings j s s' at at') k node;
}
