-- The facts about all that was ever sent, and that nodes never conflict.
use Rattle.std.specs.Prelude.{◌≡◌, ℕ, false, Option, Some, None, Contains, refl, ◌⊎◌, IsTrue}
use mathlib.Core.Path.{sym, ap, subst, ◌∙◌}
use mathlib.Core.Logic.{inl, inr}
use Rattle.x12_profile.specs.declared.edition.Edition.{Edition}
use Rattle.x12_judge.specs.declared.verdict.SetResult.TheVariants.{Rejected}
use Rattle.x12_acks.specs.Evidence.{fate_of_result}
use Rattle.x12_profile.specs.Interchange.{Bytes, PlacedEvidence}
use Rattle.x12_profile.specs.Profile.{Profile}
use Rattle.x12_profile.specs.Laws.{Laws}
use Rattle.x12_station.specs.History.{HasCame, Submitted, Came, KeptArrival, arrivals, filed, told_in}
use Rattle.x12_station.specs.Station.{Station}
use Rattle.x12_hub.specs.Hub.{Hub, Decision, Boxed, Refused}
use Rattle.x12_core.specs.Packet.{carried}
use Rattle.x12_world.specs.Packet.{SentPacket}
use Rattle.x12_core.specs.Packet as packet
use Rattle.x12_core.specs.Node.{Node, IsHub, IsStation, is_hub}
use Rattle.x12_world.specs.Network.{Network}
use Rattle.x12_world.specs.Nodes.{node_at, home_of}
use Rattle.x12_world.specs.World.{World, StationAt, HubAt}
use Rattle.x12_world.specs.Held.{IsKept}
use Rattle.x12_world.specs.Traffic.{IsBoxedFor, IsNode, WasSent, HasSubmitted, TrafficFacts}
use Rattle.x12_world.specs.Conflict.{NoConflict}
use Rattle.x12_numbers.proofs.Shelf.{contains_mapped, none_in_nil, some_inj}
use Rattle.x12_station.proofs.HistoryLemmas.{in_submissions, came_in_arrivals, after_in_items, told_found, filed_found}
use Rattle.x12_world.proofs.Traces.{Trace, IsCarried, IsBy, IsRefusedWith, LoadOk, newest}
use Rattle.x12_world.proofs.WorldLemmas.{trace_of, Sound}
use Rattle.x12_world.proofs.LearntLemmas.{by_verdict, name_at, items_at, decisions_at, hub_believed, hub_of, learnt, learnt_at}
use Rattle.x12_world.proofs.HeadlineLemmas.{kept_tells, refused_tells, refused_nowhere}

module _ (p : Profile) (laws : Laws p) (net : Network) (w : World) (was : Sound p net w) where
  abbrev t : Trace
  t = trace_of w

  pub carried_of : (b : Bytes) → WasSent w b → IsCarried t b
  carried_of b h = record { packet = h.0.packet; sent = contains_mapped (λ (q : SentPacket). q.packet) w.packets h.0 h.1; holds = h.2 }

  pub sent_item : (s : Station) (x : Bytes) (h : HasSubmitted w s x) → Contains (t.items h.0) (Submitted x)
  sent_item s x h = rw (items_at p laws net w was h.0 s h.1) (in_submissions s.items x h.2)

  -- a node that has items is a station
  pub station_of : (j : ℕ) (x : Bytes) (r : Bytes) → HasCame (t.items j) x (Some r) → (n : Option Node) → node_at w.nodes j ≡ n → (s : Station) × StationAt w j s
  station_of j x r h None e = absurd (none_in_nil (Came h.0 x (Some r)) (rw e at h.1))
  station_of j x r h (Some (IsHub k)) e = absurd (none_in_nil (Came h.0 x (Some r)) (rw e at h.1))
  station_of j x r h (Some (IsStation s)) e = (s, e)

  unique : (b c : Bytes) → WasSent w b → WasSent w c → IsNode w (p.sender b) → p.sender b ≡ p.sender c → p.number b ≡ p.number c → b ≡ c
  unique b c hb hc node same number = was.holds.unique node.0 b c (inl (carried_of b hb)) (inl (carried_of c hc)) node.1 (node.1 ∙ ap Some same) number

  apart : (k : ℕ) (h : Hub) (x r : Bytes) → HubAt w k h → Contains h.decisions (record { body = x; outcome = Refused r }) → (node item : ℕ) → ¬ (Contains h.decisions (record { body = x; outcome = Boxed node item }))
  apart k h x r at refused node item boxed =
      let ds = decisions_at p laws net w was k h at in
      let one = was.holds.decided_first k (record { body = x; outcome = Boxed node item }) (rw ds boxed) in
      let two = was.holds.decided_first k (record { body = x; outcome = Refused r }) (rw ds refused) in
      differ (sym one ∙ two)
    where
      differ : Some (Boxed node item) ≡ Some (Refused r) → ⊥
      differ e = cc

  forwarded : (q : SentPacket) (item : ℕ) (b : Bytes) → Contains w.packets q → q.packet.load ≡ packet.Item item b → (h : Hub) × HubAt w q.packet.from h × Contains h.decisions (record { body = b; outcome = Boxed q.packet.to item })
  forwarded q item b sent load =
      let ok = subst (LoadOk p t q.packet.from q.packet.to) load (was.holds.packet q.packet (contains_mapped (λ (q : SentPacket). q.packet) w.packets q sent)) in
      let h = hub_of p laws net w was q.packet.from (record { body = b; outcome = Boxed q.packet.to item }) ok in
      (h.0, h.1, rw (decisions_at p laws net w was q.packet.from h.0 h.1) at ok)

  -- a station is no hub
  station_is : (i : ℕ) (s : Station) → StationAt w i s → t.hub i ≡ false
  station_is i s at = ap is_hub at

  decided : (k : ℕ) (h : Hub) (d : Decision) → HubAt w k h → Contains h.decisions d → (i : ℕ) (s : Station) → StationAt w i s → s.me ≡ p.sender d.body → (home_of w.nodes i ≡ k) ⊎ IsBoxedFor w k d.body
  decided k h d at has i s here me =
      elim ((was.holds.decision k d (rw (decisions_at p laws net w was k h at) has)).brought i (name_at p laws net w was i s here ∙ ap Some me) (station_is i s here)) [
        | inl own ↦ inl own
        | inr other ↦
            let g = hub_of p laws net w was other.0 (record { body = d.body; outcome = Boxed k other.1 }) other.2 in
            inr (other.0, g.0, other.1, g.1, rw (decisions_at p laws net w was other.0 g.0 g.1) at other.2)
      ]

  kept : (s : Station) (x : Bytes) → HasSubmitted w s x → (j : ℕ) (a : Station) → StationAt w j a → a.me ≡ p.receiver x
      → (b : Bytes) → WasSent w b → p.sender b ≡ a.me → IsTrue (p.has_header b) → (ed : Edition) → p.refuses ed s.me b ≡ false → (e : PlacedEvidence) → Contains (p.evidence ed s.hubs b x) e → HasCame a.items x (Some b)
  kept s x h j a at_j me b sent from header ed taken e tells =
      let by : IsBy p t j b = name_at p laws net w was j a at_j ∙ ap Some (sym from) in
      elim (learnt_at p laws net w was ed h.0 s.me (name_at p laws net w was h.0 s h.1) x b (sent_item s x h) header (λ k by_k. carried_of b sent) taken s.hubs e tells j by) [
        | inl here ↦ rw (items_at p laws net w was j a at_j) at here
        | inr d ↦ let h = hub_of p laws net w was j (record { body = x; outcome = Refused b }) d in absurd (differ (sym h.1 ∙ at_j))
      ]
    where
      differ : {k : Hub} → Some (IsHub k) ≡ Some (IsStation a) → ⊥
      differ e = cc

  -- what was told came from one of the two
  pub source : (s : Station) (x : Bytes) (h : HasSubmitted w s x) (to : IsNode w (p.receiver x)) (e : PlacedEvidence) (told : Contains (told_in p s.me s.hubs s.items x) e)
      → (r : Bytes) × Contains (arrivals s.items) r × Contains (p.evidence newest s.hubs r x) e × (HasCame (t.items to.0) x (Some r) ⊎ ((k : ℕ) × IsRefusedWith t k x r))
  source s x h to e told =
      let from = told_found p s.me s.hubs s.items x e told in
      let came : HasCame s.items from.1 from.2 = (from.0, after_in_items s.items x (Came from.0 from.1 from.2) from.3) in
      let here : HasCame (t.items h.0) from.1 from.2 = rw (items_at p laws net w was h.0 s h.1) came in
      let ok = was.holds.came h.0 from.1 from.2 here in (
        from.1,
        came_in_arrivals s.items from.1 from.2 came,
        subst (λ ed. Contains (p.evidence ed s.hubs from.1 x) e) (was.holds.by_newest h.0 from.0 from.1 from.2 here.1) from.5,
        learnt p laws net w was from.0 h.0 s.me (name_at p laws net w was h.0 s h.1) x from.1 (sent_item s x h) ok.header ok.carried from.4 s.hubs e from.5 to.0 to.1 (hub_believed p laws net w was h.0 s h.1),
      )

  learnt_of : (s : Station) (x : Bytes) → HasSubmitted w s x → IsNode w (p.receiver x) → (e : PlacedEvidence) → Contains (told_in p s.me s.hubs s.items x) e → (ed : Edition) × (r : Bytes) × Contains (arrivals s.items) r × IsKept p w x r × Contains (p.evidence ed s.hubs r x) e
  learnt_of s x h to e told =
      let from = source s x h to e told in
      (newest, from.0, from.1, is from.0 from.3, from.2)
    where
      is : (r : Bytes) → (HasCame (t.items to.0) x (Some r) ⊎ ((k : ℕ) × IsRefusedWith t k x r)) → IsKept p w x r
      is r (inl came) =
          let a = station_of to.0 x r came (node_at w.nodes to.0) refl in
          let me : Some a.0.me ≡ Some (p.receiver x) = sym (name_at p laws net w was to.0 a.0 a.1) ∙ to.1 in
          inl (to.0, a.0, a.1, some_inj me, rw (items_at p laws net w was to.0 a.0 a.1) at came)
      is r (inr d) =
          let h = hub_of p laws net w was d.0 (record { body = x; outcome = Refused r }) d.1 in
          inr (d.0, h.0, h.1, rw (decisions_at p laws net w was d.0 h.0 h.1) at d.1)

  pub traffic_holds : TrafficFacts p w
  traffic_holds = record { one_number = unique; kept_reply = kept; refused_or_boxed = apart; forwarded_as_boxed = forwarded; decided_from = decided; learnt_from = learnt_of }

  pub reply_inj : (x r q : Bytes) → ◌≡◌ {A = Option KeptArrival} (Some (record { body = x; reply = Some r })) (Some (record { body = x; reply = Some q })) → r ≡ q
  reply_inj x r q e = some_inj (ap reply_of e)
    where
      reply_of : Option KeptArrival → Option Bytes
      reply_of None = None
      reply_of (Some f) = f.reply

  -- the two sources never tell two things
  one : (s : Station) (x : Bytes) → HasSubmitted w s x → IsNode w (p.receiver x) → (e f : PlacedEvidence) → Contains (told_in p s.me s.hubs s.items x) e → Contains (told_in p s.me s.hubs s.items x) f → e.place ≡ f.place → e.fate ≡ f.fate
  one s x h to e f te tf place =
      let a = source s x h to e te in
      let b = source s x h to f tf in
      both a.0 a.2 a.3 b.0 b.2 b.3
    where
      both : (r : Bytes) → Contains (p.evidence newest s.hubs r x) e → (HasCame (t.items to.0) x (Some r) ⊎ ((k : ℕ) × IsRefusedWith t k x r))
          → (q : Bytes) → Contains (p.evidence newest s.hubs q x) f → (HasCame (t.items to.0) x (Some q) ⊎ ((k : ℕ) × IsRefusedWith t k x q)) → e.fate ≡ f.fate
      both r er (inl cr) q fq (inl cq) =
          let filed_one : ◌≡◌ {A = Option KeptArrival} (Some (record { body = x; reply = Some r })) (Some (record { body = x; reply = Some q })) = sym (was.holds.filed_first to.0 x (Some r) cr) ∙ was.holds.filed_first to.0 x (Some q) cq in
          let same : r ≡ q = reply_inj x r q filed_one in
          let tells = kept_tells p laws net w was h.0 s h.1 x h.2 r to.0 cr to.1 in
          let ve = by_verdict tells.0 (p.sets x) e (rw (tells.1 s.hubs) at er) in
          let vf = by_verdict tells.0 (p.sets x) f (rw (tells.1 s.hubs) at (subst (λ z. Contains (p.evidence newest s.hubs z x) f) (sym same) fq)) in
          ve.0 ∙ ap (λ z. fate_of_result (tells.0 z)) place ∙ sym vf.0
      both r er (inl cr) q fq (inr dq) = refused_nowhere p laws net w was h.0 s h.1 x h.2 dq.0 q dq.1 to.0 (Some r) cr
      both r er (inr dr) q fq (inl cq) = refused_nowhere p laws net w was h.0 s h.1 x h.2 dr.0 r dr.1 to.0 (Some q) cq
      both r er (inr dr) q fq (inr dq) =
          let ve = by_verdict (λ k. Rejected) (p.sets x) e (rw (refused_tells p laws net w was h.0 s h.1 x h.2 dr.0 r dr.1) at er) in
          let vf = by_verdict (λ k. Rejected) (p.sets x) f (rw (refused_tells p laws net w was h.0 s h.1 x h.2 dq.0 q dq.1) at fq) in
          ve.0 ∙ sym vf.0

  other : (b : Bytes) → WasSent w b → IsNode w (p.sender b) → (j : ℕ) (s : Station) → StationAt w j s → (f : KeptArrival) → filed p s.items (p.sender b) (p.number b) ≡ Some f → f.body ≡ b
  other b sent node j s at f found =
      let is = filed_found p s.items (p.sender b) (p.number b) f found in
      let by : IsBy p t node.0 f.body = node.1 ∙ ap Some (sym is.1) in
      let ok = was.holds.came j f.body f.reply (rw (items_at p laws net w was j s at) is.0) in
      was.holds.unique node.0 f.body b (inl (ok.carried node.0 by)) (inl (carried_of b sent)) by node.1 is.2

  pub no_conflict : NoConflict p w
  no_conflict = record { one_fate = one; never_other = other }
