-- Each fate of a set addressed to a node was learnt from its receiver's kept reply, or from a hub's kept refusal.
use Rattle.std.specs.Prelude.{◌≡◌, ℕ, List, [], true, false, Option, Some, None, Contains, refl, ◌⊎◌, IsTrue, option_map}
use mathlib.Core.Path.{sym, ap, subst, ◌∙◌}
use mathlib.Core.Logic.{inl, inr}
use Rattle.x12_envelopes.specs.declared.party.Party.{Party}
use Rattle.x12_profile.specs.declared.edition.Edition.{Edition}
use Rattle.x12_judge.specs.declared.verdict.SetResult.{SetResult}
use Rattle.x12_acks.specs.Evidence.{fate_of_result}
use Rattle.x12_profile.specs.Interchange.{Bytes, PlaceOfSet, PlacedTransactionSet, PlacedEvidence, evidence_by}
use Rattle.x12_profile.specs.Profile.{Profile}
use Rattle.x12_profile.specs.Laws.{Laws, SharesGroup}
use Rattle.x12_station.specs.History.{HasCame, Item, Submitted, Came}
use Rattle.x12_station.specs.Station.{Station}
use Rattle.x12_hub.specs.Hub.{Hub, Decision, Refused}
use Rattle.x12_core.specs.Node.{Node, IsHub, IsStation, party_of_node, is_hub}
use Rattle.x12_world.specs.Network.{Network, IsHubNumber}
use Rattle.x12_world.specs.Nodes.{node_at, home_of}
use Rattle.x12_world.specs.World.{World, StationAt, HubAt}
use Rattle.x12_station.proofs.ListLemmas.{contains_map}
use Rattle.x12_numbers.proofs.Shelf.{none_in_nil, contains_mapped}
use Rattle.x12_world.proofs.NetworkLemmas.{believed_name, name_believed}
use Rattle.x12_world.proofs.Traces.{Trace, IsBy, IsCarried, IsRefusedWith, newest, Origin, submitted, replied, noted, refused, SentOk}
use Rattle.x12_world.proofs.WorldLemmas.{trace_of, Sound, read, items_in, decisions_in}

-- each piece of evidence of a list that tells a verdict is the verdict's
pub by_verdict : (v : PlaceOfSet → SetResult) (ss : List PlacedTransactionSet) (e : PlacedEvidence) → Contains (evidence_by newest v ss) e → (e.fate ≡ fate_of_result (v e.place)) × (s : PlacedTransactionSet) × Contains ss s × (s.place ≡ e.place)
by_verdict v ss e h =
    let from = contains_map (λ (s : PlacedTransactionSet). record { place = s.place; fate = fate_of_result (v s.place) }) ss e h in
    (subst (λ z. z.fate ≡ fate_of_result (v z.place)) from.2 refl, from.0, from.1, ap (λ z. z.place) from.2)

pub has_verdict : (v : PlaceOfSet → SetResult) (ss : List PlacedTransactionSet) (s : PlacedTransactionSet) → Contains ss s → Contains (evidence_by newest v ss) (record { place = s.place; fate = fate_of_result (v s.place) })
has_verdict v ss s h = contains_mapped (λ (s : PlacedTransactionSet). record { place = s.place; fate = fate_of_result (v s.place) }) ss s h

module _ (p : Profile) (laws : Laws p) (net : Network) (w : World) (was : Sound p net w) where
  abbrev t : Trace
  t = trace_of w

  pub name_at : (i : ℕ) (s : Station) → StationAt w i s → t.names i ≡ Some s.me
  name_at i s at = ap (option_map party_of_node) at

  pub items_at : (i : ℕ) (s : Station) → StationAt w i s → t.items i ≡ s.items
  items_at i s at = ap (read items_in []) at

  pub decisions_at : (k : ℕ) (h : Hub) → HubAt w k h → t.decisions k ≡ h.decisions
  decisions_at k h at = ap (read decisions_in []) at

  -- what has an item is no hub
  pub no_hub_item : (i : ℕ) (c : Item) → Contains (t.items i) c → t.hub i ≡ false
  no_hub_item i c h = by (node_at w.nodes i) refl
    where
      by : (n : Option Node) → node_at w.nodes i ≡ n → is_hub (node_at w.nodes i) ≡ false
      by None is = rw is refl
      by (Some (IsHub g)) is = none_in_nil c (rw is at h)
      by (Some (IsStation s)) is = rw is refl

  -- a hub's number is that of a hub
  pub hub_is : (k : ℕ) → IsHubNumber net.second k → t.hub k ≡ true
  hub_is k number = ap is_hub (was.hub_there k number).1

  -- who decided is a hub, of this state
  pub hub_of : (k : ℕ) (d : Decision) → Contains (t.decisions k) d → (h : Hub) × HubAt w k h
  hub_of k d h = by (node_at w.nodes k) refl
    where
      by : (n : Option Node) → node_at w.nodes k ≡ n → (h : Hub) × HubAt w k h
      by None is = none_in_nil d (rw is at h)
      by (Some (IsHub g)) is = (g, is)
      by (Some (IsStation s)) is = none_in_nil d (rw is at h)

  -- whom a station believes is a hub, and it believes each
  pub hub_believed : (i : ℕ) (s : Station) → StationAt w i s → (q : Party) → Contains s.hubs q → (k : ℕ) × IsHubNumber net.second k × (t.names k ≡ Some q)
  hub_believed i s at q has =
      let found = believed_name net (home_of w.nodes i) q (subst (λ l. Contains l q) (was.hubs i s at) has) in
      (found.0, found.1, was.names found.0 ∙ found.2)

  pub believes_hub : (i : ℕ) (s : Station) → StationAt w i s → (k : ℕ) (q : Party) → IsHubNumber net.second k → t.names k ≡ Some q → Contains s.hubs q
  believes_hub i s at k q number name = subst (λ l. Contains l q) (sym (was.hubs i s at)) (name_believed net (home_of w.nodes i) k q number (sym (was.names k) ∙ name))

  -- what a node wrote, other than its submissions, has no groups of its own
  ours : (i : ℕ) (x y : Bytes) → Contains (t.items i) (Submitted x) → IsCarried t y → IsBy p t i y → SharesGroup p y x → y ≡ x
  ours i x y sent carried by shares = from (was.holds.origin i y (inl carried) by)
    where
      none : {A : Type 0} → p.groups y ≡ [] → A
      none e = none_in_nil shares.0 (rw e at shares.1)

      from : Origin p t i y → y ≡ x
      from (submitted h) = was.holds.groups_apart i y x h sent shares
      from (replied z h) = let ok = was.holds.reply i z y h in none (laws.reply.no_groups ok.me ok.agreements z y ok.reply)
      from (noted z me n h) = none (laws.refusal.no_groups me z y h)
      from (refused z h) = let ok = was.holds.refusal i z y h in none (laws.refusal.no_groups ok.me z y ok.refusal)

  -- what the induction knows of an arrival that tells of a submission to a node, or comes from a hub
  module _ (ed : Edition) (i : ℕ) (me : Party) (name : t.names i ≡ Some me) (x b : Bytes) (sent : Contains (t.items i) (Submitted x)) (header : IsTrue (p.has_header b)) (carried : (k : ℕ) → IsBy p t k b → IsCarried t b) (taken : p.refuses ed me b ≡ false)
      (hubs : List Party) (e : PlacedEvidence) (tells : Contains (p.evidence ed hubs b x) e) where
    x_ok : SentOk p t i x
    x_ok = was.holds.sent i x sent

    to_me : p.receiver b ≡ me
    to_me = laws.refuses_others ed me b header taken

    -- what b answers was written by this station
    mine : (y : Bytes) → p.receiver b ≡ p.sender y → IsBy p t i y
    mine y to = name ∙ ap Some (sym to_me ∙ to)

    abbrev pub IsLearnt : ℕ → Type 0
    IsLearnt j = HasCame (t.items j) x (Some b) ⊎ IsRefusedWith t j x b

    pub learnt_at : (j : ℕ) → IsBy p t j b → IsLearnt j
    learnt_at j by = from (was.holds.origin j b (inl (carried j by)) by)
      where
        from : Origin p t j b → IsLearnt j
        from (submitted h) = none_in_nil e (rw (laws.submission.tells_nothing ed hubs b x (was.holds.sent j b h).submission) at tells)
        from (replied y h) =
            let ok = was.holds.reply j y b h in
            let by_y = mine y (laws.reply.to ok.me ok.agreements y b ok.reply) in
            let y_carried = (was.holds.came j y (Some b) h).carried i by_y in
            let same : y ≡ x = elim (laws.reply.about ok.me ok.agreements y b ok.reply ed hubs x e tells) [
              | inl number ↦ was.holds.unique i y x (inl y_carried) (inl x_ok.carried) by_y x_ok.by number
              | inr shares ↦ ours i x y sent y_carried by_y shares
            ] in
            inl (subst (λ z. HasCame (t.items j) z (Some b)) same h)
        from (noted y me' n h) = absurd (n i (mine y (laws.refusal.to me' y b h)))
        from (refused y h) =
            let ok = was.holds.refusal j y b h in
            let by_y = mine y (laws.refusal.to ok.me y b ok.refusal) in
            let y_carried = (was.holds.decision j (record { body = y; outcome = Refused b }) h).carried i by_y in
            let same = was.holds.unique i y x (inl y_carried) (inl x_ok.carried) by_y x_ok.by (laws.refusal.about ok.me y b ok.refusal ed hubs x e tells) in
            inr (subst (λ z. IsRefusedWith t j z b) same h)

    -- Evidence for a submission to a node was learnt from its receiver's kept reply, or from a hub's kept refusal.
    abbrev pub IsSource : ℕ → Type 0
    IsSource j = HasCame (t.items j) x (Some b) ⊎ ((k : ℕ) × IsRefusedWith t k x b)

    pub learnt : (j : ℕ) → t.names j ≡ Some (p.receiver x) → ((q : Party) → Contains hubs q → (k : ℕ) × IsHubNumber net.second k × (t.names k ≡ Some q)) → IsSource j
    learnt j to known = elim (laws.told_by ed hubs b x e tells) [
      | inl from ↦ elim (learnt_at j (to ∙ ap Some (sym from))) [ inl h ↦ inl h | inr h ↦ inr (j, h) ]
      | inr from ↦
          let is = known (p.sender b) from in
          elim (learnt_at is.0 is.2) [
            | inl h ↦ let no : true ≡ false = sym (hub_is is.0 is.1) ∙ no_hub_item is.0 (Came h.0 x (Some b)) h.1 in absurd cc
            | inr h ↦ inr (is.0, h)
          ]
    ]
