-- Each step of a hub is what one event may add.
use Rattle.x12_numbers.specs.declared.book.TheConstants.{MAX_CONTROL_NUMBER}
use Rattle.std.specs.Prelude.{◌≡◌, ℕ, ◌+◌, ◌≤◌, List, [], ◌∷◌, ◌++◌, Bool, true, false, ◌&&◌, ◌==◌, not, if◌then◌else◌, Option, Some, None, Contains, refl, ◌⊎◌, option_map, filter, IsTrue, All, nat_le}
use Rattle.std.specs.List.{list_any}
use mathlib.Core.Path.{sym, ap, subst, ◌∙◌}
use mathlib.Core.Logic.{inl, inr}
use native.Mathlib.Omega.{arith}
use Rattle.std.proofs.lemmas.List.{append-nil}
use Rattle.std.proofs.lemmas.List.Elements.{All-contains, Contains-append_cases}
use Rattle.std.proofs.lemmas.Bool.{leb-true, and_parts}
use Rattle.std.proofs.lemmas.Bool.Decides.{Decides-eqb}
use Rattle.x12_envelopes.specs.declared.moment.Moment.{Moment}
use Rattle.x12_profile.specs.Interchange.{Bytes}
use Rattle.x12_profile.specs.Profile.{Profile}
use Rattle.x12_profile.specs.Laws.{Laws, IsTa1Refusal}
use Rattle.x12_hub.specs.Hub.{Hub, HubStep, Decision, HubOutcome, Boxed, Refused, decided, decides, waits, taken, collect, item_of, mailbox_of, deposit, deposit_at, deposit_new, deposit_again}
use Rattle.x12_core.specs.Packet.{carried as body_of, Packet, Load, Refusal, Taken}
use Rattle.x12_core.specs.Packet as packet
use Rattle.x12_core.specs.Node.{IsHub, party_of_node, is_hub}
use Rattle.x12_world.specs.Network.{Network, parties_in}
use Rattle.x12_world.specs.World.{World, HubAt}
use Rattle.x12_station.proofs.ListLemmas.{contains_map, contains_filter_map}
use Rattle.x12_numbers.proofs.Shelf.{none_in_nil, contains_cons, contains_head, contains_tail, bytes_eq_tells, if_some_parts, some_inj}
use Rattle.x12_world.proofs.Traces.{Trace, DecidedOk, IsBy, IsCarried, IsWritten, LoadOk, PacketOk, refuses}
use Rattle.x12_world.proofs.StationLemmas.{OnlyTaken}
use Rattle.x12_world.proofs.WorldLemmas.{trace_of, Does, Sound, read, last_in, decisions_in, named_party}
use Rattle.x12_core.specs.Effect.{refusals, items_to}

-- what the induction looks at, of two states of a hub
pub record SameHub (h k : Hub) : Type 0 where
  pub me : k.me ≡ h.me
  pub decisions : k.decisions ≡ h.decisions
  pub icn : k.icn ≡ h.icn

pub waits_same : (h : Hub) (item : ℕ) → SameHub h (waits h item)
waits_same h item = record { me = refl; decisions = refl; icn = refl }

pub taken_same : (h : Hub) (node item : ℕ) → SameHub h (taken h node item)
taken_same h node item = by (list_any (λ c. c.0 == item) (collect h node))
  where
    by : (t : Bool) → SameHub h (if t then record h { waiting = filter (λ i. not (i == item)) h.waiting } else h)
    by true = record { me = refl; decisions = refl; icn = refl }
    by false = record { me = refl; decisions = refl; icn = refl }

-- what was decided stands among the decisions
pub decided_found : (ds : List Decision) (b : Bytes) (o : HubOutcome) → decided ds b ≡ Some o → Contains ds (record { body = b; outcome = o })
decided_found [] b o e = absurd (cc)
decided_found (d ∷ ds) b o e = elim (bytes_eq_tells d.body b) [
  | inl same ↦
      let is : Some d.outcome ≡ Some o = rw (same.0) at e in
      let whole : d ≡ record { body = b; outcome = o } = both d same.1 (some_inj is) in
      subst (λ z. Contains (d ∷ ds) z) whole (contains_head d ds)
  | inr apart ↦ contains_tail (record { body = b; outcome = o }) d ds (decided_found ds b o (rw (apart.0) at e))
]
  where
    both : (d : Decision) → d.body ≡ b → d.outcome ≡ o → d ≡ record { body = b; outcome = o }
    both d eb eo = rw (← eb, ← eo)

-- what waits in a mailbox was decided so
pub item_found : (h : Hub) (node : ℕ) (b : Bytes) (o : HubOutcome) (c : ℕ × Bytes) → item_of h node b o ≡ Some c → (c.1 ≡ b) × (o ≡ Boxed node c.0)
item_found h node b (Boxed to item) c e =
    let ok = if_some_parts ((to == node) && list_any (λ i. i == item) h.waiting) (Some (item, b)) c e in
    let same = some_inj ok.1 in
    let there = and_parts (to == node) (list_any (λ i. i == item) h.waiting) ok.0 in
    (ap (λ z. z.1) (sym same), ap (λ z. Boxed to z.0) same ∙ ap (λ n. Boxed n c.0) ((Decides-eqb to node).0 there.0))
item_found h node b (Refused r) c e = absurd cc

module _ (p : Profile) (laws : Laws p) (net : Network) (plain : All (λ party. IsTrue (p.is_plain party)) (parties_in net)) (w : World) (was : Sound p net w)
    (k : ℕ) (h : Hub) (at : HubAt w k h) where
  abbrev t : Trace
  t = trace_of w

  decisions_is : t.decisions k ≡ h.decisions
  decisions_is = ap (read decisions_in []) at

  last_is : t.last k ≡ h.icn
  last_is = ap (read last_in 0) at

  name_is : t.names k ≡ Some h.me
  name_is = ap (option_map party_of_node) at

  hub_is : t.hub k ≡ true
  hub_is = ap is_hub at

  plain_me : IsTrue (p.is_plain h.me)
  plain_me = All-contains (λ party. IsTrue (p.is_plain party)) (parties_in net) h.me plain (named_party p net w was k h.me name_is)

  in_decisions : (d : Decision) → Contains h.decisions d → Contains (t.decisions k) d
  in_decisions d c = rw decisions_is c

  -- a step that decides nothing
  pub quiet : (g : Hub) → SameHub h g → (sends : List Packet) → ((q : Packet) (b : Bytes) (i : ℕ) → Contains sends q → body_of q.load ≡ Some b → IsBy p t i b → IsWritten t b) → ((q : Packet) → Contains sends q → PacketOk p t q)
      → Does p t k (IsHub h) (IsHub g) sends
  quiet g same sends known ok = record {
    new = None;
    decision = None;
    fresh = None;
    party = same.me;
    kind = tt;
    items = refl;
    last = rw same.icn (omega arith);
    group = omega arith;
    decisions = same.decisions ∙ sym (append-nil h.decisions);
    at_hub = λ z. refl;
    one = inl refl;
    news = record { item = tt; made = tt; written = tt; reason = λ f e. absurd cc; sends = λ q b i c e by. inl (known q b i c e by); packet_ok = ok };
  }

  -- a step that sends nothing and decides nothing
  pub still : (g : Hub) → SameHub h g → Does p t k (IsHub h) (IsHub g) []
  still g same = quiet g same [] (λ q b i c e by. none_in_nil q c) (λ q c. none_in_nil q c)

  -- the mailbox of a node, as it is sent
  pub collect_does : (node : ℕ) → Does p t k (IsHub h) (IsHub h) (items_to p k node (collect h node))
  collect_does node = quiet h (record { me = refl; decisions = refl; icn = refl }) (items_to p k node (collect h node)) (λ q b i c e by. known q b i c e by) (λ q c. is_ok q c)
    where
      boxed : (q : Packet) → Contains (items_to p k node (collect h node)) q → (c : ℕ × Bytes) × Contains (t.decisions k) (record { body = c.1; outcome = Boxed node c.0 }) × (q ≡ record { from = k; to = node; load = packet.Item c.0 c.1 })
      boxed q c =
          let from = contains_map (λ (z : ℕ × Bytes). record { from = k; to = node; load = packet.Item z.0 z.1 }) (collect h node) q c in
          let d = contains_filter_map (λ d. item_of h node d.body d.outcome) h.decisions from.0 from.1 in
          let is = item_found h node d.0.body d.0.outcome from.0 d.2 in
          (from.0, in_decisions _ (subst (λ z. Contains h.decisions z) (whole d.0 from.0 is.0 is.1) d.1), sym from.2)
        where
          whole : (d : Decision) (c : ℕ × Bytes) → c.1 ≡ d.body → d.outcome ≡ Boxed node c.0 → d ≡ record { body = c.1; outcome = Boxed node c.0 }
          whole d c eb eo = rw (eb, ← eo)

      is_ok : (q : Packet) → Contains (items_to p k node (collect h node)) q → PacketOk p t q
      is_ok q c = let is = boxed q c in subst (PacketOk p t) (sym is.2) is.1

      known : (q : Packet) (b : Bytes) (i : ℕ) → Contains (items_to p k node (collect h node)) q → body_of q.load ≡ Some b → IsBy p t i b → IsWritten t b
      known q b i c e by =
          let is = boxed q c in
          let holds : Some (is.0.1) ≡ Some b = ap (λ z. body_of z.load) (sym is.2) ∙ e in
          let same = some_inj holds in
          inl (subst (IsCarried t) same ((was.holds.decision k (record { body = is.0.1; outcome = Boxed node is.0.0 }) is.1).carried i (rw same by)))

  -- what is decided, and what goes out before a refusal of it
  module _ (m : Moment) (b : Bytes) (first : List Packet) (only : OnlyTaken first) (to : Option ℕ) (ok : DecidedOk p t k b) (header : IsTrue (p.has_header b)) where
    abbrev DoesStep : HubStep → Type 0
    DoesStep step = Does p t k (IsHub h) (IsHub step.hub) (first ++ refusals k to step.outcome)

    boxed_sends : (to' : Option ℕ) (node item : ℕ) → refusals k to' (Boxed node item) ≡ []
    boxed_sends None node item = refl
    boxed_sends (Some n) node item = refl

    refusal_load : (to' : Option ℕ) (r : Bytes) (q : Packet) → Contains (refusals k to' (Refused r)) q → (n : ℕ) × (q ≡ record { from = k; to = n; load = Refusal r })
    refusal_load None r q c = none_in_nil q c
    refusal_load (Some n) r q c = elim (contains_cons q (record { from = k; to = n; load = Refusal r }) [] c) [ inl e ↦ (n, sym e) | inr past ↦ none_in_nil q past ]

    -- what goes out tells that an item came, or is the refusal
    sent : (r : Bytes) (q : Packet) → Contains (first ++ refusals k to (Refused r)) q → ((n : ℕ) × (q.load ≡ Taken n)) ⊎ ((n : ℕ) × (q ≡ record { from = k; to = n; load = Refusal r }))
    sent r q c = elim (Contains-append_cases first (refusals k to (Refused r)) q c) [ inl a ↦ inl (only.each q a) | inr d ↦ inr (refusal_load to r q d) ]

    sent_ok : (r : Bytes) → IsBy p t k r → (q : Packet) → Contains (first ++ refusals k to (Refused r)) q → PacketOk p t q
    sent_ok r by q c = elim (sent r q c) [
      | inl a ↦ subst (LoadOk p t q.from q.to) (sym a.1) tt
      | inr d ↦ subst (PacketOk p t) (sym d.1) (by, hub_is)
    ]

    sent_body : (r : Bytes) (q : Packet) (c : Bytes) → Contains (first ++ refusals k to (Refused r)) q → body_of q.load ≡ Some c → r ≡ c
    sent_body r q c has e = elim (sent r q has) [
      | inl a ↦ let no : body_of (Taken a.0) ≡ Some c = rw a.1 at e in absurd cc
      | inr d ↦ let is : Some r ≡ Some c = ap (λ z. body_of z.load) (sym d.1) ∙ e in some_inj is
    ]

    first_ok : (q : Packet) → Contains (first ++ []) q → PacketOk p t q
    first_ok q c = let a = only.each q (rw (append-nil first) at c) in subst (LoadOk p t q.from q.to) (sym a.1) tt

    first_body : {A : Type 0} (q : Packet) (c : Bytes) → Contains (first ++ []) q → body_of q.load ≡ Some c → A
    first_body q c has e = let a = only.each q (rw (append-nil first) at has) in let no : body_of (Taken a.0) ≡ Some c = rw a.1 at e in absurd cc

    -- the first decision on these bytes: into a mailbox
    box_does : decided h.decisions b ≡ None → (node item : ℕ) → DoesStep (record { hub = waits (decides h b (Boxed node item)) item; outcome = Boxed node item })
    box_does new node item =
        let same = waits_same (decides h b (Boxed node item)) item in
        rw (boxed_sends to node item) (record {
          new = None;
          decision = Some (record { body = b; outcome = Boxed node item });
          fresh = None;
          party = same.me;
          kind = tt;
          items = refl;
          last = rw same.icn (omega arith);
          group = omega arith;
          decisions = same.decisions;
          at_hub = λ z. absurd cc;
          one = inl refl;
          news = record { item = tt; made = (rw decisions_is new, ok, tt); written = tt; reason = λ f e. absurd cc; sends = λ q c i has e by. first_body q c has e; packet_ok = first_ok };
        })

    -- or a refusal
    refuse_does : decided h.decisions b ≡ None → h.icn + 1 ≤ MAX_CONTROL_NUMBER
        → DoesStep (record { hub = record (decides h b (Refused (p.refusal 9 h.me m (h.icn + 1) b))) { icn = h.icn + 1 }; outcome = Refused (p.refusal 9 h.me m (h.icn + 1) b) })
    refuse_does new low =
        let r : Bytes = p.refusal 9 h.me m (h.icn + 1) b in
        let refusal : IsTa1Refusal p h.me b r = record { note = 9; known = inl refl; at = m; icn = h.icn + 1; header = header; plain = plain_me; taken = omega arith; within = low; bytes = refl } in
        let number = laws.refusal.number h.me b r refusal in
        let last = last_is in
        let by : IsBy p t k r = name_is ∙ ap Some (sym (laws.refusal.from h.me b r refusal)) in
        record {
          new = None;
          decision = Some (record { body = b; outcome = Refused r });
          fresh = Some r;
          party = refl;
          kind = tt;
          items = refl;
          last = omega arith;
          group = omega arith;
          decisions = refl;
          at_hub = λ z. absurd cc;
          one = inl refl;
          news = record {
            item = tt;
            made = (rw decisions_is new, ok, (refl, record { me = h.me; at = name_is; refusal = refusal }));
            written = (by, omega arith, omega arith);
            reason = λ f e. let same : r ≡ f = cc in refuses b (ap (λ z. Some (record { body = b; outcome = Refused z })) same);
            sends = λ q c i has e z. inr (ap Some (sent_body r q c has e));
            packet_ok = sent_ok r by;
          };
        }

    -- a decision that stands
    again_does : (o : HubOutcome) → decided h.decisions b ≡ Some o → DoesStep (deposit_again h o)
    again_does (Boxed node item) is = rw (boxed_sends to node item) (quiet (waits h item) (waits_same h item) (first ++ []) (λ q c i has e by. first_body q c has e) first_ok)
    again_does (Refused r) is =
        let d = in_decisions (record { body = b; outcome = Refused r }) (decided_found h.decisions b (Refused r) is) in
        let known = was.holds.refusal k b r d in
        let by : IsBy p t k r = known.at ∙ ap Some (sym (laws.refusal.from known.me b r known.refusal)) in
        quiet h (record { me = refl; decisions = refl; icn = refl }) (first ++ refusals k to (Refused r)) (λ q c i has e z. subst (IsWritten t) (sent_body r q c has e) (inr (k, b, d))) (sent_ok r by)

    new_does : decided h.decisions b ≡ None → (node : Option ℕ) (step : HubStep) → deposit_new p h m b node ≡ Some step → DoesStep step
    new_does new (Some node) step e = subst DoesStep (some_inj e) (box_does new node (h.item + 1))
    new_does new None step e =
        let r : Bytes = p.refusal 9 h.me m (h.icn + 1) b in
        let parts = if_some_parts (nat_le (h.icn + 1) MAX_CONTROL_NUMBER) (Some (record { hub = record (decides h b (Refused r)) { icn = h.icn + 1 }; outcome = Refused r })) step e in
        subst DoesStep (some_inj parts.1) (refuse_does new (leb-true (h.icn + 1) MAX_CONTROL_NUMBER parts.0))

    at_does : (found : Option HubOutcome) → decided h.decisions b ≡ found → (step : HubStep) → deposit_at p h m b found ≡ Some step → DoesStep step
    at_does (Some o) is step e = subst DoesStep (some_inj e) (again_does o is)
    at_does None is step e =
        let parts = if_some_parts (nat_le (h.item + 1) MAX_CONTROL_NUMBER) (deposit_new p h m b (mailbox_of h.directory (p.receiver b))) step e in
        new_does is (mailbox_of h.directory (p.receiver b)) step parts.1

  -- a deposit, or an item of the other hub
  pub deposit_does : (m : Moment) (b : Bytes) (first : List Packet) → OnlyTaken first → (to : Option ℕ) → DecidedOk p t k b
      → (step : HubStep) → deposit p h m b ≡ Some step → Does p t k (IsHub h) (IsHub step.hub) (first ++ refusals k to step.outcome)
  deposit_does m b first only to ok step e =
      let parts = if_some_parts (p.has_header b) (deposit_at p h m b (decided h.decisions b)) step e in
      at_does m b first only to ok parts.0 (decided h.decisions b) refl step parts.1
