-- The nodes agree with the exchange whose standings hold of the trace, and so does every run.
use Rattle.std.specs.Prelude.{◌≡◌, ◌≢◌, ◌⊎◌, ◌↔◌, ℕ, List, [], ◌∷◌, true, false, if◌then◌else◌, Option, Some, None, Contains, refl, filter}
use mathlib.Core.Path.{sym, ap, subst, ◌∙◌}
use mathlib.Core.Logic.{inl, inr}
use Rattle.std.proofs.lemmas.List.Elements.{filter_passes, All-contains}
use Rattle.x12_envelopes.specs.declared.party.Party.{Party}
use Rattle.x12_profile.specs.declared.edition.Edition.TheVariants.{First}
use Rattle.x12_judge.specs.declared.verdict.SetResult.TheVariants as result
use Rattle.x12_judge.specs.Set.{takes}
use Rattle.x12_profile.specs.Interchange.{Bytes, PlacedTransactionSet, PlacedEvidence}
use Rattle.x12_profile.specs.Profile.{Profile}
use Rattle.x12_profile.specs.Laws.{Laws}
use Rattle.x12_station.specs.History.{posting_of, Item, Submitted, Came, KeptArrival, Posting, filed, HasCame, arrivals, first_told, told_in, fate_in, posted_by, postings, posted_under, key_of}
use Rattle.x12_station.specs.Station.{Station}
use Rattle.x12_hub.specs.Hub.{Refused}
use Rattle.x12_core.specs.Node.{Node, IsHub, IsStation, is_hub, party_of_node}
use Rattle.x12_world.specs.Network.{Network, IsNetwork}
use Rattle.x12_world.specs.Nodes.{node_at}
use Rattle.x12_world.proofs.NodesLemmas.{option_mapped}
use Rattle.x12_world.proofs.RoutedLemmas.{refused_at_one, refused_once}
use Rattle.x12_world.specs.World.{World, Event, StationAt}
use Rattle.x12_world.specs.Held.{IsKept}
use Rattle.x12_world.specs.Traffic.{IsNode, HasSubmitted}
use Rattle.x12_world.specs.Exchange.{ExchangeVerdict, ByReceiver, ByHub, result_of, Standing, Unknown, Waiting, Judged, Learnt, Exchange, fate_of, is_posted, IsStationName, Refines, Follows, IsStepOrNone, empty_exchange}
use Rattle.x12_station.proofs.ListLemmas.{contains_map, contains_filter, contains_flat_map}
use Rattle.x12_numbers.proofs.Shelf.{none_in_nil, some_inj}
use Rattle.x12_profile.proofs.PartyLemmas.{party_tells}
use Rattle.x12_station.proofs.HistoryLemmas.{submitted_in, in_arrivals, came_in_arrivals, told_final_by, filed_found, posted_from}
use Rattle.x12_world.proofs.Traces.{Trace, IsBy, IsRefusedWith, newest, Origin, submitted, replied, noted, refused, Grows, CameOk, ReplyOk}
use Rattle.x12_world.proofs.WorldLemmas.{trace_of, Sound}
use Rattle.x12_world.proofs.LearntLemmas.{by_verdict, name_at, items_at, decisions_at, hub_of, no_hub_item}
use Rattle.x12_world.proofs.HeadlineLemmas.{kept_tells, refused_tells, refused_nowhere, posts_nothing, posts_accepted, kept_settles}
use Rattle.x12_world.proofs.TrafficLemmas.{source, sent_item, reply_inj}
use Rattle.x12_world.proofs.OutsiderLemmas.{empty_if}
use Rattle.x12_world.proofs.StandingLemmas.{IsExchanged, IsAcked, IsHandledBy, StandsAs, Stands}
use Rattle.x12_world.proofs.MoveLemmas.{next}
use Rattle.x12_world.proofs.RunLemmas.{new_sound, no_item, happens_onward, happens_grows}
use Rattle.x12_world.specs.Run.{run, happens, new_world}
use Rattle.x12_acks.specs.Evidence.{FinalFate, accepted, rejected, fate_of_result}
use Rattle.x12_acks.specs.Evidence as final
use Rattle.x12_outbound.specs.Fate.{ended}
use Rattle.x12_outbound.specs.declared.fate.Fate.TheVariants.{Pending, Accepted, Noted, Rejected}
use Rattle.x12_outbound.specs.declared.fate.Fate.{Fate}

module _ (p : Profile) (laws : Laws p) (net : Network) (w : World) (was : Sound p net w) (e : Exchange) (stands : Stands p (trace_of w) e) where
  abbrev t : Trace
  t = trace_of w

  exchanged_of : (x : Bytes) (st : Standing) → st ≢ Unknown → StandsAs p t x st → IsExchanged p t x
  exchanged_of x Unknown n h = absurd (n refl)
  exchanged_of x Waiting n h = h.0
  exchanged_of x (Judged v) n h = h.0
  exchanged_of x (Learnt v) n h = h.0

  -- a node with items is a station, and a named one that is no hub
  has_items : (i : ℕ) (c : Item) → Contains (t.items i) c → (n : Option Node) → node_at w.nodes i ≡ n → (s : Station) × StationAt w i s
  has_items i c h None at = none_in_nil c (rw at at h)
  has_items i c h (Some (IsHub k)) at = none_in_nil c (rw at at h)
  has_items i c h (Some (IsStation s)) at = (s, at)

  station_named : (j : ℕ) (party : Party) → t.names j ≡ Some party → t.hub j ≡ false → IsStationName w party
  station_named j party name no_hub = by from.0 from.1 from.2
    where
      from : (n : Node) × (node_at w.nodes j ≡ Some n) × (party_of_node n ≡ party)
      from = option_mapped party_of_node (node_at w.nodes j) party name

      by : (n : Node) → node_at w.nodes j ≡ Some n → party_of_node n ≡ party → IsStationName w party
      by (IsHub h) at is = let no : true ≡ false = sym (ap is_hub at) ∙ no_hub in absurd cc
      by (IsStation s) at is = (j, s, at, is)

  named_station : (j : ℕ) (s : Station) → StationAt w j s → (party : Party) → s.me ≡ party → (i : ℕ) × (t.names i ≡ Some party) × (t.hub i ≡ false)
  named_station j s at party is = (j, name_at p laws net w was j s at ∙ ap Some is, ap is_hub at)

  not_unknown : (x : Bytes) → IsExchanged p t x → e x ≢ Unknown
  not_unknown x ex u = (subst (StandsAs p t x) u (stands x)) ex

  known : (x : Bytes) → (e x ≢ Unknown) ↔ (((s : Station) × HasSubmitted w s x) × IsStationName w (p.receiver x))
  known x = (there, λ h. let to = named_station h.1.0 h.1.1 h.1.2 (p.receiver x) h.1.3 in not_unknown x (h.0.1.0, sent_item p laws net w was h.0.0 x h.0.1, to.0, to.1, to.2))
    where
      there : e x ≢ Unknown → ((s : Station) × HasSubmitted w s x) × IsStationName w (p.receiver x)
      there n =
          let ex = exchanged_of x (e x) n (stands x) in
          let s = has_items ex.0 (Submitted x) ex.1 (node_at w.nodes ex.0) refl in
          ((s.0, (ex.0, s.1, submitted_in s.0.items x (rw (items_at p laws net w was ex.0 s.0 s.1) at ex.1))), station_named ex.2 (p.receiver x) ex.3 ex.4)

  module _ (s : Station) (x : Bytes) (h : HasSubmitted w s x) (ex : IsExchanged p t x) where
    to : IsNode w (p.receiver x)
    to = (ex.2, ex.3)

    -- what was told came in the acknowledgment
    told_by_ack : (v : ExchangeVerdict) (r : Bytes) → IsAcked p t x v r → (ev : PlacedEvidence) → Contains (told_in p s.me s.hubs s.items x) ev → Contains (arrivals s.items) r × (ev.fate ≡ fate_of_result (result_of v ev.place))
    told_by_ack v r acked ev told = by (source p laws net w was s x h to ev told) acked
      where
        by : (q : Bytes) × Contains (arrivals s.items) q × Contains (p.evidence newest s.hubs q x) ev × (HasCame (t.items to.0) x (Some q) ⊎ ((k : ℕ) × IsRefusedWith t k x q)) → IsAcked p t x v r → Contains (arrivals s.items) r × (ev.fate ≡ fate_of_result (result_of v ev.place))
        by (q, came, tells, inl kept) (inl a) =
            let node = was.holds.names_apart to.0 a.0 (p.receiver x) to.1 a.1 in
            let q_is : q ≡ r = reply_inj p laws net w was x q r (sym (was.holds.filed_first a.0 x (Some q) (subst (λ j. HasCame (t.items j) x (Some q)) node kept)) ∙ was.holds.filed_first a.0 x (Some r) a.2) in
            let ks = kept_tells p laws net w was h.0 s h.1 x h.2 q to.0 kept to.1 in
            let ve = by_verdict ks.0 (p.sets x) ev (rw (ks.1 s.hubs) at tells) in
            let value : ev.fate ≡ fate_of_result (p.result x q ev.place) = ve.0 ∙ ap fate_of_result (ap ks.0 (sym ve.3) ∙ sym (ks.2 ve.1 ve.2) ∙ ap (p.result x q) ve.3) in
            (subst (Contains (arrivals s.items)) q_is came, value ∙ ap (λ z. fate_of_result (p.result x z ev.place)) q_is ∙ ap (λ z. fate_of_result (result_of z ev.place)) (sym a.3))
        by (q, came, tells, inl kept) (inr a) = refused_nowhere p laws net w was h.0 s h.1 x h.2 a.0 r a.1 to.0 (Some q) kept
        by (q, came, tells, inr d) (inl a) = refused_nowhere p laws net w was h.0 s h.1 x h.2 d.0 q d.1 a.0 (Some r) a.2
        by (q, came, tells, inr d) (inr a) =
            let item = sent_item p laws net w was s x h in
            let one = refused_at_one p t was.holds x h.0 (was.holds.sent h.0 x item).by (no_hub_item p laws net w was h.0 (Submitted x) item) d.0 q d.1 a.0 r a.1 in
            let q_is : q ≡ r = refused_once p t was.holds x a.0 q r (subst (λ z. IsRefusedWith t z x q) one d.1) a.1 in
            let ve = by_verdict (λ k. result.Rejected) (p.sets x) ev (rw (refused_tells p laws net w was h.0 s h.1 x h.2 d.0 q d.1) at tells) in
            (subst (Contains (arrivals s.items)) q_is came, ve.0 ∙ ap (λ z. fate_of_result (result_of z ev.place)) (sym a.2))

    no_ack_no_evidence : ((v : ExchangeVerdict) (r : Bytes) → ¬ (IsAcked p t x v r)) → told_in p s.me s.hubs s.items x ≡ []
    no_ack_no_evidence none = empty_if (told_in p s.me s.hubs s.items x) (λ ev told. by (source p laws net w was s x h to ev told))
      where
        by : {ev : PlacedEvidence} → (q : Bytes) × Contains (arrivals s.items) q × Contains (p.evidence newest s.hubs q x) ev × (HasCame (t.items to.0) x (Some q) ⊎ ((k : ℕ) × IsRefusedWith t k x q)) → ⊥
        by (q, came, tells, inl kept) = none (ByReceiver (p.result x q)) q (inl (to.0, to.1, kept, refl))
        by (q, came, tells, inr d) = none ByHub q (inr (d.0, d.1, refl))

    -- an acknowledgment that didn't come told nothing
    unhandled_no_evidence : (v : ExchangeVerdict) (r : Bytes) → IsAcked p t x v r → ¬ (IsHandledBy p t x r) → told_in p s.me s.hubs s.items x ≡ []
    unhandled_no_evidence v r acked not_here = empty_if (told_in p s.me s.hubs s.items x) (λ ev told.
        let came = in_arrivals s.items r (told_by_ack v r acked ev told).0 in
        not_here (h.0, came.0, sent_item p laws net w was s x h, rw (items_at p laws net w was h.0 s h.1) came.1))

    kept_of : (v : ExchangeVerdict) (r : Bytes) → IsAcked p t x v r → IsKept p w x r
    kept_of v r (inl a) =
        let b = has_items a.0 (Came a.2.0 x (Some r)) a.2.1 (node_at w.nodes a.0) refl in
        let me : Some b.0.me ≡ Some (p.receiver x) = sym (name_at p laws net w was a.0 b.0 b.1) ∙ a.1 in
        inl (a.0, b.0, b.1, some_inj me, rw (items_at p laws net w was a.0 b.0 b.1) at a.2)
    kept_of v r (inr a) =
        let k = hub_of p laws net w was a.0 (record { body = x; outcome = Refused r }) a.1 in
        inr (a.0, k.0, k.1, rw (decisions_at p laws net w was a.0 k.0 k.1) at a.1)

    handled_fate : (v : ExchangeVerdict) (r : Bytes) → IsAcked p t x v r → IsHandledBy p t x r → (ts : PlacedTransactionSet) → Contains (p.sets x) ts → fate_in p s.me s.hubs s.items x ts.place ≡ ended (fate_of_result (result_of v ts.place))
    handled_fate v r acked handled ts has = by (fate_in p s.me s.hubs s.items x ts.place) refl
      where
        here : handled.0 ≡ h.0
        here = was.holds.names_apart handled.0 h.0 (p.sender x) (was.holds.sent handled.0 x handled.2).by (was.holds.sent h.0 x (sent_item p laws net w was s x h)).by

        came : Contains (arrivals s.items) r
        came = came_in_arrivals s.items r handled.1 (subst (λ l. HasCame l r handled.1) (items_at p laws net w was h.0 s h.1) (subst (λ i. HasCame (t.items i) r handled.1) here handled.3))

        told_so : (f : FinalFate) → fate_in p s.me s.hubs s.items x ts.place ≡ ended f → ended f ≡ ended (fate_of_result (result_of v ts.place))
        told_so f is =
            let ev = told_final_by ts.place (told_in p s.me s.hubs s.items x) f is in
            ap ended (sym ev.3 ∙ (told_by_ack v r acked ev.0 ev.1).1 ∙ ap (λ k. fate_of_result (result_of v k)) ev.2)

        by : (f : Fate) → fate_in p s.me s.hubs s.items x ts.place ≡ f → f ≡ ended (fate_of_result (result_of v ts.place))
        by Pending is = absurd (kept_settles p laws net w was h.0 s h.1 x ts h.2 has r (kept_of v r acked) came is)
        by Accepted is = told_so accepted is
        by Noted is = told_so final.noted is
        by Rejected is = told_so rejected is

    fate_as : (ts : PlacedTransactionSet) → Contains (p.sets x) ts → (st : Standing) → StandsAs p t x st → fate_in p s.me s.hubs s.items x ts.place ≡ fate_of st ts.place
    fate_as ts has Unknown st = absurd (st ex)
    fate_as ts has Waiting st = ap (first_told ts.place) (no_ack_no_evidence st.1)
    fate_as ts has (Judged v) st = ap (first_told ts.place) (unhandled_no_evidence v st.1 st.2 st.3)
    fate_as ts has (Learnt v) st = handled_fate v st.1 st.2 st.3 ts has

    -- where no reply is kept, nothing is posted
    unacked_posts : (ts : PlacedTransactionSet) → (j : ℕ) → t.names j ≡ Some (p.receiver x) → ((v : ExchangeVerdict) (r : Bytes) → ¬ (IsAcked p t x v r)) → posted_under p (key_of p x ts.place) (t.items j) ≡ []
    unacked_posts ts j name none = was.holds.posted j (key_of p x ts.place) ∙ by (filed p (t.items j) (p.sender x) (p.number x)) refl
      where
        by : (f : Option KeptArrival) → filed p (t.items j) (p.sender x) (p.number x) ≡ f → posted_from p (key_of p x ts.place) f ≡ []
        by None is = refl
        by (Some f) is = reply f.reply refl
          where
            found : HasCame (t.items j) f.body f.reply × (p.sender f.body ≡ p.sender x) × (p.number f.body ≡ p.number x)
            found = filed_found p (t.items j) (p.sender x) (p.number x) f is

            ok : IsBy p t h.0 x
            ok = (was.holds.sent h.0 x (sent_item p laws net w was s x h)).by

            by_f : IsBy p t h.0 f.body
            by_f = ok ∙ ap Some (sym found.1)

            body : f.body ≡ x
            body = was.holds.unique h.0 f.body x (inl ((was.holds.came j f.body f.reply found.0).carried h.0 by_f)) (inl (was.holds.sent h.0 x (sent_item p laws net w was s x h)).carried) by_f ok found.2

            reply : (o : Option Bytes) → f.reply ≡ o → posted_from p (key_of p x ts.place) (Some f) ≡ []
            reply None is_none = ap (λ z. posted_under p (key_of p x ts.place) (Came First f.body z ∷ [])) is_none
            reply (Some r) is_some = absurd (none (ByReceiver (p.result x r)) r (inl (j, name, subst (λ z. HasCame (t.items j) z (Some r)) body (subst (λ z. HasCame (t.items j) f.body z) is_some found.0), refl)))

    acked_posts : (ts : PlacedTransactionSet) → Contains (p.sets x) ts → (j : ℕ) → t.names j ≡ Some (p.receiver x) → (v : ExchangeVerdict) (r : Bytes) → IsAcked p t x v r → posted_under p (key_of p x ts.place) (t.items j) ≡ (if takes (result_of v ts.place) then ts.bytes ∷ [] else [])
    acked_posts ts has j name v r (inl a) =
        let node = was.holds.names_apart a.0 j (p.receiver x) a.1 name in
        posts_accepted p laws net w was h.0 s h.1 x ts h.2 has r j (subst (λ z. HasCame (t.items z) x (Some r)) node a.2) (takes (result_of v ts.place)) (ap (λ z. takes (result_of z ts.place)) (sym a.3))
    acked_posts ts has j name v r (inr a) = posts_nothing p laws net w was h.0 s h.1 x ts h.2 has a.0 r a.1 j ∙ ap (λ z. if takes (result_of z ts.place) then ts.bytes ∷ [] else []) (sym a.2)

    posted_as : (ts : PlacedTransactionSet) → Contains (p.sets x) ts → (j : ℕ) → t.names j ≡ Some (p.receiver x) → (st : Standing) → StandsAs p t x st → posted_under p (key_of p x ts.place) (t.items j) ≡ (if is_posted st ts.place then ts.bytes ∷ [] else [])
    posted_as ts has j name Unknown st = absurd (st ex)
    posted_as ts has j name Waiting st = unacked_posts ts j name st.1
    posted_as ts has j name (Judged v) st = acked_posts ts has j name v st.1 st.2
    posted_as ts has j name (Learnt v) st = acked_posts ts has j name v st.1 st.2

  -- what a station posts under a node's name is a set that this node submitted to it
  posted_was_sent : (j : ℕ) (a : Station) (q : Posting) → StationAt w j a → Contains (postings p a.items) q → IsStationName w q.key.sender
      → (x : Bytes) × (ts : PlacedTransactionSet) × (e x ≢ Unknown) × (p.receiver x ≡ a.me) × Contains (p.sets x) ts × (q ≡ posting_of p x ts)
  posted_was_sent j a q at posted from = by from_item.0 from_item.1 from_item.2
    where
      Found : Type 0
      Found = (x : Bytes) × (ts : PlacedTransactionSet) × (e x ≢ Unknown) × (p.receiver x ≡ a.me) × Contains (p.sets x) ts × (q ≡ posting_of p x ts)

      from_item : (c : Item) × Contains a.items c × Contains (posted_by p c) q
      from_item = contains_flat_map (posted_by p) a.items q posted

      by : (c : Item) → Contains a.items c → Contains (posted_by p c) q → (x : Bytes) × (ts : PlacedTransactionSet) × (e x ≢ Unknown) × (p.receiver x ≡ a.me) × Contains (p.sets x) ts × (q ≡ posting_of p x ts)
      by (Submitted x) came in_it = none_in_nil q in_it
      by (Came ed b None) came in_it = none_in_nil q in_it
      by (Came ed b (Some r)) came in_it = origin_of (was.holds.origin from.0 b (inl (ok.carried from.0 is_by)) is_by)
        where
          set_of : (u : PlacedTransactionSet) × Contains (filter (λ u. takes (p.result b r u.place)) (p.sets b)) u × (posting_of p b u ≡ q)
          set_of = contains_map (posting_of p b) (filter (λ u. takes (p.result b r u.place)) (p.sets b)) q in_it

          accepted : takes (p.result b r set_of.0.place) ≡ true
          accepted = All-contains (λ (u : PlacedTransactionSet). takes (p.result b r u.place) ≡ true) (filter (λ u. takes (p.result b r u.place)) (p.sets b)) set_of.0 (filter_passes (λ u. takes (p.result b r u.place)) (p.sets b)) set_of.1

          here : HasCame (t.items j) b (Some r)
          here = (ed, rw (items_at p laws net w was j a at) came)

          ok : CameOk p t j b
          ok = was.holds.came j b (Some r) here

          kept : ReplyOk p t j b r
          kept = was.holds.reply j b r here

          me : kept.me ≡ a.me
          me = some_inj (sym kept.at ∙ name_at p laws net w was j a at)

          sender : q.key.sender ≡ p.sender b
          sender = ap (λ z. z.key.sender) (sym set_of.2)

          is_by : IsBy p t from.0 b
          is_by = name_at p laws net w was from.0 from.1 from.2 ∙ ap Some (from.3 ∙ sender)

          clash : {A : Type 0} → takes (p.result b r set_of.0.place) ≡ false → A
          clash no_way = let both : true ≡ false = sym accepted ∙ no_way in absurd cc

          no_group : {A : Type 0} → p.groups b ≡ [] → A
          no_group none = clash (laws.reply.accepts_no_group kept.me kept.agreements b r kept.reply none set_of.0.place)

          sent_here : Contains (t.items from.0) (Submitted b) → Found
          sent_here sent = elim (party_tells (p.receiver b) a.me) [
            | inl own ↦
                let name = named_station j a at (p.receiver b) (sym own.1) in
                (b, set_of.0, not_unknown b (from.0, sent, name.0, name.1, name.2), own.1, contains_filter (λ u. takes (p.result b r u.place)) (p.sets b) set_of.0 set_of.1, sym set_of.2)
            | inr other ↦ clash (laws.reply.accepts_no_other kept.me kept.agreements b r kept.reply (λ same. other.1 (same ∙ me)) set_of.0.place)
          ]

          origin_of : Origin p t from.0 b → Found
          origin_of (submitted h) = sent_here h
          origin_of (replied y h) = let y_ok = was.holds.reply from.0 y b h in no_group (laws.reply.no_groups y_ok.me y_ok.agreements y b y_ok.reply)
          origin_of (noted y m n h) = no_group (laws.refusal.no_groups m y b h)
          origin_of (refused y h) = let y_ok = was.holds.refusal from.0 y b h in no_group (laws.refusal.no_groups y_ok.me y b y_ok.refusal)

  pub refines : Refines p w e
  refines = record {
    interchanges = known;
    fates = λ s x ts h n has. fate_as s x h (exchanged_of x (e x) n (stands x)) ts has (e x) (stands x);
    posted = λ j a x ts at n me has.
        let ex = exchanged_of x (e x) n (stands x) in
        let s = has_items ex.0 (Submitted x) ex.1 (node_at w.nodes ex.0) refl in
        let h : HasSubmitted w s.0 x = (ex.0, s.1, submitted_in s.0.items x (rw (items_at p laws net w was ex.0 s.0 s.1) at ex.1)) in
        subst (λ l. posted_under p (key_of p x ts.place) l ≡ (if is_posted (e x) ts.place then ts.bytes ∷ [] else [])) (items_at p laws net w was j a at)
        (posted_as s.0 x h ex ts has j (name_at p laws net w was j a at ∙ ap Some me) (e x) (stands x));
    no_other = posted_was_sent;
  }

module _ (p : Profile) (laws : Laws p) (net : Network) (is : IsNetwork p net) where
  -- one event is one step of the exchange, or none
  pub one_step : (ev : Event) (w : World) → Sound p net w → (e : Exchange) → Stands p (trace_of w) e → (f : Exchange) × Stands p (trace_of (happens p w ev)) f × IsStepOrNone p e f
  one_step ev w was e stands = by (happens_grows p laws net is.plain w was ev)
    where
      onward : Sound p net (happens p w ev)
      onward = (happens_onward p laws net is.plain w was ev).0

      by : (happens p w ev ≡ w) ⊎ Grows p (trace_of w) (trace_of (happens p w ev)) → (f : Exchange) × Stands p (trace_of (happens p w ev)) f × IsStepOrNone p e f
      by (inl same) = (e, subst (λ z. Stands p (trace_of z) e) (sym same) stands, inl (λ x. refl))
      by (inr g) = next p laws (trace_of w) (trace_of (happens p w ev)) g was.holds onward.holds e stands (λ i c h. no_hub_item p laws net w was i c h)

  pub follows : (events : List Event) (w : World) → Sound p net w → (e : Exchange) → Stands p (trace_of w) e → Follows p w e events
  follows [] w was e stands = refines p laws net w was e stands
  follows (ev ∷ evs) w was e stands =
      let step = one_step ev w was e stands in
      (refines p laws net w was e stands, step.0, step.2, follows evs (happens p w ev) (happens_onward p laws net is.plain w was ev).0 step.0 step.1)

  -- the exchange at the end of a run
  pub stands_after : (events : List Event) (w : World) → Sound p net w → (e : Exchange) → Stands p (trace_of w) e → (f : Exchange) × Stands p (trace_of (run p events w)) f
  stands_after [] w was e stands = (e, stands)
  stands_after (ev ∷ evs) w was e stands =
      let step = one_step ev w was e stands in
      stands_after evs (happens p w ev) (happens_onward p laws net is.plain w was ev).0 step.0 step.1

  pub new_stands : Stands p (trace_of (new_world net)) empty_exchange
  new_stands x ex = no_item p net is ex.0 (Submitted x) ex.1

  pub every_run_follows : (events : List Event) → Follows p (new_world net) empty_exchange events
  every_run_follows events = follows events (new_world net) (new_sound p net is) empty_exchange new_stands
