-- From what every world keeps to the headline.
use Rattle.std.specs.Prelude.{◌≡◌, ◌≢◌, ℕ, List, [], ◌∷◌, ◌++◌, Bool, true, false, if◌then◌else◌, Option, Some, None, Contains, refl, map, filter, flat_map, cond}
use Rattle.std.proofs.lemmas.List.Elements.{Contains-append_left}
use mathlib.Core.Path.{sym, ap, subst, ◌∙◌}
use mathlib.Core.Logic.{inl, inr}
use Rattle.std.proofs.lemmas.List.{append-nil}
use Rattle.x12_envelopes.specs.declared.party.Party.{Party}
use Rattle.x12_profile.specs.declared.edition.Edition.{Edition}
use Rattle.x12_profile.specs.declared.edition.Edition.TheVariants.{First}
use Rattle.x12_judge.specs.declared.verdict.SetResult.{SetResult}
use Rattle.x12_judge.specs.declared.verdict.SetResult.TheVariants as result
use Rattle.x12_judge.specs.Set.{takes}
use Rattle.x12_profile.specs.Result.{counts_as_accepted}
use Rattle.x12_profile.specs.Interchange.{Bytes, PlaceOfSet, PlacedTransactionSet, PlacedEvidence, is_place, evidence_by}
use Rattle.x12_profile.specs.Profile.{Profile}
use Rattle.x12_profile.specs.Laws.{Laws}
use Rattle.x12_station.specs.History.{posting_of, Submitted, Came, KeptArrival, Posting, filed, submissions, arrivals, HasCame, items_after, first_told, told, told_in, fate_in, posted_by, posted_under, key_of}
use Rattle.x12_station.specs.Station.{Station}
use Rattle.x12_hub.specs.Hub.{Refused}
use Rattle.x12_core.specs.Node.{IsStation}
use Rattle.x12_world.specs.World.{World, StationAt}
use Rattle.x12_world.specs.Held.{HoldsAs, PostedAs, IsKept, IsHandled}
use Rattle.x12_world.specs.Network.{Network}
use Rattle.x12_world.specs.Run.{run, new_world, InEveryRun}
use Rattle.x12_world.proofs.RunLemmas.{new_sound, run_onward, run-append}
use Rattle.x12_world.specs.Headline.{Headline}
use Rattle.x12_acks.proofs.ReplyGroupLemmas.{same_party_itself}
use Rattle.x12_numbers.proofs.Shelf.{eq_itself, some_inj}
use Rattle.x12_station.proofs.HistoryLemmas.{in_submissions, submitted_in, in_arrivals, after_in_items, told_final_by, told_final, told_stays, told_found, told_contains, told_append, posted_from, filed_found}
use Rattle.x12_world.proofs.Traces.{Trace, Answers, IsBy, IsRefusedWith, newest, SentOk}
use Rattle.x12_world.proofs.RoutedLemmas.{not_forwarded}
use Rattle.x12_world.proofs.WorldLemmas.{trace_of, Sound, IsLater}
use Rattle.x12_world.proofs.LearntLemmas.{by_verdict, has_verdict, name_at, items_at, decisions_at, hub_believed, believes_hub, no_hub_item, hub_of, learnt}
use Rattle.x12_acks.specs.Key.{is_same_key}
use Rattle.x12_acks.specs.Evidence.{FinalFate, fate_of_result, rejected}
use Rattle.x12_outbound.specs.Fate.{ended}
use Rattle.x12_outbound.specs.declared.fate.Fate.TheVariants.{Pending, Rejected}
use Rattle.x12_outbound.specs.declared.fate.Fate.{Fate}

-- the postings of one arrival under the key of one of its sets: that set, if its reply accepts it
under_key : (p : Profile) (x : Bytes) (k : PlaceOfSet) (acc : PlacedTransactionSet → Bool) (ss : List PlacedTransactionSet)
    → map (λ (q : Posting). q.bytes) (filter (λ (q : Posting). is_same_key (key_of p x k) q.key) (map (posting_of p x) (filter acc ss))) ≡ map (λ (s : PlacedTransactionSet). s.bytes) (filter acc (filter (λ s. is_place k s.place) ss))
under_key p x k acc [] = refl
under_key p x k acc (s ∷ ss) = by (acc s) refl (is_place k s.place) refl (under_key p x k acc ss)
  where
    key : is_same_key (key_of p x k) (key_of p x s.place) ≡ is_place k s.place
    key = rw (same_party_itself (p.sender x), eq_itself (p.number x)) refl

    by : (a : Bool) → acc s ≡ a → (b : Bool) → is_place k s.place ≡ b
        → map (λ (q : Posting). q.bytes) (filter (λ (q : Posting). is_same_key (key_of p x k) q.key) (map (posting_of p x) (filter acc ss))) ≡ map (λ (s : PlacedTransactionSet). s.bytes) (filter acc (filter (λ s. is_place k s.place) ss))
        → map (λ (q : Posting). q.bytes) (filter (λ (q : Posting). is_same_key (key_of p x k) q.key) (map (posting_of p x) (cond a (s ∷ filter acc ss) (filter acc ss)))) ≡ map (λ (s : PlacedTransactionSet). s.bytes) (filter acc (cond b (s ∷ filter (λ s. is_place k s.place) ss) (filter (λ s. is_place k s.place) ss)))
    by true is_a true is_b rest = rw (key, is_b, is_a) (ap (λ l. s.bytes ∷ l) rest)
    by true is_a false is_b rest = rw (key, is_b) rest
    by false is_a true is_b rest = rw (is_a) rest
    by false is_a false is_b rest = rest

-- what is taken counts as accepted
pub taken_counts : (r : SetResult) → takes r ≡ counts_as_accepted (fate_of_result r)
taken_counts result.Accepted = refl
taken_counts result.Noted = refl
taken_counts result.Rejected = refl

module _ (p : Profile) (laws : Laws p) (net : Network) (w : World) (was : Sound p net w) where
  abbrev t : Trace
  t = trace_of w

  module _ (i : ℕ) (s : Station) (at : StationAt w i s) (x : Bytes) (sent : Contains (submissions s.items) x) where
    sent_item : Contains (t.items i) (Submitted x)
    sent_item = rw (items_at p laws net w was i s at) (in_submissions s.items x sent)

    pub x_ok : SentOk p t i x
    x_ok = was.holds.sent i x sent_item

    pub not_hub : t.hub i ≡ false
    not_hub = no_hub_item p laws net w was i (Submitted x) sent_item

    -- what a hub refused came nowhere
    pub refused_nowhere : {A : Type 0} (k : ℕ) (r : Bytes) → IsRefusedWith t k x r → (j : ℕ) (reply : Option Bytes) → HasCame (t.items j) x reply → A
    refused_nowhere k r d j reply came =
        let boxed = (was.holds.came j x reply came).routed i x_ok.by not_hub in
        not_forwarded p t was.holds x i x_ok.by not_hub k r d j (no_hub_item p laws net w was j (Came came.0 x reply) came.1) boxed.0 boxed.1 boxed.2

    -- the receiver's reply tells what it accepts
    pub kept_tells : (r : Bytes) (j : ℕ) → HasCame (t.items j) x (Some r) → t.names j ≡ Some (p.receiver x) → (v : PlaceOfSet → SetResult) × ((hubs : List Party) → p.evidence newest hubs r x ≡ evidence_by newest v (p.sets x)) × ((u : PlacedTransactionSet) → Contains (p.sets x) u → p.result x r u.place ≡ v u.place)
    kept_tells r j came name =
        let ok = was.holds.reply j x r came in
        let same : Some (p.receiver x) ≡ Some ok.me = sym name ∙ ok.at in
        let me : p.receiver x ≡ ok.me = some_inj same in
        (p.verdict ok.reply.edition ok.me ok.agreements x, laws.reply.tells ok.me ok.agreements x r ok.reply x_ok.submission x_ok.from x_ok.rises me newest, λ u has. laws.reply.result ok.me ok.agreements x r ok.reply u.place)

    -- a hub's refusal rejects
    pub refused_tells : (k : ℕ) (r : Bytes) → IsRefusedWith t k x r → p.evidence newest s.hubs r x ≡ evidence_by newest (λ k. result.Rejected) (p.sets x)
    refused_tells k r d =
        let ok = was.holds.refusal k x r d in
        let h = hub_of p laws net w was k (record { body = x; outcome = Refused r }) d in
        laws.refusal.tells ok.me x r ok.refusal x_ok.submission newest s.hubs (believes_hub p laws net w was i s at k ok.me (was.only_hubs k h.0 h.1) ok.at)

  module _ (i : ℕ) (s : Station) (at : StationAt w i s) (x : Bytes) (ts : PlacedTransactionSet) (sent : Contains (submissions s.items) x) (has : Contains (p.sets x) ts) where
    -- where it came nowhere, nothing is posted under its keys
    pub posts_nothing : (l : ℕ) (r : Bytes) → IsRefusedWith t l x r → (j : ℕ) → posted_under p (key_of p x ts.place) (t.items j) ≡ []
    posts_nothing l r d j = was.holds.posted j (key_of p x ts.place) ∙ ap (posted_from p (key_of p x ts.place)) (none (filed p (t.items j) (p.sender x) (p.number x)) refl)
      where
        none : (f : Option KeptArrival) → filed p (t.items j) (p.sender x) (p.number x) ≡ f → filed p (t.items j) (p.sender x) (p.number x) ≡ None
        none None e = e
        none (Some f) e =
            let is = filed_found p (t.items j) (p.sender x) (p.number x) f e in
            let by_f : IsBy p t i f.body = (x_ok i s at x sent).by ∙ ap Some (sym is.1) in
            let same = was.holds.unique i f.body x (inl ((was.holds.came j f.body f.reply is.0).carried i by_f)) (inl (x_ok i s at x sent).carried) by_f (x_ok i s at x sent).by is.2 in
            (refused_nowhere i s at x sent) l r d j f.reply (subst (λ z. HasCame (t.items j) z f.reply) same is.0)

    -- where its reply is kept, what the reply accepts is posted
    pub posts_accepted : (r : Bytes) (j : ℕ) → HasCame (t.items j) x (Some r) → (a : Bool) → takes (p.result x r ts.place) ≡ a → posted_under p (key_of p x ts.place) (t.items j) ≡ (if a then ts.bytes ∷ [] else [])
    posts_accepted r j came a is =
        let k = key_of p x ts.place in
        was.holds.posted j k
        ∙ ap (posted_from p k) (was.holds.filed_first j x (Some r) came)
        ∙ ap (λ l. map (λ (q : Posting). q.bytes) (filter (λ (q : Posting). is_same_key k q.key) l)) (append-nil (posted_by p (Came First x (Some r))))
        ∙ under_key p x ts.place (λ s. takes (p.result x r s.place)) (p.sets x)
        ∙ ap (λ l. map (λ (s : PlacedTransactionSet). s.bytes) (filter (λ s. takes (p.result x r s.place)) l)) (laws.submission.one_at_a_place x ts has)
        ∙ last a is
      where
        last : (a : Bool) → takes (p.result x r ts.place) ≡ a → map (λ (s : PlacedTransactionSet). s.bytes) (filter (λ s. takes (p.result x r s.place)) (ts ∷ [])) ≡ (if a then ts.bytes ∷ [] else [])
        last true e = rw e refl
        last false e = rw e refl

    -- a piece of evidence decides what the receiver has posted
    evidence_posts : (e : PlacedEvidence) → Contains (told_in p s.me s.hubs s.items x) e → e.place ≡ ts.place → (j : ℕ) → t.names j ≡ Some (p.receiver x) → posted_under p (key_of p x ts.place) (t.items j) ≡ (if counts_as_accepted e.fate then ts.bytes ∷ [] else [])
    evidence_posts e told place j name =
        let from = told_found p s.me s.hubs s.items x e told in
        let here : HasCame (t.items i) from.1 from.2 = rw (items_at p laws net w was i s at) (from.0, after_in_items s.items x (Came from.0 from.1 from.2) from.3) in
        let ok = was.holds.came i from.1 from.2 here in
        let by_newest : Contains (p.evidence newest s.hubs from.1 x) e = subst (λ ed. Contains (p.evidence ed s.hubs from.1 x) e) (was.holds.by_newest i from.0 from.1 from.2 here.1) from.5 in
        elim (learnt p laws net w was from.0 i s.me (name_at p laws net w was i s at) x from.1 (sent_item i s at x sent) ok.header ok.carried from.4 s.hubs e from.5 j name (hub_believed p laws net w was i s at)) [
          | inl kept ↦
              let tells = (kept_tells i s at x sent) from.1 j kept name in
              let v = by_verdict tells.0 (p.sets x) e (rw (tells.1 s.hubs) at by_newest) in
              posts_accepted from.1 j kept (counts_as_accepted e.fate) (ap takes (tells.2 ts has ∙ ap tells.0 (sym place)) ∙ taken_counts (tells.0 e.place) ∙ ap counts_as_accepted (sym v.0))
          | inr d ↦
              let v = by_verdict (λ k. result.Rejected) (p.sets x) e (rw ((refused_tells i s at x sent) d.0 from.1 d.1) at by_newest) in
              rw v.0 (posts_nothing d.0 from.1 d.1 j)
        ]

    -- once the kept acknowledgment came, a set isn't pending
    pub kept_settles : (r : Bytes) → IsKept p w x r → Contains (arrivals s.items) r → fate_in p s.me s.hubs s.items x ts.place ≢ Pending
    kept_settles r kept arrived = from kept
      where
        items : t.items i ≡ s.items
        items = items_at p laws net w was i s at

        mine : p.sender x ≡ s.me
        mine = let same : Some s.me ≡ Some (p.sender x) = sym (name_at p laws net w was i s at) ∙ (x_ok i s at x sent).by in sym (some_inj same)

        came_before : (k : Option Bytes) × HasCame s.items r k
        came_before = in_arrivals s.items r arrived

        after : Answers t x r → HasCame (items_after x s.items) r came_before.0
        after answers = subst (λ l. HasCame (items_after x l) r came_before.0) items (was.holds.order i x r came_before.0 (sent_item i s at x sent) (rw items came_before.1) answers)

        settles : Answers t x r → ((ed : Edition) → p.refuses ed (p.sender x) r ≡ false) → (v : PlaceOfSet → SetResult) → p.evidence newest s.hubs r x ≡ evidence_by newest v (p.sets x) → fate_in p s.me s.hubs s.items x ts.place ≢ Pending
        settles answers taken v tells =
            let there = after answers in
            let by_newest : newest ≡ there.0 = sym (was.holds.by_newest i there.0 r came_before.0 (rw items (after_in_items s.items x (Came there.0 r came_before.0) there.1))) in
            told_final ts.place (told_in p s.me s.hubs s.items x) (record { place = ts.place; fate = fate_of_result (v ts.place) })
            (told_contains p s.me s.hubs s.items x there.0 r came_before.0 (record { place = ts.place; fate = fate_of_result (v ts.place) }) there.1 (subst (λ z. p.refuses there.0 z r ≡ false) mine (taken there.0))
            (subst (λ ed. Contains (p.evidence ed s.hubs r x) (record { place = ts.place; fate = fate_of_result (v ts.place) })) by_newest (rw tells (has_verdict v (p.sets x) ts has)))) refl

        from : IsKept p w x r → fate_in p s.me s.hubs s.items x ts.place ≢ Pending
        from (inl h) =
            let came : HasCame (t.items h.0) x (Some r) = rw (items_at p laws net w was h.0 h.1 h.2) h.4 in
            let ok = was.holds.reply h.0 x r came in
            let tells = (kept_tells i s at x sent) r h.0 came (name_at p laws net w was h.0 h.1 h.2 ∙ ap Some h.3) in
            settles (inl (h.0, came)) (laws.reply.is_taken ok.me ok.agreements x r ok.reply) tells.0 (tells.1 s.hubs)
        from (inr h) =
            let d : IsRefusedWith t h.0 x r = rw (decisions_at p laws net w was h.0 h.1 h.2) h.3 in
            let ok = was.holds.refusal h.0 x r d in
            settles (inr (h.0, d)) (laws.refusal.is_taken ok.me x r ok.refusal) (λ k. result.Rejected) ((refused_tells i s at x sent) h.0 r d)

  -- What holds in every world.
  posted_as : (i : ℕ) (x : Bytes) (ts : PlacedTransactionSet) (s : Station) → StationAt w i s → (e : PlacedEvidence) → Contains (submissions s.items) x → Contains (p.sets x) ts → Contains (told_in p s.me s.hubs s.items x) e → e.place ≡ ts.place → PostedAs p w x ts (if counts_as_accepted e.fate then ts.bytes ∷ [] else [])
  posted_as i x ts s at e sent has told place j a at_j me =
      let posts = evidence_posts i s at x ts sent has e told place j (name_at p laws net w was j a at_j ∙ ap Some me) in
      subst (λ l. posted_under p (key_of p x ts.place) l ≡ (if counts_as_accepted e.fate then ts.bytes ∷ [] else [])) (items_at p laws net w was j a at_j) posts

  pub accepted_is_posted : (i : ℕ) (x : Bytes) (ts : PlacedTransactionSet) (fate : FinalFate) → counts_as_accepted fate ≡ true → HoldsAs p w i x ts (ended fate) → PostedAs p w x ts (ts.bytes ∷ [])
  accepted_is_posted i x ts fate counts h =
      let e = told_final_by ts.place (told_in p h.0.me h.0.hubs h.0.items x) fate h.4 in
      rw (e.3, counts) at (posted_as i x ts h.0 h.1 e.0 h.2 h.3 e.1 e.2)

  pub rejected_is_not : (i : ℕ) (x : Bytes) (ts : PlacedTransactionSet) → HoldsAs p w i x ts Rejected → PostedAs p w x ts []
  rejected_is_not i x ts h =
      let e = told_final_by ts.place (told_in p h.0.me h.0.hubs h.0.items x) rejected h.4 in
      rw e.3 at (posted_as i x ts h.0 h.1 e.0 h.2 h.3 e.1 e.2)

  pub handled_is_final : (i : ℕ) (x : Bytes) (ts : PlacedTransactionSet) → IsHandled p w i x → ¬ (HoldsAs p w i x ts Pending)
  handled_is_final i x ts handled h =
      let same : Some (IsStation handled.1) ≡ Some (IsStation h.0) = sym handled.2 ∙ h.1 in
      let is : handled.1 ≡ h.0 = station_inj (some_inj same) in
      kept_settles i h.0 h.1 x ts h.2 h.3 handled.0 handled.3 (subst (λ s. Contains (arrivals s.items) handled.0) is handled.4) h.4
    where
      station_inj : {a b : Station} → IsStation a ≡ IsStation b → a ≡ b
      station_inj e = cc

-- A final fate stays in every later world.
pub fate_stays : (p : Profile) (before after : World) → IsLater before after → (i : ℕ) (x : Bytes) (ts : PlacedTransactionSet) (fate : Fate) → fate ≢ Pending → HoldsAs p before i x ts fate → HoldsAs p after i x ts fate
fate_stays p before after later i x ts fate final h =
    let now = later i h.0 h.1 in
    let sent = in_submissions h.0.items x h.2 in
    let more = now.1 in
    let whole : told_in p now.0.me now.0.hubs now.0.items x ≡ told_in p h.0.me h.0.hubs h.0.items x ++ flat_map (told p h.0.me h.0.hubs x) more =
    rw (now.3, now.4, now.5) (told_append p h.0.me h.0.hubs h.0.items more x sent) in (
      now.0,
      now.2,
      submitted_in now.0.items x (rw now.5 (Contains-append_left h.0.items more (Submitted x) sent)),
      h.3,
      ap (first_told ts.place) whole ∙ told_stays ts.place (told_in p h.0.me h.0.hubs h.0.items x) (flat_map (told p h.0.me h.0.hubs x) more) fate final h.4,
    )

pub headline_holds : (p : Profile) → Laws p → (net : Network) (before after : World) → Sound p net before → Sound p net after → IsLater before after → Headline p before after
headline_holds p laws net before after was now later = record {
  accepted_once = accepted_is_posted p laws net before was;
  rejected_never = λ i x ts h. rejected_is_not p laws net after now i x ts (fate_stays p before after later i x ts Rejected (λ e. cc) h);
  final_stays = fate_stays p before after later;
  handled_settles = handled_is_final p laws net before was;
}

pub headline_in_runs : (p : Profile) → Laws p → InEveryRun p (Headline p)
headline_in_runs p laws net is events more =
    let first = run_onward p laws net is events (new_world net) (new_sound p net is) in
    let later = run_onward p laws net is more (run p events (new_world net)) first.0 in
    subst (λ w. Headline p (run p events (new_world net)) w) (sym (run-append p events more (new_world net)))
    (headline_holds p laws net (run p events (new_world net)) (run p more (run p events (new_world net))) first.0 later.0 later.1)
