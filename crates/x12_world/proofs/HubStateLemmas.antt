-- Each step of the hub keeps its decisions numbered, and decides on no bytes twice.
use Rattle.x12_numbers.specs.declared.book.TheConstants.{MAX_CONTROL_NUMBER}
use Rattle.std.specs.Prelude.{◌≡◌, ◌≢◌, ℕ, zero, suc, ◌+◌, List, [], ◌∷◌, ◌++◌, Bool, true, false, ◌==◌, not, nat_le, if◌then◌else◌, Option, Some, None, Contains, refl, ◌⊎◌, slice_get, length, All, AllPairs, filter}
use Rattle.std.specs.List.{list_any}
use mathlib.Core.Path.{sym, ap, subst, ◌∙◌}
use mathlib.Core.Logic.{inl, inr, ⊎_elim}
use native.Mathlib.Omega.{arith}
use lib.ListN.{get_or}
use Rattle.std.proofs.lemmas.Bool.{cases_lt}
use Rattle.std.proofs.lemmas.List.{length_push, get_or_append_left, get_or_push}
use Rattle.std.proofs.lemmas.List.Elements.{All-contains_itself}
use Rattle.x12_envelopes.specs.declared.moment.Moment.{Moment}
use Rattle.x12_profile.specs.Interchange.{Bytes}
use Rattle.x12_profile.specs.Profile.{Profile}
use Rattle.x12_hub.specs.Hub.{Hub, HubStep, Decision, HubOutcome, Boxed, Refused, decided, decides, mailbox_of, waits, refuse, taken, collect, enrolled, dismissed, deposit, deposit_at, deposit_new, deposit_again}
use Rattle.x12_world.specs.HubState.{IsHubState, HubStepsKeep}
use Rattle.x12_numbers.proofs.Shelf.{none_in_nil, contains_cons, bytes_eq_tells, if_some_parts, some_inj}

-- what stands in a list with one more at its end
get_push : {X : Type 0} (xs : List X) (y : X) (i : ℕ) (z : X) → slice_get (xs ++ y ∷ []) i ≡ Some z → (slice_get xs i ≡ Some z) ⊎ ((i ≡ length xs) × (y ≡ z))
get_push [] y zero z e = inr (refl, some_inj e)
get_push [] y (suc i) z e = absurd cc
get_push (x ∷ xs) y zero z e = inl e
get_push (x ∷ xs) y (suc i) z e = elim (get_push xs y i z e) [ inl before ↦ inl before | inr last ↦ inr (ap suc last.0, last.1) ]

pub pairs_push : {X : Type 0} (R : X → X → Type 0) (xs : List X) (y : X) → AllPairs R xs → All (λ x. R x y) xs → AllPairs R (xs ++ y ∷ [])
pairs_push R xs y pairs last i j d below within =
    let long = length_push xs y in
    let first = get_or_append_left xs (y ∷ []) d i (omega arith) in
    ⊎_elim
    (λ inside. rw (first, get_or_append_left xs (y ∷ []) d j inside) (pairs i j d below inside))
    (λ at_end. rw (first, get_or_push xs y d j (omega arith)) (last i d (omega arith)))
    (cases_lt j (length xs))

-- bytes that weren't decided stand in no decision
undecided : (ds : List Decision) (b : Bytes) → decided ds b ≡ None → (d : Decision) → Contains ds d → d.body ≢ b
undecided [] b none d h = none_in_nil d h
undecided (e ∷ ds) b none d h = elim (bytes_eq_tells e.body b) [
  | inl same ↦ absurd (found (rw (same.0) at none))
  | inr apart ↦ elim (contains_cons d e ds h) [
    | inl is ↦ subst (λ z. z.body ≢ b) is (apart.1)
    | inr later ↦ undecided ds b (rw (apart.0) at none) d later
  ]
]
  where
    found : Some e.outcome ≡ None → ⊥
    found is = cc

-- only decisions and the last item number matter
same_state : (h k : Hub) → k.item ≡ h.item → k.decisions ≡ h.decisions → IsHubState h → IsHubState k
same_state h k item decisions is = record {
  counted = item ∙ is.counted ∙ sym (ap length decisions);
  numbered = λ place node item b at. is.numbered place node item b (subst (λ ds. slice_get ds place ≡ Some (record { body = b; outcome = Boxed node item })) decisions at);
  once = subst (AllPairs (λ (d e : Decision). d.body ≢ e.body)) (sym decisions) is.once;
}

-- one decision more, on bytes that weren't decided
decides_keeps : (h : Hub) (b : Bytes) (o : HubOutcome) → IsHubState h → decided h.decisions b ≡ None → ((node item : ℕ) → o ≡ Boxed node item → item ≡ h.item + 1) → IsHubState (decides h b o)
decides_keeps h b o is new number = record {
  counted = let old = is.counted in let long = length_push h.decisions (record { body = b; outcome = o }) in omega arith;
  numbered = λ place node item c at. elim (get_push h.decisions (record { body = b; outcome = o }) place (record { body = c; outcome = Boxed node item }) at) [
    | inl before ↦ is.numbered place node item c before
    | inr last ↦ let n = number node item (ap (λ d. d.outcome) last.1) in let old = is.counted in let end = last.0 in omega arith
  ];
  once = pairs_push (λ (d e : Decision). d.body ≢ e.body) h.decisions (record { body = b; outcome = o }) is.once (λ i d within. undecided h.decisions b new (get_or h.decisions i d) (All-contains_itself h.decisions i d within));
}

module _ (p : Profile) (h : Hub) (m : Moment) (b : Bytes) (was : IsHubState h) where
  boxes : decided h.decisions b ≡ None → (node : ℕ) → IsHubState (waits (decides h b (Boxed node (h.item + 1))) (h.item + 1))
  boxes new node = same_state (decides h b (Boxed node (h.item + 1))) _ refl refl (decides_keeps h b (Boxed node (h.item + 1)) was new (λ to item e. sym (item_of e)))
    where
      item_of : {to item : ℕ} → Boxed node (h.item + 1) ≡ Boxed to item → h.item + 1 ≡ item
      item_of e = cc

  refuses : decided h.decisions b ≡ None → (reply : Bytes) → IsHubState (refuse h b reply).hub
  refuses new reply = same_state (decides h b (Refused reply)) _ refl refl (decides_keeps h b (Refused reply) was new (λ to item e. absurd (differ e)))
    where
      differ : {to item : ℕ} → Refused reply ≡ Boxed to item → ⊥
      differ e = cc

  new_keeps : decided h.decisions b ≡ None → (node : Option ℕ) (step : HubStep) → deposit_new p h m b node ≡ Some step → IsHubState step.hub
  new_keeps new (Some node) step e = subst (λ z. IsHubState z.hub) (some_inj e) (boxes new node)
  new_keeps new None step e =
      let ok = if_some_parts (nat_le (h.icn + 1) MAX_CONTROL_NUMBER) (Some (refuse h b (p.refusal 9 h.me m (h.icn + 1) b))) step e in
      subst (λ z. IsHubState z.hub) (some_inj ok.1) (refuses new (p.refusal 9 h.me m (h.icn + 1) b))

  again_keeps : (o : HubOutcome) → IsHubState (deposit_again h o).hub
  again_keeps (Boxed node item) = same_state h (waits h item) refl refl was
  again_keeps (Refused reply) = was

  at_keeps : (o : Option HubOutcome) → decided h.decisions b ≡ o → (step : HubStep) → deposit_at p h m b o ≡ Some step → IsHubState step.hub
  at_keeps (Some o) is step e = subst (λ z. IsHubState z.hub) (some_inj e) (again_keeps o)
  at_keeps None is step e =
      let ok = if_some_parts (nat_le (h.item + 1) MAX_CONTROL_NUMBER) (deposit_new p h m b (mailbox_of h.directory (p.receiver b))) step e in
      new_keeps is (mailbox_of h.directory (p.receiver b)) step ok.1

  pub deposit_keeps : (step : HubStep) → deposit p h m b ≡ Some step → IsHubState step.hub
  deposit_keeps step e = at_keeps (decided h.decisions b) refl step (if_some_parts (p.has_header b) (deposit_at p h m b (decided h.decisions b)) step e).1

taken_keeps : (h : Hub) (node item : ℕ) → IsHubState h → IsHubState (taken h node item)
taken_keeps h node item was = by (list_any (λ c. c.0 == item) (collect h node))
  where
    by : (t : Bool) → IsHubState (if t then record h { waiting = filter (λ i. not (i == item)) h.waiting } else h)
    by true = same_state h _ refl refl was
    by false = was

pub hub_steps_keep : (p : Profile) → HubStepsKeep p
hub_steps_keep p = record {
  new = λ me. record { counted = refl; numbered = λ place node item b at. absurd (nothing place (record { body = b; outcome = Boxed node item }) at); once = λ i j d below within. absurd (omega arith) };
  deposits = λ h m b step was e. deposit_keeps p h m b was step e;
  takes = λ h node item was. taken_keeps h node item was;
  enrols = λ h party node was. same_state h (enrolled h party node) refl refl was;
  dismisses = λ h party was. same_state h (dismissed h party) refl refl was;
}
  where
    nothing : (place : ℕ) (d : Decision) → slice_get [] place ≡ Some d → ⊥
    nothing place d e = cc
