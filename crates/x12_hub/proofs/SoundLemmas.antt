-- Each change of a hub keeps its records sound.
use Rattle.std.specs.Prelude.{◌≡◌, ℕ, zero, suc, ◌+◌, ◌<◌, ◌≤◌, List, [], ◌∷◌, ◌++◌, Bool, true, false, length, slice_get, Some, None, refl, filter, not, ◌==◌, nat_lt, cond}
use mathlib.Core.Path.{sym, ap, subst, ◌∙◌}
use mathlib.Core.Logic.{inl, inr}
use native.Mathlib.Omega.{arith}
use Rattle.std.proofs.lemmas.Bool.{ltb-true}
use Rattle.std.proofs.lemmas.List.Sums.{sum_by_push}
use Rattle.x12_profile.specs.Interchange.{Bytes}
use Rattle.x12_hub.specs.Hub.{Decision, HubOutcome, Boxed, Refused, decided, refused_with}
use Rattle.x12_hub.specs.Stored.{HubStored, WaitingItem, IsSoundHub, is_refusal, count_of_refusals, IsNumbered, HaveItemNumbers, decision_at, WaitsRightly, AllWaitRightly, AreRising}
use Rattle.x12_hub.specs.Plan.{Decides, PutsBack, TakesOut, hub_stored_after, put_waiting}
use Rattle.x12_hub.proofs.DecisionLemmas.{once_pushed}
use Rattle.x12_numbers.proofs.Shelf.{bytes_eq_tells}
use Rattle.x12_hub.proofs.OnceLemmas.{counts}

-- what stands in a list stands there with one more at the end
get_push : (ds : List Decision) (d : Decision) (n : ℕ) (x : Decision) → slice_get ds n ≡ Some x → slice_get (ds ++ d ∷ []) n ≡ Some x
get_push [] d n x e = absurd cc
get_push (y ∷ ys) d zero x e = e
get_push (y ∷ ys) d (suc n) x e = get_push ys d n x e

get_last : (ds : List Decision) (d : Decision) → slice_get (ds ++ d ∷ []) (length ds) ≡ Some d
get_last [] d = refl
get_last (y ∷ ys) d = get_last ys d

at_push : (ds : List Decision) (d : Decision) (i : ℕ) (x : Decision) → decision_at ds i ≡ Some x → decision_at (ds ++ d ∷ []) i ≡ Some x
at_push ds d zero x e = absurd cc
at_push ds d (suc n) x e = get_push ds d n x e

-- an item number is at most how many decisions there are
get_within : (ds : List Decision) (n : ℕ) (x : Decision) → slice_get ds n ≡ Some x → n < length ds
get_within [] n x e = absurd cc
get_within (d ∷ ds) zero x e = omega arith
get_within (d ∷ ds) (suc n) x e = let lt = get_within ds n x e in omega arith

pub at_within : (ds : List Decision) (i : ℕ) (x : Decision) → decision_at ds i ≡ Some x → i ≤ length ds
at_within ds zero x e = absurd cc
at_within ds (suc n) x e = let lt = get_within ds n x e in omega arith

numbered_push : (n : ℕ) (ds : List Decision) (d : Decision) → HaveItemNumbers n ds → IsNumbered (n + length ds) d.outcome → HaveItemNumbers n (ds ++ d ∷ [])
numbered_push n [] d all is =
    let here : n + 0 ≡ n = omega arith in
    (subst (λ k. IsNumbered k d.outcome) here is, tt)
numbered_push n (x ∷ xs) d all is =
    let moved : n + suc (length xs) ≡ n + 1 + length xs = omega arith in
    (all.0, numbered_push (n + 1) xs d all.1 (subst (λ k. IsNumbered k d.outcome) moved is))

-- what waited rightly does so with one decision more
all_push : (ds : List Decision) (d : Decision) (ws : List WaitingItem) → AllWaitRightly ds ws → AllWaitRightly (ds ++ d ∷ []) ws
all_push ds d [] all = tt
all_push ds d (w ∷ ws) all = ((all.0.0, at_push ds d w.item (record { body = all.0.0; outcome = Boxed w.node w.item }) all.0.1), all_push ds d ws all.1)

all_filtered : (ds : List Decision) (p : WaitingItem → Bool) (ws : List WaitingItem) → AllWaitRightly ds ws → AllWaitRightly ds (filter p ws)
all_filtered ds p [] all = tt
all_filtered ds p (w ∷ ws) all = by (p w) (all_filtered ds p ws all.1)
  where
    by : (t : Bool) → AllWaitRightly ds (filter p ws) → AllWaitRightly ds (cond t (w ∷ filter p ws) (filter p ws))
    by true rest = (all.0, rest)
    by false rest = rest

all_append : (ds : List Decision) (xs ys : List WaitingItem) → AllWaitRightly ds xs → AllWaitRightly ds ys → AllWaitRightly ds (xs ++ ys)
all_append ds [] ys first second = second
all_append ds (x ∷ xs) ys first second = (first.0, all_append ds xs ys first.1 second)

all_put : (ds : List Decision) (node item : ℕ) (ws : List WaitingItem) → AllWaitRightly ds ws → WaitsRightly ds (record { node = node; item = item }) → AllWaitRightly ds (put_waiting node item ws)
all_put ds node item ws all right =
    all_append ds (filter (λ w. nat_lt w.item item) ws) (record { node = node; item = item } ∷ filter (λ w. nat_lt item w.item) ws) (all_filtered ds (λ w. nat_lt w.item item) ws all) (right, all_filtered ds (λ w. nat_lt item w.item) ws all)

-- what rises still rises when some are left out
rises_from : (first last : ℕ) (ws : List WaitingItem) → first ≤ last → AreRising last ws → AreRising first ws
rises_from first last [] le rising = tt
rises_from first last (w ∷ ws) le rising = (let lt = rising.0 in omega arith, rising.1)

pub rises_filtered : (p : WaitingItem → Bool) (last : ℕ) (ws : List WaitingItem) → AreRising last ws → AreRising last (filter p ws)
rises_filtered p last [] rising = tt
rises_filtered p last (w ∷ ws) rising = by (p w) (rises_filtered p w.item ws rising.1)
  where
    by : (t : Bool) → AreRising w.item (filter p ws) → AreRising last (cond t (w ∷ filter p ws) (filter p ws))
    by true rest = (rising.0, rest)
    by false rest = rises_from last w.item (filter p ws) (let lt = rising.0 in omega arith) rest

rises_append : (last item : ℕ) (xs ys : List WaitingItem) → AreRising last (filter (λ w. nat_lt w.item item) xs) → last < item → (node : ℕ) → AreRising item ys → AreRising last (filter (λ w. nat_lt w.item item) xs ++ record { node = node; item = item } ∷ ys)
rises_append last item [] ys first lt node second = (lt, second)
rises_append last item (x ∷ xs) ys first lt node second = by (nat_lt x.item item) refl first (λ least rest below. rises_append least item xs ys rest below node second)
  where
    low : List WaitingItem
    low = filter (λ w. nat_lt w.item item) xs

    by : (t : Bool) → nat_lt x.item item ≡ t → AreRising last (cond t (x ∷ low) low) → ((least : ℕ) → AreRising least low → least < item → AreRising least (low ++ record { node = node; item = item } ∷ ys)) → AreRising last (cond t (x ∷ low) low ++ record { node = node; item = item } ∷ ys)
    by true below first more = (first.0, more x.item first.1 (ltb-true x.item item below))
    by false below first more = more last first lt

rises_above : (last item : ℕ) (ws : List WaitingItem) → AreRising last ws → AreRising item (filter (λ w. nat_lt item w.item) ws)
rises_above last item [] rising = tt
rises_above last item (w ∷ ws) rising = by (nat_lt item w.item) refl (rises_above w.item item ws rising.1)
  where
    by : (t : Bool) → nat_lt item w.item ≡ t → AreRising item (filter (λ v. nat_lt item v.item) ws) → AreRising item (cond t (w ∷ filter (λ v. nat_lt item v.item) ws) (filter (λ v. nat_lt item v.item) ws))
    by true above rest = (ltb-true item w.item above, rises_filtered (λ v. nat_lt item v.item) w.item ws rising.1)
    by false above rest = rest

rises_put : (last node item : ℕ) (ws : List WaitingItem) → AreRising last ws → last < item → AreRising last (put_waiting node item ws)
rises_put last node item ws rising lt =
    rises_append last item ws (filter (λ w. nat_lt item w.item) ws) (rises_filtered (λ w. nat_lt w.item item) last ws rising) lt node (rises_above last item ws rising)

-- a decision that boxed is found at its item number
found_from : (n : ℕ) (ds : List Decision) (b : Bytes) (node item : ℕ) → HaveItemNumbers n ds → decided ds b ≡ Some (Boxed node item) → (k : ℕ) × (item ≡ n + k) × (slice_get ds k ≡ Some (record { body = b; outcome = Boxed node item }))
found_from n [] b node item numbered e = absurd cc
found_from n (d ∷ ds) b node item numbered e = elim (bytes_eq_tells d.body b) [
  | inl same ↦
      let is : Some d.outcome ≡ Some (Boxed node item) = rw (same.0) at e in
      let outcome : d.outcome ≡ Boxed node item = some_is is in
      (0, number outcome, whole outcome same.1)
  | inr apart ↦
      let more = found_from (n + 1) ds b node item numbered.1 (rw (apart.0) at e) in
      (suc more.0, let at = more.1 in omega arith, more.2)
]
  where
    some_is : {A : Type 0} {x y : A} → Some x ≡ Some y → x ≡ y
    some_is e = cc

    number : d.outcome ≡ Boxed node item → item ≡ n + 0
    number outcome = let at : item ≡ n = subst (IsNumbered n) outcome numbered.0 in omega arith

    whole : d.outcome ≡ Boxed node item → d.body ≡ b → Some d ≡ Some (record { body = b; outcome = Boxed node item })
    whole outcome body = ap (λ (z : Bytes). Some (record { body = z; outcome = d.outcome })) body ∙ ap (λ (o : HubOutcome). Some (record { body = b; outcome = o })) outcome

pub boxed_waits : (s : HubStored) (b : Bytes) (node item : ℕ) → IsSoundHub s → decided s.decisions b ≡ Some (Boxed node item) → (0 < item) × WaitsRightly s.decisions (record { node = node; item = item })
boxed_waits s b node item sound e =
    let found = found_from 1 s.decisions b node item sound.numbered e in
    (let at = found.1 in omega arith, (b, here found.0 item found.1 found.2))
  where
    here : (k i : ℕ) → i ≡ 1 + k → slice_get s.decisions k ≡ Some (record { body = b; outcome = Boxed node item }) → decision_at s.decisions i ≡ Some (record { body = b; outcome = Boxed node item })
    here k i at is = let same : i ≡ suc k = omega arith in rw same is

-- one more that refuses counts, and one that boxes doesn't
refused_too : (ds : List Decision) (b reply : Bytes) (n : ℕ) → n ≡ count_of_refusals ds → n + 1 ≡ count_of_refusals (ds ++ refused_with b reply ∷ [])
refused_too ds b reply n e =
    let more : count_of_refusals (ds ++ refused_with b reply ∷ []) ≡ count_of_refusals ds + 1 = sum_by_push (λ d. cond (is_refusal d.outcome) 1 0) ds (refused_with b reply) in
    omega arith

boxed_too : (ds : List Decision) (b : Bytes) (node item n : ℕ) → n ≡ count_of_refusals ds → n ≡ count_of_refusals (ds ++ record { body = b; outcome = Boxed node item } ∷ [])
boxed_too ds b node item n e =
    let more : count_of_refusals (ds ++ record { body = b; outcome = Boxed node item } ∷ []) ≡ count_of_refusals ds + 0 = sum_by_push (λ d. cond (is_refusal d.outcome) 1 0) ds (record { body = b; outcome = Boxed node item }) in
    omega arith

-- a first decision, under the next item number; a refusal takes the next interchange number too
module _ (s : HubStored) (sound : IsSoundHub s) (b : Bytes) (new : decided s.decisions b ≡ None) where
  pub sound_refused : (reply : Bytes) → IsSoundHub (hub_stored_after (record { icn = s.icn + 1; item = s.item + 1; change = Decides b (Refused reply) }) s)
  sound_refused reply = record {
    once = once_pushed s.decisions b (Refused reply) sound.once new;
    count = counts s.decisions (record { body = b; outcome = Refused reply }) s.item sound.count;
    refused = refused_too s.decisions b reply s.icn sound.refused;
    numbered = numbered_push 1 s.decisions (record { body = b; outcome = Refused reply }) sound.numbered tt;
    waits = all_push s.decisions (record { body = b; outcome = Refused reply }) s.waiting sound.waits;
    rising = sound.rising;
  }

  pub sound_boxed : (node : ℕ) → IsSoundHub (hub_stored_after (record { icn = s.icn; item = s.item + 1; change = Decides b (Boxed node (s.item + 1)) }) s)
  sound_boxed node =
      let d : Decision = record { body = b; outcome = Boxed node (s.item + 1) } in
      let count = sound.count in
      record {
        once = once_pushed s.decisions b (Boxed node (s.item + 1)) sound.once new;
        count = counts s.decisions d s.item count;
        refused = boxed_too s.decisions b node (s.item + 1) s.icn sound.refused;
        numbered = numbered_push 1 s.decisions d sound.numbered (omega arith);
        waits = all_put (s.decisions ++ d ∷ []) node (s.item + 1) s.waiting (all_push s.decisions d s.waiting sound.waits) (b, here count);
        rising = rises_put 0 node (s.item + 1) s.waiting sound.rising (omega arith);
      }
    where
      here : s.item ≡ length s.decisions → decision_at (s.decisions ++ record { body = b; outcome = Boxed node (s.item + 1) } ∷ []) (s.item + 1) ≡ Some (record { body = b; outcome = Boxed node (s.item + 1) })
      here count =
          let at : s.item + 1 ≡ suc (length s.decisions) = omega arith in
          subst (λ k. decision_at (s.decisions ++ record { body = b; outcome = Boxed node (s.item + 1) } ∷ []) k ≡ Some (record { body = b; outcome = Boxed node (s.item + 1) })) (sym at) (get_last s.decisions (record { body = b; outcome = Boxed node (s.item + 1) }))

-- what waits changes alone
pub sound_put_back : (s : HubStored) (b : Bytes) (node item : ℕ) → IsSoundHub s → decided s.decisions b ≡ Some (Boxed node item) → IsSoundHub (hub_stored_after (record { icn = s.icn; item = s.item; change = PutsBack node item }) s)
sound_put_back s b node item sound e =
    let right = boxed_waits s b node item sound e in
    record {
      once = sound.once;
      count = sound.count;
      refused = sound.refused;
      numbered = sound.numbered;
      waits = all_put s.decisions node item s.waiting sound.waits right.1;
      rising = rises_put 0 node item s.waiting sound.rising right.0;
    }

pub sound_taken : (s : HubStored) (item : ℕ) → IsSoundHub s → IsSoundHub (hub_stored_after (record { icn = s.icn; item = s.item; change = TakesOut item }) s)
sound_taken s item sound = record {
  once = sound.once;
  count = sound.count;
  refused = sound.refused;
  numbered = sound.numbered;
  waits = all_filtered s.decisions (λ w. not (w.item == item)) s.waiting sound.waits;
  rising = rises_filtered (λ w. not (w.item == item)) 0 s.waiting sound.rising;
}
