-- An item that waits and is put back stands as it stood.
use Rattle.std.proofs.Common.{ℕ, ◌≡◌, ◌<◌, ◌≤◌, ap, ap₂, sym, refl, ◌∙◌, Bool, true, false, List, [], ◌∷◌, map, arith, inl, inr}
use Rattle.std.specs.Prelude.{filter, nat_lt, ◌&&◌, ◌||◌, ◌==◌}
use Rattle.std.proofs.lemmas.Bool.{lt-ltb}
use Rattle.std.proofs.lemmas.Bool.Decides.{eqb_tells}
use Rattle.x12_envelopes.specs.declared.party.Party.{Party}
use Rattle.x12_hub.specs.Hub.{waits}
use Rattle.x12_hub.specs.Mailbox.{is_waiting}
use Rattle.x12_hub.specs.Plan.{put_waiting}
use Rattle.x12_hub.specs.Stored.{HubStored, WaitingItem, IsSoundHub, AreRising, hub_of}
use Rattle.x12_hub.proofs.WaitingLemmas.{not_below}
use Rattle.x12_hub.proofs.StepLemmas.{items_put}

none_under : (k last : ℕ) (ws : List WaitingItem) → k ≤ last → AreRising last ws → filter (λ w. nat_lt w.item k) ws ≡ []
none_under k last [] le rising = refl
none_under k last (w ∷ ws) le rising =
    let lt = rising.0 in
    rw (not_below w.item k (omega arith)) (none_under k w.item ws (omega arith) rising.1)

all_over : (k last : ℕ) (ws : List WaitingItem) → k ≤ last → AreRising last ws → filter (λ w. nat_lt k w.item) ws ≡ ws
all_over k last [] le rising = refl
all_over k last (w ∷ ws) le rising =
    let lt = rising.0 in
    rw (lt-ltb k w.item (omega arith)) (ap (λ vs. w ∷ vs) (all_over k w.item ws (omega arith) rising.1))

-- what waits isn't the first, where that is another item
behind : (t rest : Bool) → ((t && false) || rest) ≡ true → rest ≡ true
behind true rest e = e
behind false rest e = e

-- an item among those that rise is above the number
is_over : (node item last : ℕ) (ws : List WaitingItem) → AreRising last ws → is_waiting ws node item ≡ true → last < item
is_over node item last [] rising there = absurd cc
is_over node item last (w ∷ ws) rising there = elim (eqb_tells w.item item) [
  | inl same ↦ (let is = same.1 in let lt = rising.0 in omega arith)
  | inr apart ↦
      let more = is_over node item w.item ws rising.1 (behind (w.node == node) (is_waiting ws node item) (rw (apart.0) at there)) in
      let lt = rising.0 in
      omega arith
]

put_again : (node item last : ℕ) (ws : List WaitingItem) → AreRising last ws → is_waiting ws node item ≡ true → put_waiting node item ws ≡ ws
put_again node item last [] rising there = absurd cc
put_again node item last (w ∷ ws) rising there = elim (eqb_tells w.item item) [
  | inl same ↦
      let is = same.1 in
      elim (eqb_tells w.node node) [
        | inl here ↦
            rw (not_below w.item item (omega arith), none_under item w.item ws (omega arith) rising.1, not_below item w.item (omega arith), all_over item w.item ws (omega arith) rising.1)
            (ap₂ (λ n i. record { node = n; item = i } ∷ ws) (sym here.1) (sym is))
        | inr away ↦
            let more = is_over node item w.item ws rising.1 (rw (away.0) at there) in
            absurd (omega arith)
      ]
  | inr apart ↦
      let rest : is_waiting ws node item ≡ true = behind (w.node == node) (is_waiting ws node item) (rw (apart.0) at there) in
      let more = is_over node item w.item ws rising.1 rest in
      rw (lt-ltb w.item item more, not_below item w.item (omega arith)) (ap (λ vs. w ∷ vs) (put_again node item w.item ws rising.1 rest))
]

-- so the hub is as it was
pub still_waits : (me : Party) (s : HubStored) (node item : ℕ) → IsSoundHub s → is_waiting s.waiting node item ≡ true → hub_of me s ≡ waits (hub_of me s) item
still_waits me s node item sound there =
    ap (λ (is : List ℕ). record { me = me; directory = s.directory; decisions = s.decisions; waiting = is; icn = s.icn; item = s.item })
    (ap (map (λ (w : WaitingItem). w.item)) (sym (put_again node item 0 s.waiting sound.rising there)) ∙ items_put node item s.waiting)
