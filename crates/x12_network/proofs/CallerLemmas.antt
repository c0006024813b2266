-- The callers of a network's nodes, and their passes.
use native.Mathlib.Omega.{arith}
use Rattle.std.proofs.Common.{◌≡◌, ◌∙◌, ◌++◌, ◌∷◌, ◌<◌, ◌≢◌, ◌≤◌, ◌⊎◌, ⊎_elim, inl, inr, [], All, List, None, Some, get_or, map, slice_get, ℕ, ap, length, subst, sym}
use Rattle.std.proofs.Math.ListN.{get_or-append}
use Rattle.std.proofs.Math.Seq.{get_or-append_seam}
use Rattle.std.proofs.lemmas.Bool.{cases_eq}
use Rattle.std.proofs.lemmas.List.{get_or-map, length-append, length-map, map-append}
use Rattle.std.proofs.lemmas.List.Elements.{All-append, All-cons, All-get_or, All-nil}
use Rattle.std.proofs.lemmas.Option.{get_or_from_slice_get, slice_get-get_or, slice_get_cases, slice_get_within}
use Rattle.x12_core.specs.declared.packet.Site.{Site}
use Rattle.x12_links.specs.declared.plan.FaultPlan.{FaultPlan}
use Rattle.x12_links.specs.declared.worker.Delivery.{Delivery}
use Rattle.x12_links.specs.Net.{IsNodeHeard}
use Rattle.x12_network.specs.Deliveries.{delivered_from}
use Rattle.x12_network.specs.Linked.{come_rising, AreLinked}
use Rattle.x12_network.specs.Senders.{senders_into, ArePlaced}
use Rattle.x12_nodes.specs.View.{Receipt}

-- of no passes, all are of what you like
pub none_linked : (answers : Delivery → Type 0) (plan : FaultPlan) (sites : List Site) (passes : List (List Receipt)) → passes ≡ [] → AreLinked answers plan sites passes
none_linked answers plan sites [] is = record { each = λ place at pass there here. absurd cc }
none_linked answers plan sites (p ∷ passes) is = absurd cc

-- passes that are these
pub passes_linked : (answers : Delivery → Type 0) (plan : FaultPlan) (sites : List Site) (ps qs : List (List Receipt)) → ps ≡ qs → AreLinked answers plan sites qs → AreLinked answers plan sites ps
passes_linked answers plan sites ps qs are linked = subst (AreLinked answers plan sites) (sym are) linked

module _ {X : Type 0} (pass : X → List Receipt) where
  pub passes_all : (n : ℕ) (ps : List (List Receipt)) (old new : List X) → ps ≡ map pass new → length new ≡ length old → length old ≡ n → length ps ≡ n
  passes_all n ps old new are same all = ap length are ∙ length-map new pass ∙ same ∙ all

  -- one new caller more
  pub new_more : (cs cs' : List X) (c : X) → All (λ p. p ≡ []) (map pass cs) → pass c ≡ [] → cs' ≡ cs ++ c ∷ [] → All (λ p. p ≡ []) (map pass cs')
  new_more cs cs' c was new more = subst (All (λ p. p ≡ [])) (sym (ap (map pass) more ∙ map-append pass cs (c ∷ []))) (All-append (λ p. p ≡ []) (map pass cs) (pass c ∷ []) was (All-cons (λ p. p ≡ []) (pass c) [] new (All-nil (λ (p : List Receipt). p ≡ []))))

  -- to new callers nothing was delivered
  pub none_delivered : (cs : List X) (i : ℕ) (d : X) (from : ℕ) → All (λ p. p ≡ []) (map pass cs) → i < length cs → delivered_from from (pass (get_or cs i d)) ≡ []
  none_delivered cs i d from new within =
      ap (delivered_from from) (sym (get_or-map pass cs i d (pass d) within) ∙ All-get_or (λ p. p ≡ []) (map pass cs) i (pass d) (omega (arith, within, length-map cs pass)) new)

  heard_at : (answers : Delivery → Type 0) (plan : FaultPlan) (place : X → ℕ × List ℕ) (old new : List X) → ((i : ℕ) (d : X) → i < length old → IsNodeHeard come_rising (λ from name. answers) plan (place (get_or old i d)).0 (place (get_or old i d)).1 (λ k. delivered_from k (pass (get_or new i d))))
      → length new ≡ length old → (sites : List Site) → ArePlaced sites (map place old) → (i : ℕ) (at : Site) (p : List Receipt) → slice_get sites i ≡ Some at → slice_get (map pass new) i ≡ Some p
      → ((x : X) × (i < length old) × (slice_get old i ≡ Some x) × (get_or old i x ≡ x)) ⊎ ((length old ≤ i) × (slice_get old i ≡ None)) → IsNodeHeard come_rising (λ from name. answers) plan at.node (senders_into sites at) (λ k. delivered_from k p)
  heard_at answers plan place old new each long sites placed i at p there here (inl found) =
      let x : X = found.0 in
      let within : i < length old = found.1 in
      let p_is : pass (get_or new i x) ≡ p = sym (get_or-map pass new i x (pass x) (omega (arith, within, long))) ∙ get_or_from_slice_get (map pass new) i p (pass x) here in
      let is = placed i at (place (get_or old i x)) there (slice_get-get_or (map place old) i (place x) (omega (arith, within, length-map old place)) ∙ ap Some (get_or-map place old i x (place x) within)) in
      subst (λ n. IsNodeHeard come_rising (λ from name. answers) plan n (senders_into sites at) (λ k. delivered_from k p)) is.0
      (subst (λ l. IsNodeHeard come_rising (λ from name. answers) plan (place (get_or old i x)).0 l (λ k. delivered_from k p)) is.1
      (subst (λ q. IsNodeHeard come_rising (λ from name. answers) plan (place (get_or old i x)).0 (place (get_or old i x)).1 (λ k. delivered_from k q)) p_is (each i x within)))
  heard_at answers plan place old new each long sites placed i at p there here (inr past) =
      let lt = slice_get_within (map pass new) i p here in
      let le = past.0 in
      absurd (omega (arith, lt, le, long, length-map new pass))

  -- what was delivered to callers stands in their passes
  pub linked_of : (answers : Delivery → Type 0) (plan : FaultPlan) (place : X → ℕ × List ℕ) (old new : List X) → ((i : ℕ) (d : X) → i < length old → IsNodeHeard come_rising (λ from name. answers) plan (place (get_or old i d)).0 (place (get_or old i d)).1 (λ k. delivered_from k (pass (get_or new i d))))
      → length new ≡ length old → (sites : List Site) → ArePlaced sites (map place old) → AreLinked answers plan sites (map pass new)
  linked_of answers plan place old new each long sites placed = record { each = λ i at p there here. heard_at answers plan place old new each long sites placed i at p there here (slice_get_cases old i).1 }

-- one node more
pub placed_more : {X : Type 0} → (place : X → ℕ × List ℕ) (sites : List Site) (xs xs' : List X) (x : X) (n : ℕ) → ArePlaced sites (map place xs) → length xs ≡ n → xs' ≡ xs ++ x ∷ []
    → ((at : Site) → slice_get sites n ≡ Some at → ((place x).0 ≡ at.node) × ((place x).1 ≡ senders_into sites at)) → ArePlaced sites (map place xs')
placed_more place sites xs xs' x n was long more this =
    subst (ArePlaced sites) (sym (ap (map place) more ∙ map-append place xs (x ∷ []))) (λ i at y there here.
    let within : i < length (map place xs ++ place x ∷ []) = slice_get_within (map place xs ++ place x ∷ []) i y here in
    ⊎_elim
    (λ (is : i ≡ length (map place xs)).
    let y_is : place x ≡ y = sym (get_or-append_seam (map place xs) (place x) [] y) ∙ ap (λ k. get_or (map place xs ++ place x ∷ []) k y) (sym is) ∙ get_or_from_slice_get (map place xs ++ place x ∷ []) i y y here in
    subst (λ z. (z.0 ≡ at.node) × (z.1 ≡ senders_into sites at)) y_is (this at (ap (slice_get sites) (sym (is ∙ length-map xs place ∙ long)) ∙ there)))
    (λ (apart : i ≢ length (map place xs)).
    let front : i < length (map place xs) = omega (arith, apart, within, length-append (map place xs) (place x ∷ [])) in
    was i at y there (slice_get-get_or (map place xs) i y front ∙ ap Some (sym (get_or-append (map place xs) (place x ∷ []) y i front) ∙ get_or_from_slice_get (map place xs ++ place x ∷ []) i y y here)))
    (cases_eq i (length (map place xs))))
