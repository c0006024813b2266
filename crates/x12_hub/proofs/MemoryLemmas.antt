-- What records in memory hold, after a change and when they are asked.
use Rattle.std.proofs.Common.{ℕ, zero, suc, ◌≡◌, ◌∙◌, ◌-◌, ◌≤◌, ap, sym, subst, refl, Bool, true, false, cond, List, [], ◌∷◌, ◌++◌, map, arith, inl, inr, Option, Some, None, Vec}
use Rattle.std.specs.Prelude.{filter, not, bytes_eq, option_map, slice_get}
use Rattle.std.specs.Global.{Global}
use Rattle.std.specs.Map.{lookup}
use Rattle.indexmap.specs.IndexMap.{insert_entry}
use Rattle.x12_envelopes.specs.declared.party.Party.{Party}
use Rattle.x12_judge.specs.Agreement.{is_same_party}
use Rattle.x12_hub.specs.declared.decision.Decision.{Decision as CodeDecision}
use Rattle.x12_hub.specs.Hub.{HubOutcome, decided, entries_of_others}
use Rattle.x12_hub.specs.Record.{decision_view, mailbox_view}
use Rattle.x12_hub.specs.Memory.{decided_view}
use Rattle.x12_hub.specs.DecidesOnce.{AreOnce}
use Rattle.x12_hub.specs.Stored.{HubStored, IsSoundHub, bytes_at}
use Rattle.x12_hub.specs.Plan.{HubCommit, Decides, hub_changed, hub_stored_after}
use Rattle.x12_hub.proofs.DecisionLemmas.{other_way, new_from_once}
use Rattle.x12_numbers.proofs.Shelf.{bytes_eq_tells, bytes_eq_itself}

-- the entries of others, by what they stand for
pub others_are : (party : Party) (es : List (Party × ℕ)) → map mailbox_view (filter (λ e. not (is_same_party e.0 party)) es) ≡ entries_of_others party (map mailbox_view es)
others_are party [] = refl
others_are party (e ∷ es) = by (is_same_party e.0 party) (others_are party es)
  where
    by : (t : Bool) → map mailbox_view (filter (λ e. not (is_same_party e.0 party)) es) ≡ entries_of_others party (map mailbox_view es) → map mailbox_view (cond (not t) (e ∷ filter (λ e. not (is_same_party e.0 party)) es) (filter (λ e. not (is_same_party e.0 party)) es)) ≡ cond (not t) (mailbox_view e ∷ entries_of_others party (map mailbox_view es)) (entries_of_others party (map mailbox_view es))
    by true rest = rest
    by false rest = ap (λ ms. mailbox_view e ∷ ms) rest

module _ (eq : Vec ℕ Global → Vec ℕ Global → Bool) (is : (a b : Vec ℕ Global) → eq a b ≡ bytes_eq a.items b.items) where
  -- a decision on new bytes joins at the end
  pub pushed_is : (es : List (Vec ℕ Global × CodeDecision)) (k : Vec ℕ Global) (v : CodeDecision) → decided (map decided_view es) k.items ≡ None → map decided_view (insert_entry eq es k v) ≡ map decided_view es ++ decided_view (k, v) ∷ []
  pushed_is [] k v none = refl
  pushed_is (e ∷ es) k v none = elim (bytes_eq_tells e.0.items k.items) [
    | inl same ↦ let found : Some (decision_view e.1) ≡ None = rw (same.0) at none in absurd cc
    | inr apart ↦ rw (is k e.0, other_way e.0.items k.items apart.0) (ap (λ xs. decided_view e ∷ xs) (pushed_is es k v (rw (apart.0) at none)))
  ]

-- a decision is found under its bytes
pub found_is : (es : List (Vec ℕ Global × CodeDecision)) (b : List ℕ) → option_map decision_view (lookup (λ k. bytes_eq b k.items) es) ≡ decided (map decided_view es) b
found_is [] b = refl
found_is (e ∷ es) b = elim (bytes_eq_tells e.0.items b) [
  | inl same ↦ rw (same.0, turned b e.0.items (sym same.1)) refl
  | inr apart ↦ rw (apart.0, other_way e.0.items b apart.0) (found_is es b)
]
  where
    turned : (x y : List ℕ) → x ≡ y → bytes_eq x y ≡ true
    turned x y e = subst (λ z. bytes_eq x z ≡ true) e (bytes_eq_itself x)

-- what the map finds, or doesn't
pub some_found : (es : List (Vec ℕ Global × CodeDecision)) (b : List ℕ) (d : CodeDecision) (o : HubOutcome) → lookup (λ k. bytes_eq b k.items) es ≡ Some d → o ≡ decision_view d → Some o ≡ decided (map decided_view es) b
some_found es b d o e is = ap Some is ∙ sym (ap (option_map decision_view) e) ∙ found_is es b

pub none_found : (es : List (Vec ℕ Global × CodeDecision)) (b : List ℕ) → lookup (λ k. bytes_eq b k.items) es ≡ None → None ≡ decided (map decided_view es) b
none_found es b e = sym (ap (option_map decision_view) e) ∙ found_is es b

-- a first decision that keeps the records sound is on new bytes
pub first_is_new : (plan : HubCommit) (s : HubStored) (b : List ℕ) (o : HubOutcome) → plan.change ≡ Decides b o → IsSoundHub (hub_stored_after plan s) → decided s.decisions b ≡ None
first_is_new plan s b o e sound = new_from_once s.decisions b o (subst (λ ch. AreOnce (hub_changed ch s).decisions) e sound.once)

-- the bytes of the decision at a place
pub body_at : (es : List (Vec ℕ Global × CodeDecision)) (n : ℕ) → option_map (λ e. e.0.items) (slice_get es n) ≡ option_map (λ d. d.body) (slice_get (map decided_view es) n)
body_at [] n = refl
body_at (e ∷ es) zero = refl
body_at (e ∷ es) (suc n) = body_at es n

-- the bytes under an item number, by its place
pub bytes_is : (es : List (Vec ℕ Global × CodeDecision)) (item place : ℕ) (o : Option (Vec ℕ Global × CodeDecision)) → 1 ≤ item → place ≡ item - 1 → slice_get es place ≡ o → option_map (λ e. e.0.items) o ≡ bytes_at (map decided_view es) item
bytes_is es zero place o some at e = absurd (omega arith)
bytes_is es (suc n) place o some at e =
    let is : place ≡ n = omega (arith, at) in
    ap (option_map (λ e. e.0.items)) (sym e) ∙ ap (λ k. option_map (λ e. e.0.items) (slice_get es k)) is ∙ body_at es n
