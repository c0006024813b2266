-- Deeds behind one another.
use native.Mathlib.Omega.{arith}
use Rattle.std.proofs.Common.{◌+◌, ◌<◌, ◌≡◌, ◌∙◌, ◌++◌, ◌∷◌, [], Err, List, None, Ok, OnErr, Option, Result, Some, ap, append-nil, append_assoc, drop, get_or, length, subst, suc, sym, take, ℕ}
use Rattle.std.proofs.Math.Seq.{drop-cons}
use Rattle.std.proofs.lemmas.List.{take-append-drop}
use Rattle.x12_spool.specs.Deed.{Deed, AddsDeeds}

pub adds_none : (old : Option (List Deed)) → AddsDeeds old old []
adds_none None = tt
adds_none (Some was) = ap Some (sym (append-nil was))

pub adds_on : (a b c : Option (List Deed)) (xs ys : List Deed) → AddsDeeds a b xs → AddsDeeds b c ys → AddsDeeds a c (xs ++ ys)
adds_on None b c xs ys one two = tt
adds_on (Some was) b c xs ys one two = subst (λ m. AddsDeeds m c ys) one two ∙ ap Some (append_assoc was xs ys)

pub adds_same : (a b c : Option (List Deed)) (xs : List Deed) → AddsDeeds a b xs → AddsDeeds b c [] → AddsDeeds a c xs
adds_same a b c xs one two = subst (AddsDeeds a c) (append-nil xs) (adds_on a b c xs [] one two)

-- what an error's clause says holds whatever the error is
pub err_holds : {A E P : Type 0} → P → (r : Result A E) → OnErr r P
err_holds p (Ok x) = tt
err_holds p (Err e) = p

pub one_on : (i : ℕ) → suc i ≡ i + 1
one_on i = omega arith

-- a list by one of its places
pub parted : {X : Type 0} (xs : List X) (i : ℕ) (d : X) → i < length xs → xs ≡ take i xs ++ get_or xs i d ∷ drop (i + 1) xs
parted xs i d within = sym (take-append-drop i xs) ∙ ap (λ ys. take i xs ++ ys) (subst (λ k. drop i xs ≡ get_or xs i d ∷ drop k xs) (one_on i) (drop-cons xs i d within))
