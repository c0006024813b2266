-- The parts of a transaction, one behind the other.
use Rattle.std.proofs.Common.{◌∙◌, ℕ, List, Result, Ok, Err, OnOk, IsErrAnd, arith}
use Rattle.sqlite.specs.Order.{Row}
use Rattle.sqlite.specs.State.{State, HasCleanDisk, KeepsCommit, Survives}
use Rattle.sqlite.proofs.StateLemmas.{survives_then}
use Rattle.sql_rows.specs.Kept.{RanInside, IsPart}

-- what one statement changes
pub part_of : {A E : Type 0} (Change : State → State → Type 0) (sql : List ℕ) (params : Row) (old new : State) → (RanInside sql params old new → Change old new) → (r : Result A E)
    → (HasCleanDisk new → OnOk r (RanInside sql params old new)) → (HasCleanDisk new → KeepsCommit old new) → Survives old new (λ _. ⊥) → IsPart Change r old new
part_of Change sql params old new change (Ok a) ran keeps survives = record {
  wrote = λ clean. let it = ran clean in record { change = change it; inside = it.inside; was_open = it.was_open; is_open = it.is_open };
  keeps = keeps;
  survives = survives;
}
part_of Change sql params old new change (Err e) ran keeps survives = record { wrote = λ clean. tt; keeps = keeps; survives = survives }

-- a part that failed, as a part of any other
pub part_failed : {A B E F : Type 0} (C D : State → State → Type 0) (e : E) (f : F) (old new : State) → IsPart {A = A} C (Err e) old new → IsPart {A = B} D (Err f) old new
part_failed C D e f old new h = record { wrote = λ clean. tt; keeps = h.keeps; survives = h.survives }

pub keeps_both : (a b c : State) → KeepsCommit a b → KeepsCommit b c → KeepsCommit a c
keeps_both a b c h k = record { was_open = λ o. h.was_open (k.was_open o); committed = λ o. k.committed o ∙ h.committed (k.was_open o) }

-- one part, and then another
pub part_then : {A B E F : Type 0} (C D G : State → State → Type 0) (x : A) (r : Result B E) (a b c : State) → (C a b → D b c → G a c) → IsPart {E = F} C (Ok x) a b → IsPart D r b c → IsPart G r a c
part_then C D G x (Ok y) a b c join first second = record {
  wrote = λ clean. let mid : HasCleanDisk b = omega (arith, second.survives.clean, clean) in let one = first.wrote mid in let two = second.wrote clean in
      record { change = join one.change two.change; inside = two.inside; was_open = one.was_open; is_open = two.is_open };
  keeps = λ clean. keeps_both a b c (first.keeps (omega (arith, second.survives.clean, clean))) (second.keeps clean);
  survives = survives_then a b c _ _ (λ _. ⊥) (λ _ db none. none) (λ _ db none. none) first.survives second.survives;
}
part_then C D G x (Err e) a b c join first second = record {
  wrote = λ clean. tt;
  keeps = λ clean. keeps_both a b c (first.keeps (omega (arith, second.survives.clean, clean))) (second.keeps clean);
  survives = survives_then a b c _ _ (λ _. ⊥) (λ _ db none. none) (λ _ db none. none) first.survives second.survives;
}

-- a part that says less
pub part_weaker : {A E : Type 0} (C D : State → State → Type 0) (r : Result A E) (a b : State) → (C a b → D a b) → IsPart C r a b → IsPart D r a b
part_weaker C D (Ok x) a b less h = record {
  wrote = λ clean. let it = h.wrote clean in record { change = less it.change; inside = it.inside; was_open = it.was_open; is_open = it.is_open };
  keeps = h.keeps;
  survives = h.survives;
}
part_weaker C D (Err e) a b less h = record { wrote = λ clean. tt; keeps = h.keeps; survives = h.survives }

-- a part that failed, handed on by `?`
pub part_refused : {A B E F : Type 0} (C D : State → State → Type 0) (e : E) (P : F → Type 0) (r : Result B F) (a b : State) → IsErrAnd r P → IsPart {A = A} C (Err e) a b → IsPart D r a b
part_refused C D e P (Ok x) a b is h = absurd is
part_refused C D e P (Err f) a b is h = part_failed C D e f a b h
