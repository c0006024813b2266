-- What questions to records leave, one behind the other, and what they answer.
use Rattle.std.proofs.Common.{◌≡◌, ◌∙◌, false, inl, inr, sym, subst, IsTrue, arith, Result, Ok, Err, IfOk, OnOk}
use Rattle.sqlite_trees.proofs.Doubt.{no_doubt, clean_of}
use Rattle.sqlite.specs.State.{State, HasCleanDisk, Survives}
use Rattle.sqlite.specs.Tree.{Trees}
use Rattle.sql_rows.specs.Kept.{Stays}
use Rattle.x12_profile.specs.Stop.{OnlyAsks}
use Rattle.x12_tables.specs.Read.{OnlyReads, Answers, IsToldAs}

pub only_reads : (old new : State) → (HasCleanDisk new → Stays old new) → (old.in_transaction ≡ false → new.in_transaction ≡ false)
    → Survives old new (λ _. ⊥) → (IsTrue new.is_open → HasCleanDisk new) → OnlyReads old new
only_reads old new stays mode survives law = record {
  mode = mode;
  never_won_back = λ o. (stays (law o)).was_open o;
  committed = λ o. (stays (law o)).committed o;
  same = λ settled o. (stays (law o)).now settled o;
  clean = λ c. clean_of old.is_clean (omega (arith, no_doubt new.is_clean c, survives.clean));
  crash = λ clean db left. elim (survives.crash (no_doubt new.is_clean clean) db left) [ inl before ↦ before | inr none ↦ absurd none ];
}

pub then_reads : (a b c : State) → OnlyReads a b → OnlyReads b c → OnlyReads a c
then_reads a b c p q = record {
  mode = λ m. q.mode (p.mode m);
  never_won_back = λ o. p.never_won_back (q.never_won_back o);
  committed = λ o. q.committed o ∙ p.committed (q.never_won_back o);
  same = λ settled o.
      let mid = q.never_won_back o in
      let first = p.same settled mid in
      q.same (first ∙ settled ∙ sym (p.committed mid)) o ∙ first;
  clean = λ c. p.clean (q.clean c);
  crash = λ clean db left. p.crash (q.clean clean) db (q.crash clean db left);
}

-- an answer that is made of what was read
pub answers_with : {A E : Type 0} (Valid : State → Type 0) (Fits : Trees → A → Type 0) (P : A → Type 0) (r : Result A E) (old new : State)
    → OnlyReads old new → (IsTrue new.is_clean → IsTrue new.is_open) → IfOk r P
    → (Valid old → IsTrue new.is_open → (x : A) → P x → Fits old.now.trees x) → Answers Valid Fits r old new
answers_with Valid Fits P (Ok x) old new reads answered told fits = record { reads = reads; answered = answered; found = λ valid o. fits valid o x told }
answers_with Valid Fits P (Err e) old new reads answered told fits = record { reads = reads; answered = λ c. tt; found = λ valid o. tt }

-- an answer that is made of another one
pub answers_made : {A B E F : Type 0} (Valid : State → Type 0) (P : Trees → A → Type 0) (Q : Trees → B → Type 0) (x : A) (y : B) (old new : State)
    → Answers {E = E} Valid P (Ok x) old new → (Valid old → IsTrue new.is_open → P old.now.trees x → Q old.now.trees y) → Answers {E = F} Valid Q (Ok y) old new
answers_made Valid P Q x y old new answers made = record { reads = answers.reads; answered = answers.answered; found = λ valid o. made valid o (answers.found valid o) }

-- what a node is told of an answer
pub told_found : {A E F : Type 0} (P : A → Type 0) (r : Result A E) (told : Result A F) → IsToldAs r told → IfOk r P → IfOk told P
told_found P (Ok x) told is h = subst (λ t. IfOk t P) (sym is) h
told_found P (Err e) (Ok x) is h = absurd is
told_found P (Err e) (Err f) is h = tt

told_on : {A E F : Type 0} (P : Type 0) (r : Result A E) (told : Result A F) → IsToldAs r told → OnOk r P → OnOk told P
told_on P (Ok x) told is h = subst (λ t. OnOk t P) (sym is) h
told_on P (Err e) (Ok x) is h = absurd is
told_on P (Err e) (Err f) is h = tt

pub told_asks : {A E F D : Type 0} (Valid : State → Type 0) (Fits : Trees → A → Type 0) (of : Trees → D) (r : Result A E) (told : Result A F) (old new : State)
    → IsToldAs r told → Answers Valid Fits r old new
    → OnlyAsks told old.is_clean new.is_clean new.is_open (λ d. (db : Trees) × old.may_leave db × (d ≡ of db)) (λ d. (db : Trees) × new.may_leave db × (d ≡ of db))
told_asks Valid Fits of r told old new is answers = record {
  was_clean = answers.reads.clean;
  answered = λ clean. told_on (IsTrue new.is_open) r told is (answers.answered clean);
  left = λ clean d left. (left.0, answers.reads.crash clean left.0 left.1, left.2);
}
