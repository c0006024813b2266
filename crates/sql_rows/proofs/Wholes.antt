-- A part of a transaction, and the end of the transaction.
use Rattle.std.proofs.Common.{◌≡◌, ◌∙◌, [], true, false, inl, inr, sym, subst, Result, Ok, Err, OnOk, OnErr, IfErr, IsTrue, arith}
use Rattle.sqlite_trees.specs.declared.store.Store as store
use Rattle.sqlite.specs.Effect.{Database}
use Rattle.sqlite.specs.declared.error.Error.{Error}
use Rattle.sqlite.specs.Held.{Held, state}
use Rattle.sqlite.specs.State.{State, HasCleanDisk, Survives, Shows, KeepsCounts, IsRolledBack}
use Rattle.sqlite.specs.Steps.{FailsToCommit}
use Rattle.sqlite.proofs.Callers.{survives_begin}
use Rattle.sqlite.proofs.StateLemmas.{survives_then}
use Rattle.sql_rows.specs.Kept.{Stays, Wrote, IsPart, Committed, MayBecome, IsWhole}

module _ {S : Type 0} (g : store.Ghosts S) (Change : Database → Database → Type 0) (old : Held S) where
  abbrev begun : State
  begun = state g (record old { in_transaction = true })

  abbrev Seen : State → State → Type 0
  Seen a b = Change a.now b.now

  undone : {A E : Type 0} (r : Result A E) (mid new : State) → HasCleanDisk mid → IsPart Seen r begun mid → IsRolledBack mid new → Stays (state g old) new
  undone r mid new clean part back =
      let keeps = part.keeps clean in
      record {
        was_open = λ o. keeps.was_open (back.was_open o);
        committed = λ o. (back.undone o).1 ∙ keeps.committed (back.was_open o);
        now = λ settled o. (back.undone o).0 ∙ keeps.committed (back.was_open o) ∙ sym settled;
      }

  -- a part failed, and the transaction was dropped
  pub whole_dropped : {A B E F : Type 0} (e : E) (f : F) (mid new : State) → IsPart {A = A} Seen (Err e) begun mid → (HasCleanDisk new → IsRolledBack mid new) → Survives mid new (λ _. ⊥)
      → IsWhole {A = B} Change (Err f) (state g old) new
  whole_dropped {A} {B} {E} {F} e f mid new part back survives = record {
    done = λ clean. tt;
    kept = λ clean. undone {A = A} (Err e) mid new (omega (arith, survives.clean, clean)) part (back clean);
    crash = survives_begin g old new (MayBecome Change (state g old)) (survives_then begun mid new _ _ (MayBecome Change (state g old)) (λ _ db none. absurd none) (λ _ db none. absurd none) part.survives survives);
  }

  -- all parts are done, and the transaction is committed, or that fails
  pub whole_ended : {A B E : Type 0} (x : A) (r : Result B Error) (mid new : State) → IsPart {E = E} Seen (Ok x) begun mid
      → (HasCleanDisk new → OnOk r (IsTrue mid.in_transaction × Shows mid new mid.now mid.now false × KeepsCounts mid new × (new.marks ≡ [])))
      → (HasCleanDisk new → IfErr r (FailsToCommit mid new)) → Survives mid new (λ db. db ≡ mid.now.trees) → IsWhole Change r (state g old) new
  whole_ended {A} {B} {E} x r mid new part ok err survives =
      let mid_clean : HasCleanDisk new → HasCleanDisk mid = λ clean. omega (arith, survives.clean, clean) in
      record {
        done = λ clean. committed r (ok clean) (part.wrote (mid_clean clean));
        kept = λ clean. failed r (err clean) (mid_clean clean);
        crash = survives_begin g old new (MayBecome Change (state g old)) (survives_then begun mid new _ _ (MayBecome Change (state g old)) (λ _ db none. absurd none)
            (λ clean db is. let it = part.wrote (mid_clean clean) in (it.was_open, (mid.now, it.change, is))) part.survives survives);
      }
    where
      committed : (r : Result B Error) → OnOk r (IsTrue mid.in_transaction × Shows mid new mid.now mid.now false × KeepsCounts mid new × (new.marks ≡ [])) → Wrote Seen begun mid → OnOk r (Committed Change (state g old) new)
      committed (Ok y) h it = record {
        was_open = it.was_open;
        is_open = h.1.is_open;
        change = subst (Change (state g old).now) (sym h.1.now_is) it.change;
        settled = h.1.now_is ∙ sym h.1.committed_is;
      }
      committed (Err e) h it = tt

      failed : (r : Result B Error) → IfErr r (FailsToCommit mid new) → HasCleanDisk mid → OnErr r (Stays (state g old) new)
      failed (Ok y) h clean = tt
      failed (Err e) (inl h) clean = undone {A = A} {E = E} (Ok x) mid new clean part h.3
      failed (Err e) (inr h) clean = absurd (let inside = (part.wrote clean).inside in let no = h.1 in let clash = sym inside ∙ no in cc)
