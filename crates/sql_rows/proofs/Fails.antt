-- Why a query fails that has neither parameters nor WHERE.
use Rattle.std.proofs.Common.{◌≡◌, ◌≤◌, ◌⊎◌, ◌∙◌, inl, inr, ℕ, List, [], length, true, false, None, IsTrue, Ok, Err, Result, sym, ap, subst, append-nil}
use Rattle.sqlite.specs.Command.{Command}
use Rattle.sqlite.specs.Command.TheVariants.{Select}
use Rattle.sqlite.specs.Effect.{Database, RefusesToRead}
use Rattle.sqlite.specs.Listing.{understood, reads_listing, IsSourceOf}
use Rattle.sqlite.specs.Schema.{Schema}
use Rattle.sqlite.specs.State.{State, FailsToQuery, IsNotRun, Fails, HasCause, IsNoStatement, store_error}
use Rattle.sqlite.specs.declared.error.Error.{Error}
use Rattle.sqlite_trees.specs.declared.error.StoreError.{StoreError}
use Rattle.sqlite_trees.specs.declared.error.StoreError.TheVariants as cause
use Rattle.sqlite.specs.declared.error.Error.TheVariants.{SqliteFailure}
use Rattle.sqlite.specs.declared.error.ErrorCode.TheVariants.{TypeMismatch}
use Rattle.sqlite.specs.Term.{Term}
use Rattle.sqlite.proofs.Callers.{IsPlain, command_of}
use Rattle.sqlite_resolve.specs.declared.compiled.Compiled.{Compiled}
use Rattle.sqlite_resolve.specs.declared.error.CompileError.{CompileError}
use Rattle.sqlite_value.specs.declared.keys.Key.{Key}
use Rattle.sql_rows.proofs.Selects.{one_table}

-- The text is understood as one statement that has no parameter. `refl` finds this as `IsPlain`.
abbrev pub IsAlone : List ℕ → Result Compiled CompileError → Type 0
IsAlone sql (Ok c) = (length sql ≤ c.tail) × (c.names ≡ [])
IsAlone sql (Err e) = ⊥

module _ (sql : List ℕ) (old new : State) (schema : Schema) (has : old.now.schema ≡ schema) (command : Command) (is : command_of (understood schema sql) ≡ command)
    (plain : IsPlain (understood schema sql)) (alone : IsAlone sql (understood schema sql)) (unlisted : reads_listing schema sql ≡ false) (e : Error) where
  understood_so : understood old.now.schema sql ≡ understood schema sql
  understood_so = ap (λ s. understood s sql) has

  never_no_statement : ¬ IsNoStatement old sql [] e
  never_no_statement (inl h) = subst (IsAlone sql) {x = understood schema sql} (sym understood_so ∙ h.1) alone
  never_no_statement (inr h) =
      let known = sym understood_so ∙ h.1 in
      let one = subst (IsAlone sql) {x = understood schema sql} known alone in
      let bare = subst IsPlain {x = understood schema sql} known plain in
      elim h.2 [
        | inl more ↦ more.0 one.0
        | inr (inl few) ↦ few.0 (ap length (sym one.1))
        | inr (inr clock) ↦ clock.0 bare.1
      ]

  pub fails_as : FailsToQuery sql [] old new e → (Fails old new ⊥ e) ⊎ RefusesToRead old.step_limit command old.now [] e
  unfolding FailsToQuery IsNotRun
  fails_as (inl (inl h)) = absurd (never_no_statement h.0)
  fails_as (inl (inr h)) = inl h
  fails_as (inr h) =
      let known = sym h.1.is ∙ understood_so in
      let bare = subst IsPlain {x = understood schema sql} (sym known) plain in
      let it = rw (bare.0, bare.1, append-nil []) at h.2 in
      let db : it.0 ≡ old.now = subst (λ b. IsSourceOf b old.now it.0) (ap (λ s. reads_listing s sql) has ∙ unlisted) it.1 in
      inr (subst (λ d. RefusesToRead old.step_limit command d [] e) db (subst (λ k. RefusesToRead old.step_limit k it.0 [] e) (ap command_of known ∙ is) it.2))

-- a store that is open fails for want of memory, or with its device
pub store_fails : (old new : State) (e : Error) → IsTrue old.is_open → Fails old new ⊥ e → (e ≡ store_error cause.OutOfMemory) ⊎ HasCause old new ⊥ cause.Io
store_fails old new e is_open h = caused h.0 h.1 h.2
  where
    caused : (why : StoreError) → e ≡ store_error why → HasCause old new ⊥ why → (e ≡ store_error cause.OutOfMemory) ⊎ HasCause old new ⊥ cause.Io
    caused cause.OutOfMemory is has = inl is
    caused cause.Io is has = inr has
    caused cause.Corrupt is has = inr has
    caused cause.Full is has = inr has
    caused cause.Broken is has = absurd (let open1 : old.is_open ≡ true = is_open in cc)
    caused cause.Unstorable is has = absurd has

-- no sum is made over columns alone, and no step is one too many where there is no limit: only types may be wrong
pub refused_by_type : (tree : ℕ) (shows : List Term) (order : List (Term × Key)) (db : Database) (e : Error) (names : List (List ℕ))
    → RefusesToRead None (Select (record { lets = []; body = one_table tree [] shows order }) names) db [] e → e ≡ SqliteFailure TypeMismatch
refused_by_type tree shows order db e names (inl h) = h.0
refused_by_type tree shows order db e names (inr (inl h)) = absurd (elim h.1 [ inl none ↦ none | inr some ↦ some.4 ])
refused_by_type tree shows order db e names (inr (inr h)) = absurd (let some = h.1 in cc)
