-- Why a call takes what was left.
use Rattle.std.proofs.Common.{◌≡◌, ◌⊎◌, ◌≤◌, ◌∙◌, inl, inr, ℕ, List, [], false, None, Ok, Err, Result, IsErrAnd, sym, ap, subst, arith}
use Rattle.sqlite_disk.specs.Disk.{MoreFaults}
use Rattle.sqlite.specs.Command.TheVariants.{Select}
use Rattle.sqlite.specs.Effect.{Database, RefusesToRead}
use Rattle.sqlite.specs.Listing.{understood, reads_listing}
use Rattle.sqlite.specs.Schema.{Schema}
use Rattle.sqlite.specs.State.{State, HasCleanDisk, Shown}
use Rattle.sqlite.specs.Term.{Term}
use Rattle.sqlite.specs.Tree.{Trees}
use Rattle.sqlite.specs.declared.error.Error.TheVariants.{SqliteFailure}
use Rattle.sqlite.specs.declared.error.ErrorCode.TheVariants.{TypeMismatch}
use Rattle.sqlite.proofs.Callers.{IsPlain, command_of, reads_as}
use Rattle.sqlite_value.specs.declared.keys.Key.{Key}
use Rattle.sql_rows.proofs.Fails.{IsAlone, fails_as, store_fails, refused_by_type}
use Rattle.sql_rows.proofs.Selects.{one_table}
use Rattle.x12_tables.specs.Adopt.{IsAtRest, Finds, Takes, TakesRows}
use Rattle.x12_tables.specs.Fault.{TellsFailure}
use Rattle.x12_tables.specs.declared.fault.TableFault.{TableFault}
use Rattle.x12_tables.specs.declared.fault.TableFault.TheVariants.{Memory}
use Rattle.sqlite.specs.Order.{Row}
use Rattle.sqlite.specs.Program.{overlay}
use Rattle.sqlite.specs.Query.{IsAnswer}
use Rattle.sqlite.specs.declared.types.Value.TheVariants.{Null}

-- The text reads all rows of one table: it is one statement without parameters, of the right types.
pub record ReadsAll (schema : Schema) (tree : ℕ) (shows : List Term) (order : List (Term × Key)) (names : List (List ℕ)) (sql : List ℕ) : Type 0 where
  pub is : (command_of (understood schema sql) ≡ Select (record { lets = []; body = one_table tree [] shows order }) names) × (reads_listing schema sql ≡ false) × IsPlain (understood schema sql)
  pub alone : IsAlone sql (understood schema sql)
  pub typed : (trees : Trees) → ¬ RefusesToRead None (Select (record { lets = []; body = one_table tree [] shows order }) names) (record { schema = schema; trees = trees }) [] (SqliteFailure TypeMismatch)

-- the query fails only for want of memory, or with the device
pub query_fails : (schema : Schema) (tree : ℕ) (shows : List Term) (order : List (Term × Key)) (names : List (List ℕ)) (sql : List ℕ) → ReadsAll schema tree shows order names sql
    → (old new : State) (fault : TableFault) → old.now.schema ≡ schema → IsAtRest old → TellsFailure sql old new fault → (fault ≡ Memory) ⊎ MoreFaults old.faults new.faults
query_fails schema tree shows order names sql a old new fault has ready h =
    let command = Select (record { lets = []; body = one_table tree [] shows order }) names in
    elim (fails_as sql old new schema has command a.is.0 a.is.2 a.alone a.is.1 h.0 h.2) [
      | inl fails ↦ elim (store_fails old new h.0 ready.is_open fails) [ inl memory ↦ inl (rw memory at h.1) | inr faults ↦ inr faults ]
      | inr refuses ↦ absurd (
          let without : RefusesToRead None command old.now [] h.0 = subst (λ limit. RefusesToRead limit command old.now [] h.0) ready.unlimited refuses in
          let by_type = refused_by_type tree shows order old.now h.0 names without in
          let same : old.now ≡ record { schema = schema; trees = old.now.trees } = ap (λ s. record { schema = s; trees = old.now.trees }) has in
          a.typed old.now.trees (subst (λ db. RefusesToRead None command db [] (SqliteFailure TypeMismatch)) same (subst (RefusesToRead None command old.now []) by_type without))
          )
    ]

-- the count of faults of both calls rose, if that of the second did
more_faults : (a b c : ℕ) → a ≤ b → MoreFaults b c → MoreFaults a c
more_faults a b c low more = omega (arith, low, more)

-- a ready store is ready behind a call that found something
ready_then : {A E : Type 0} (C : Database → A → Type 0) (x : A) (a b : State) → Finds {E = E} C (Ok x) a b → HasCleanDisk b → IsAtRest a → IsAtRest b
ready_then C x a b first clean ready = record { is_open = (first.found clean).1.0.is_open; unlimited = first.survives.limit ∙ ready.unlimited }

-- one call, and then another
pub takes_then : {A B E F : Type 0} (C : Database → A → Type 0) (Such Next : Database → Type 0) (memory : F) (x : A) (D : Database → B → Type 0) (r : Result B F) (a b c : State)
    → ((db : Database) → C db x → Such db → Next db) → Finds {E = E} C (Ok x) a b → Finds D r b c → Takes Next memory r b c → Takes Such memory r a c
takes_then C Such Next memory x D (Ok y) a b c on first finds second = record { taken = λ clean ready such. tt }
takes_then C Such Next memory x D (Err e) a b c on first finds second = record {
  taken = λ clean ready such.
      let mid : HasCleanDisk b = omega (arith, finds.survives.clean, clean) in
      let found = first.found mid in
      let next : Next b.now = subst Next (sym found.1.0.now_is) (on a.now found.0 such) in
      elim (second.taken clean (ready_then C x a b first mid ready) next) [ inl lacks ↦ inl lacks | inr more ↦ inr (more_faults a.faults b.faults c.faults first.survives.counts more) ];
}

-- the call failed, and so does what makes it
pub takes_failed : {A B E F : Type 0} (Such Next : Database → Type 0) (memory : E) (other : F) (e : E) (gives : F → Type 0) (r : Result B F) (a b : State) → IsErrAnd r gives → ((f : F) → gives f → e ≡ memory → f ≡ other)
    → (Such a.now → Next a.now) → Takes {A = A} Next memory (Err e) a b → Takes Such other r a b
takes_failed Such Next memory other e gives (Ok y) a b is told on first = absurd is
takes_failed Such Next memory other e gives (Err f) a b is told on first = record {
  taken = λ clean ready such. elim (first.taken clean ready (on such)) [ inl lacks ↦ inl (told f is lacks) | inr more ↦ inr more ];
}

-- what is such is tested
pub takes_tested : {B F : Type 0} (Such : Database → Type 0) (Rows : Type 0) (memory : F) (r : Result B F) (a b : State) → (HasCleanDisk b → Such a.now → Rows) → TakesRows Rows memory r → Takes Such memory r a b
takes_tested Such Rows memory (Ok y) a b on told = record { taken = λ clean ready such. tt }
takes_tested Such Rows memory (Err e) a b on told = record { taken = λ clean ready such. inl (told (on clean such)) }

-- the query failed, and so does what asks it
pub query_taken : {B : Type 0} (Such : Database → Type 0) (schema : Schema) (tree : ℕ) (shows : List Term) (order : List (Term × Key)) (names : List (List ℕ)) (sql : List ℕ) → ReadsAll schema tree shows order names sql
    → (old new : State) (fault : TableFault) (r : Result B TableFault) → IsErrAnd r (λ f. f ≡ fault) → (Such old.now → old.now.schema ≡ schema) → (HasCleanDisk new → old.now.schema ≡ schema → TellsFailure sql old new fault)
    → Takes Such Memory r old new
query_taken Such schema tree shows order names sql a old new fault (Ok y) is has fails = absurd is
query_taken Such schema tree shows order names sql a old new fault (Err f) is has fails = record {
  taken = λ clean ready such. elim (query_fails schema tree shows order names sql a old new fault (has such) ready (fails clean (has such))) [ inl lacks ↦ inl (is ∙ lacks) | inr more ↦ inr more ];
}

-- what is such never comes so far
pub takes_never : {B F : Type 0} (Such : Database → Type 0) (memory : F) (r : Result B F) (a b : State) → (HasCleanDisk b → Such a.now → ⊥) → Takes Such memory r a b
takes_never Such memory (Ok y) a b none = record { taken = λ clean ready such. tt }
takes_never Such memory (Err e) a b none = record { taken = λ clean ready such. absurd (none clean such) }

-- one call, and then another that failed
pub takes_second : {A B E F G H : Type 0} (C : Database → A → Type 0) (Such Next : Database → Type 0) (memory : F) (other : H) (x : A) (D : Database → B → Type 0) (e : F) (gives : H → Type 0) (r : Result G H) (a b c : State)
    → IsErrAnd r gives → ((f : H) → gives f → e ≡ memory → f ≡ other) → ((db : Database) → C db x → Such db → Next db) → Finds {E = E} C (Ok x) a b → Finds D (Err e) b c → Takes {A = B} Next memory (Err e) b c → Takes Such other r a c
takes_second C Such Next memory other x D e gives r a b c is told on first finds second =
    takes_failed Such Such memory other e gives r a c is told (λ such. such) (takes_then C Such Next memory x D (Err e) a b c on first finds second)

-- what the query shows is its answer
pub shown_answer : (schema : Schema) (tree : ℕ) (shows : List Term) (order : List (Term × Key)) (names : List (List ℕ)) (sql : List ℕ) → ReadsAll schema tree shows order names sql
    → (old new : State) → old.now.schema ≡ schema → (rows : List Row) → Shown sql [] old new rows → IsAnswer (one_table tree [] shows order) (overlay old.now.trees []) [] rows
shown_answer schema tree shows order names sql a old new has rows shown =
    (reads_as sql [] old new schema has (Select (record { lets = []; body = one_table tree [] shows order }) names) a.is.0 a.is.2 a.is.1 rows shown).answer Null
