-- A part of a transaction that tells a value, and the end of the transaction.
use Rattle.std.proofs.Common.{Result, Ok, Err, IsErrAnd}
use Rattle.sqlite.proofs.StateLemmas.{survives_weaker}
use Rattle.sqlite.specs.Effect.{Database}
use Rattle.sqlite.specs.State.{State}
use Rattle.sql_rows.specs.Kept.{IsPart, MayBecome, IsWhole}
use Rattle.x12_tables.specs.Change.{ChangesSeen}
use Rattle.x12_station_records.specs.StationPlan.{IsWholeWith, IsPartWith}

module _ {A : Type 0} (C : A → Database → Database → Type 0) (old new : State) where
  abbrev Told : Database → Database → Type 0
  Told from to = (x : A) × C x from to

  -- a part that was done, as one that tells no value
  pub part_told : {E : Type 0} (x : A) → IsPartWith {E = E} (λ y. ChangesSeen (C y)) (Ok x) old new → IsPart {E = E} (ChangesSeen (C x)) (Ok x) old new
  part_told x h = record { wrote = h.wrote; keeps = h.keeps; survives = h.survives }

  -- what was committed tells a value
  pub whole_told : {B E F : Type 0} (x : A) (y : B) → IsWhole {E = E} (C x) (Ok y) old new → IsWholeWith {E = F} C (Ok x) old new
  whole_told x y h = record {
    done = h.done;
    kept = λ clean. tt;
    crash = survives_weaker old new (MayBecome (C x) old) (MayBecome Told old) (λ clean db may. (may.0, (may.1.0, (x, may.1.1), may.1.2))) h.crash;
  }

  -- what failed tells none, where `?` hands the error on
  pub whole_handed : {B E F : Type 0} (x : A) (e : E) (P : F → Type 0) (r : Result A F) → IsErrAnd r P → IsWhole {A = B} (C x) (Err e) old new → IsWholeWith C r old new
  whole_handed x e P (Ok y) is h = absurd is
  whole_handed x e P (Err f) is h = record {
    done = λ clean. tt;
    kept = h.kept;
    crash = survives_weaker old new (MayBecome (C x) old) (MayBecome Told old) (λ clean db may. (may.0, (may.1.0, (x, may.1.1), may.1.2))) h.crash;
  }
