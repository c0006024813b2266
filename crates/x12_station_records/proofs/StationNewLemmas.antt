-- What a transaction leaves that makes new records of a station: they are sound, and hold nothing.
use Rattle.std.proofs.Common.{◌≡◌, arith, List, false, sym, subst, Ok, IsTrue}
use Rattle.sqlite.specs.State.{State, HasCleanDisk}
use Rattle.sql_rows.specs.Kept.{IsWhole}
use Rattle.x12_envelopes.specs.declared.party.Party.{Party}
use Rattle.x12_station.specs.Stored.{IsSound, Stored, origin_of}
use Rattle.x12_station.proofs.NothingLemmas.{nothing_is_sound}
use Rattle.x12_tables.specs.Schema.{no_schema}
use Rattle.x12_station_records.proofs.StationContentLemmas.{content_is}
use Rattle.x12_station_records.specs.StationContent.{content_of, IsValid}
use Rattle.x12_station_records.specs.StationCreate.{NewRecords, first_rows, new_records}
use Rattle.x12_station_records.specs.StationNumbers.{AreMarked, numbers_kept_of}
use Rattle.x12_station_records.specs.StationPlan.{HoldsRows}

module _ {A E : Type 0} (x : A) (party : Party) (hubs : List Party) (old new : State) (empty : old.now.schema ≡ no_schema) (w : IsWhole {E = E} (NewRecords party hubs) (Ok x) old new) (law : IsTrue new.is_open → HasCleanDisk new) where
  founded : IsTrue new.is_open → HoldsRows first_rows new.now (new_records party hubs)
  founded o = (w.done (law o)).change (record { schema_is = empty; empty = tt })

  pub holds_nothing : IsTrue new.is_open → content_of new.now.trees ≡ new_records party hubs
  holds_nothing o = content_is 1 new.now (new_records party hubs) (founded o).has (nothing_is_sound (origin_of party hubs))

  pub valid_new : new.in_transaction ≡ false → IsValid first_rows new
  valid_new outside = record {
    outside = outside;
    settled = λ o. (w.done (law o)).settled;
    holds = λ o. subst (HoldsRows first_rows new.now) (sym (holds_nothing o)) (founded o);
    marked = λ o. subst (λ (s : Stored). AreMarked (numbers_kept_of s)) (sym (holds_nothing o)) (record { noted = omega arith; era = omega arith });
    sound = λ o. subst IsSound (sym (holds_nothing o)) (nothing_is_sound (origin_of party hubs));
  }
