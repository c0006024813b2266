-- Tables of an older version become those of the newest, which stand for the same records.
use Rattle.std.proofs.Common.{◌≡◌, ◌≢◌, ◌⊎◌, ◌≤◌, ◌<◌, ◌∙◌, ℕ, pos, List, [], ◌∷◌, codes, true, false, Ok, Err, IsTrue, Result, inl, inr, refl, sym, ap, subst, arith}
use Rattle.std.specs.List.{enumerate_from}
use Rattle.sqlite.specs.declared.types.Value.TheVariants.{Int, Null}
use Rattle.sqlite.specs.Command.TheVariants.{Update}
use Rattle.sqlite.specs.Effect.{Database}
use Rattle.sqlite.specs.Listing.{understood}
use Rattle.sqlite.specs.Order.{Row}
use Rattle.sqlite.specs.State.{State, Executes, HasCleanDisk, Survives}
use Rattle.sqlite.specs.Term.{Term, col, lit}
use Rattle.sqlite.proofs.Callers.{IsPlain, command_of}
use Rattle.sqlite.proofs.StateLemmas.{survives_then}
use Rattle.sqlite_tied.specs.Compute.{everything}
use Rattle.sql_rows.specs.Keyed.{AreRows}
use Rattle.sql_rows.specs.Kept.{IsWhole, MayBecome, Stays}
use Rattle.sql_rows.proofs.Selects.{one_table}
use Rattle.sql_rows.proofs.Statements.{changes}
use Rattle.x12_envelopes.specs.declared.party.Party.{Party}
use Rattle.x12_station.specs.Stored.{Stored, IsSound}
use Rattle.x12_tables.proofs.FindsLemmas.{stays_then}
use Rattle.x12_tables.specs.Adopt.{Finds}
use Rattle.x12_tables.specs.declared.fault.RecordsFault.{RecordsFault}
use Rattle.x12_tables.specs.declared.fault.RecordsFault.TheVariants.{Memory, OldVersion, OtherParty, Store}
use Rattle.x12_station_records.proofs.StationContentLemmas.{content_is}
use Rattle.x12_station_records.proofs.StationNumberLemmas.{casts}
use Rattle.x12_station_records.proofs.StationTableLemmas.{numbers_is_free}
use Rattle.x12_station_records.specs.StationAdopt.{FindsRecords}
use Rattle.x12_station_records.specs.StationContent.{content_of, IsValid}
use Rattle.x12_station_records.specs.StationMigrate.{AreMigrated, Migrates, Renews}
use Rattle.x12_station_records.specs.StationNumbers.{AreMarked, KeptNumbers, first_version, newest_version, numbers_kept_of, numbers_view}
use Rattle.x12_station_records.specs.StationPlan.{HoldsRows, HoldsRowsOf}
use Rattle.x12_station_records.specs.StationSchema.{numbers, station_schema}
use Rattle.x12_station_records.specs.StationTables.{HasTables, HasTablesOf, HoldsAgreements, HoldsArrivals, HoldsPostings, HoldsSubmissions, numbers_row, row_of_set}
use Rattle.x12_station_records.specs.declared.station_committing.NextRows.{NextRows}
use Rattle.x12_station_records.specs.declared.station_numbers.NumbersRow.{NumbersRow}

abbrev pub renew_text : List ℕ
renew_text = codes "UPDATE numbers SET version = 3, noted = ?1, era = ?2"

abbrev renew_shows : List Term
renew_shows = col 1 0 ∷ col 1 0 ∷ lit Null ∷ lit (Int (pos 3)) ∷ col 1 3 ∷ col 1 4 ∷ col 1 5 ∷ col 1 6 ∷ col 1 7 ∷ col 1 8 ∷ col 1 9 ∷ col 0 0 ∷ col 0 1 ∷ []

renew_is : (command_of (understood station_schema renew_text) ≡ Update 0 (record { lets = []; body = one_table 0 [] renew_shows [] })) × IsPlain (understood station_schema renew_text)
unfolding understood everything
renew_is = (refl, (refl, refl))

-- the row of the newest version with these marks
abbrev renewed : ℕ → ℕ → NumbersRow → NumbersRow
renewed noted era n = record n { version = 3; owner = record n.owner { noted = noted; era = era } }

marks_back : (k : KeptNumbers) (noted era : ℕ) → k.origin.noted ≡ noted → k.origin.era ≡ era → record k { origin = record k.origin { noted = noted; era = era } } ≡ k
marks_back k noted era n e = rw (sym n, sym e) refl

pub renews : (old new : State) (noted era count version next : ℕ) (s : Stored) → s.origin.noted ≡ noted → s.origin.era ≡ era → HasTablesOf version next old.now s → Executes renew_text (Int (pos noted) ∷ Int (pos era) ∷ []) old new (Ok count) → HasTables next new.now s
renews old new noted era count version next s is_noted is_era has h =
    let params : Row = Int (pos noted) ∷ Int (pos era) ∷ [] in
    let m = has.numbers.row in
    let did = changes renew_text params old new station_schema has.schema 0 (numbers 0) refl numbers_is_free renew_is.1 (λ db. refl) numbers_row ((1, m) ∷ []) has.numbers.are
    [] renew_shows (λ n. true) (λ (n : NumbersRow). renewed noted era n) (λ x. refl) (λ x. refl) casts (omega arith) renew_is.0 count h in
    let only = did.1 in
    record {
      schema = only.schema_is;
      numbers = record {
        row = renewed noted era m;
        version_is = refl;
        are = did.0;
        said = ap (λ (k : KeptNumbers). record k { origin = record k.origin { noted = noted; era = era } }) has.numbers.said ∙ marks_back (numbers_kept_of s) noted era is_noted is_era;
        parties = has.numbers.parties;
        book = has.numbers.book;
      };
      agreements = subst (HoldsAgreements next s.agreements) (sym (only.others.1.0 (λ z. omega (arith, z)))) has.agreements;
      submitted = subst (HoldsSubmissions s.submitted) (sym (only.others.1.1.0 (λ z. omega (arith, z)))) has.submitted;
      sets = subst (AreRows row_of_set (enumerate_from 1 s.sets)) (sym (only.others.1.1.1.0 (λ z. omega (arith, z)))) has.sets;
      wide = has.wide;
      arrived = subst (HoldsArrivals s.arrived) (sym (only.others.1.1.1.1.0 (λ z. omega (arith, z)))) has.arrived;
      postings = subst (HoldsPostings s.postings) (sym (only.others.1.1.1.1.1.0 (λ z. omega (arith, z)))) has.postings;
    }

pub renews_rows : (old new : State) (noted era count : ℕ) → Executes renew_text (Int (pos noted) ∷ Int (pos era) ∷ []) old new (Ok count) → Renews noted era old.now new.now
renews_rows old new noted era count ran version next s is_noted is_era holds = record {
  has = renews old new noted era count version next.agreement s is_noted is_era holds.has ran;
  sets = holds.sets;
  postings = holds.postings;
}

module _ {E : Type 0} (party : Party) (hubs : List Party) (x : NextRows × NumbersRow) (old mid : State) (finds : Finds {E = E} (FindsRecords first_version party hubs) (Ok x) old mid) where
  -- nothing was to do
  pub found_newest : x.1.version ≡ newest_version → HasCleanDisk mid → AreMigrated x.1.version party hubs old mid
  found_newest is clean =
      let f = finds.found clean in
      record { is_open = f.1.0.is_open; own = f.0.own; content = ap (λ (d : Database). content_of d.trees) f.1.0.now_is; done = inl (is, f.1.0.now_is) }

  module _ (older : x.1.version ≢ newest_version) (noted era : ℕ) (is_noted : noted ≡ (numbers_view x.1).origin.noted) (is_era : era ≡ (numbers_view x.1).origin.era) where
    -- the rows of the newest version
    rows_of : HasCleanDisk mid → (db : Database) → Renews noted era mid.now db → HoldsRows x.0 db (content_of old.now.trees)
    rows_of clean db renewed =
        let f = finds.found clean in
        let s = content_of old.now.trees in
        let holds = subst (λ (d : Database). HoldsRowsOf x.1.version x.0 d s) (sym f.1.0.now_is) f.0.holds in
        renewed x.1.version x.0 s (ap (λ (k : KeptNumbers). k.origin.noted) f.0.said ∙ sym is_noted) (ap (λ (k : KeptNumbers). k.origin.era) f.0.said ∙ sym is_era) holds

    migrates : HasCleanDisk mid → (db : Database) → Renews noted era mid.now db → Migrates old.now db
    migrates clean db renewed =
        let f = finds.found clean in
        let rows = rows_of clean db renewed in
        record {
          version = x.1.version;
          older = omega (arith, f.0.known.1, older);
          next = x.0;
          held = f.0.holds;
          newest = rows;
          same = content_is x.0.agreement db (content_of old.now.trees) rows.has f.0.sound;
        }

    module _ {A F : Type 0} (r : Result A F) (new : State) (whole : IsWhole (Renews noted era) r mid new) where
      was_clean : HasCleanDisk new → HasCleanDisk mid
      was_clean clean = omega (arith, whole.crash.clean, clean)

      pub crash_migrates : Survives old new (MayBecome Migrates old)
      crash_migrates = survives_then old mid new (λ _. ⊥) (MayBecome (Renews noted era) mid) (MayBecome Migrates old) (λ clean db none. absurd none)
          (λ clean db may. let mid_clean = was_clean clean in let f = finds.found mid_clean in (f.1.0.was_open, (may.1.0, migrates mid_clean may.1.0 may.1.1, may.1.2))) finds.survives whole.crash

    module _ {A F : Type 0} (y : A) (new : State) (whole : IsWhole {E = F} (Renews noted era) (Ok y) mid new) where
      at_mid : HasCleanDisk new → HasCleanDisk mid
      at_mid clean = omega (arith, whole.crash.clean, clean)

      pub found_older : HasCleanDisk new → AreMigrated x.1.version party hubs old new
      found_older clean =
          let f = finds.found (at_mid clean) in
          let done = migrates (at_mid clean) new.now (whole.done clean).change in
          record { is_open = (whole.done clean).is_open; own = f.0.own; content = done.same; done = inr (omega (arith, f.0.known.1, older), done) }

      pub valid_newer : new.in_transaction ≡ false → (IsTrue new.is_open → HasCleanDisk new) → IsValid x.0 new
      valid_newer outside law =
          let same : IsTrue new.is_open → content_of old.now.trees ≡ content_of new.now.trees = λ o. sym (migrates (at_mid (law o)) new.now (whole.done (law o)).change).same in
          record {
            outside = outside;
            settled = λ o. (whole.done (law o)).settled;
            holds = λ o. subst (HoldsRows x.0 new.now) (same o) (rows_of (at_mid (law o)) new.now (whole.done (law o)).change);
            sound = λ o. subst IsSound (same o) (finds.found (at_mid (law o))).0.sound;
            marked = λ o. subst (λ (s : Stored). AreMarked (numbers_kept_of s)) (same o) (finds.found (at_mid (law o))).0.marked;
          }

    module _ {A F : Type 0} (e : F) (new : State) (whole : IsWhole {A = A} (Renews noted era) (Err e) mid new) where
      pub back_again : HasCleanDisk new → Stays old new
      back_again clean = stays_then old mid new (finds.stays (omega (arith, whole.crash.clean, clean))) (whole.kept clean)

-- a transaction that failed says nothing of a version or of a party
abbrev IsOfWriting : RecordsFault → Type 0
IsOfWriting fault = (fault ≡ Memory) ⊎ (fault ≡ Store)

pub writing_not_old : {B : Type 0} (fault : RecordsFault) (was : ℕ) → IsOfWriting fault → ◌≡◌ {A = Result B RecordsFault} (Err fault) (Err (OldVersion was)) → ⊥
writing_not_old fault was (inl memory) same = absurd (let clash = rw memory at same in cc)
writing_not_old fault was (inr store) same = absurd (let clash = rw store at same in cc)

pub writing_names_none : {B : Type 0} (fault : RecordsFault) (found wanted : Party) → IsOfWriting fault → ◌≡◌ {A = Result B RecordsFault} (Err fault) (Err (OtherParty found wanted)) → ⊥
writing_names_none fault found wanted (inl memory) same = absurd (let clash = rw memory at same in cc)
writing_names_none fault found wanted (inr store) same = absurd (let clash = rw store at same in cc)
