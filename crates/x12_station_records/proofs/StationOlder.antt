-- Tables of an older version are refused as such, and no others are.
use Rattle.std.proofs.Common.{◌≡◌, ◌⊎◌, ◌∙◌, ℕ, List, [], ◌∷◌, map, Ok, Err, Result, IsErr, IsErrAnd, IfErr, inl, inr, sym, ap, subst, refl, IsPermutation}
use Rattle.std.proofs.lemmas.List.Sorted.{IsPermutation-sym}
use Rattle.sqlite.specs.declared.types.Value.TheVariants.{Null}
use Rattle.sqlite.specs.Order.{Row}
use Rattle.sqlite.specs.Program.{overlay}
use Rattle.sqlite.specs.State.{State, HasCleanDisk, Shown}
use Rattle.sqlite.proofs.Callers.{one_permutation, reads_as}
use Rattle.x12_envelopes.specs.declared.party.Party.{Party}
use Rattle.x12_tables.proofs.AllRows.{read_rows}
use Rattle.x12_tables.proofs.TakesLemmas.{query_fails}
use Rattle.x12_tables.specs.Adopt.{RefusesOlder, Takes}
use Rattle.x12_tables.specs.Fault.{IsOldVersion, TellsFailure, fault_of_table, fault_of_rows}
use Rattle.x12_tables.specs.OneRow.{IsOfOlder}
use Rattle.x12_tables.specs.declared.fault.RecordsFault.{RecordsFault}
use Rattle.x12_tables.specs.declared.fault.RecordsFault.TheVariants.{Memory, OldVersion, OtherParty, Store}
use Rattle.x12_tables.specs.declared.fault.TableFault.{TableFault}
use Rattle.x12_tables.specs.declared.fault.TableFault.TheVariants as table
use Rattle.x12_station_records.proofs.StationAdoptReads.{numbers_reads}
use Rattle.x12_station_records.proofs.StationKeptRows.{show_numbers}
use Rattle.x12_station_records.proofs.StationNumberLemmas.{numbers_shows, numbers_text, numbers_is, numbers_names, numbers_command}
use Rattle.x12_station_records.specs.StationSchema.{station_schema}
use Rattle.x12_station_records.specs.StationTaken.{HoldsOlder, HoldsStationOf, RefusesLeft}

-- The row that the query shows is the one of the table.
module _ (oldest version : ℕ) (old new : State) (has : old.now.schema ≡ station_schema) (rows : List Row) (shown : Shown numbers_text [] old new rows) where
  pub older_found : IsOfOlder oldest version rows → HoldsOlder oldest version old.now
  older_found are =
      let got = reads_as numbers_text [] old new station_schema has numbers_command numbers_is.0 numbers_is.2 numbers_is.1 rows shown in
      let all = read_rows 0 numbers_shows [] (overlay old.now.trees []) rows (got.answer Null) in
      found all.0 all.1 (subst (IsOfOlder oldest version) all.2 are)
    where
      found : (rs : List Row) → IsPermutation (old.now.trees 0) rs → IsOfOlder oldest version (map show_numbers rs) → HoldsOlder oldest version old.now
      found [] moved are = absurd are
      found (r ∷ []) moved are = record { schema = has; row = r; one = one_permutation r (old.now.trees 0) (IsPermutation-sym (old.now.trees 0) (r ∷ []) moved); version_is = are.0; older = (are.1, are.2) }
      found (r ∷ s ∷ rs) moved are = absurd are

  pub older_shown : HoldsOlder oldest version old.now → IsOfOlder oldest version rows
  older_shown o =
      let got = reads_as numbers_text [] old new station_schema has numbers_command numbers_is.0 numbers_is.2 numbers_is.1 rows shown in
      let all = read_rows 0 numbers_shows [] (overlay old.now.trees []) rows (got.answer Null) in
      let one : all.0 ≡ o.row ∷ [] = one_permutation o.row all.0 (subst (λ tree. IsPermutation tree all.0) o.one all.1) in
      let exact : rows ≡ show_numbers o.row ∷ [] = all.2 ∙ ap (map show_numbers) one in
      subst (IsOfOlder oldest version) (sym exact) (o.version_is, o.older.0, o.older.1)

pub told_old : {B : Type 0} (was : ℕ) (r : Result B TableFault) (more : Type 0) → IsErrAnd r (IsOldVersion was) → IsErrAnd r (λ e. (e ≡ table.OldVersion was) ⊎ (e ≡ table.Memory) ⊎ more)
told_old was (Ok x) more h = absurd h
told_old was (Err e) more h = elim h [ inl old ↦ inl old | inr memory ↦ inr (inl memory) ]

same_fault : {B E : Type 0} (e f : E) → ◌≡◌ {A = Result B E} (Err e) (Err f) → e ≡ f
same_fault e f same = cc

-- the query failed
pub older_asked : {A B : Type 0} (oldest : ℕ) (old new : State) (fault : TableFault) (r : Result B TableFault) → IsErrAnd r (λ f. f ≡ fault) → ((was : ℕ) → ◌≡◌ {A = Result A TableFault} (Err fault) (Err (table.OldVersion was)) → ⊥)
    → (HasCleanDisk new → old.now.schema ≡ station_schema → TellsFailure numbers_text old new fault) → RefusesOlder (HoldsOlder oldest) table.OldVersion table.Memory r old new
older_asked oldest old new fault (Ok y) is known fails = absurd is
older_asked oldest old new fault (Err f) is known fails = record {
  only = λ clean was same. absurd (known was (ap Err (sym is ∙ same_fault f (table.OldVersion was) same)));
  older = λ clean ready was o. inr (elim (query_fails station_schema 0 numbers_shows [] numbers_names numbers_text numbers_reads old new fault o.schema ready (fails clean o.schema)) [ inl memory ↦ inl (is ∙ memory) | inr more ↦ inr more ]);
}

old_by : (was : ℕ) (e : TableFault) → fault_of_table e ≡ OldVersion was → e ≡ table.OldVersion was
old_by was table.NotOurs h = absurd cc
old_by was (table.OldVersion n) h = let same : n ≡ was = cc in ap table.OldVersion same
old_by was table.Store h = absurd cc
old_by was table.Memory h = absurd cc

-- it fails, and so does what asks it
pub older_failed : {A B : Type 0} (oldest : ℕ) (e : TableFault) (r : Result B RecordsFault) (a b : State) → IsErrAnd r (λ f. f ≡ fault_of_table e) → RefusesOlder {A = A} (HoldsOlder oldest) table.OldVersion table.Memory (Err e) a b → RefusesOlder (HoldsOlder oldest) OldVersion Memory r a b
older_failed oldest e (Ok y) a b is first = absurd is
older_failed oldest e (Err f) a b is first = record {
  only = λ clean was same. first.only clean was (ap Err (old_by was e (sym is ∙ same_fault f (OldVersion was) same)));
  older = λ clean ready was o. elim (first.older clean ready was o) [
    | inl old ↦ inl (is ∙ ap fault_of_table old)
    | inr (inl memory) ↦ inr (inl (is ∙ ap fault_of_table memory))
    | inr (inr more) ↦ inr (inr more)
  ];
}

-- what goes on behind it isn't of an older version
pub older_behind : {A B E : Type 0} (oldest : ℕ) (o : ℕ → E) (m : E) (x : A) (r : Result B RecordsFault) (a b c : State) → RefusesOlder (HoldsOlder oldest) o m (Ok x) a b → (HasCleanDisk c → HasCleanDisk b) → ((was : ℕ) → r ≡ Err (OldVersion was) → ⊥) → RefusesOlder (HoldsOlder oldest) OldVersion Memory r a c
older_behind oldest o m x r a b c first mid known = record {
  only = λ clean was is. absurd (known was is);
  older = λ clean ready was h. absurd (first.older (mid clean) ready was h);
}

pub never_old : {B : Type 0} (x : B) (was : ℕ) → ◌≡◌ {A = Result B RecordsFault} (Ok x) (Err (OldVersion was)) → ⊥
never_old x was same = absurd cc

-- a fault that is passed on
pub passed_on : {A B : Type 0} (e : RecordsFault) (r : Result B RecordsFault) → IsErrAnd r (λ f. f ≡ e) → ((was : ℕ) → ◌≡◌ {A = Result A RecordsFault} (Err e) (Err (OldVersion was)) → ⊥) → (was : ℕ) → r ≡ Err (OldVersion was) → ⊥
passed_on e (Ok x) is known was same = is
passed_on e (Err f) is known was same = known was (ap Err (sym is ∙ same_fault f (OldVersion was) same))

-- a row out of form is none of the version
pub store_not_old : {A B : Type 0} (e : RecordsFault) (r : Result B RecordsFault) → IsErrAnd r (λ f. f ≡ e) → ◌≡◌ {A = Result A RecordsFault} (Err e) (Err Store) → (was : ℕ) → r ≡ Err (OldVersion was) → ⊥
store_not_old e (Ok x) is fault was same = is
store_not_old e (Err f) is fault was same = absurd (let clash = sym (sym is ∙ same_fault f (OldVersion was) same) ∙ same_fault e Store fault in cc)

-- a fault of other rows is none of the version, and names no party
pub rows_not_old : {B : Type 0} (e : TableFault) (f : RecordsFault) → f ≡ fault_of_rows e → (was : ℕ) → ◌≡◌ {A = Result B RecordsFault} (Err f) (Err (OldVersion was)) → ⊥
rows_not_old e f is was same = by e (sym is ∙ same_fault f (OldVersion was) same)
  where
    by : (e : TableFault) → fault_of_rows e ≡ OldVersion was → ⊥
    by table.NotOurs h = absurd cc
    by (table.OldVersion n) h = absurd cc
    by table.Store h = absurd cc
    by table.Memory h = absurd cc

pub rows_name_none : {B : Type 0} (e : TableFault) (f : RecordsFault) (found wanted : Party) → f ≡ fault_of_rows e → ◌≡◌ {A = Result B RecordsFault} (Err f) (Err (OtherParty found wanted)) → ⊥
rows_name_none e f found wanted is same = by e (sym is ∙ same_fault f (OtherParty found wanted) same)
  where
    by : (e : TableFault) → fault_of_rows e ≡ OtherParty found wanted → ⊥
    by table.NotOurs h = absurd cc
    by (table.OldVersion n) h = absurd cc
    by table.Store h = absurd cc
    by table.Memory h = absurd cc

-- what was left is taken, or refused for a cause
pub left_refused : {B : Type 0} (oldest : ℕ) (party : Party) (hubs : List Party) (r : Result B RecordsFault) (old new : State) → Takes (HoldsStationOf oldest party hubs) Memory r old new → RefusesOlder (HoldsOlder oldest) OldVersion Memory r old new → HasCleanDisk new
    → IfErr r (λ e. RefusesLeft oldest party hubs e old new)
left_refused oldest party hubs (Ok x) old new takes refuses clean = tt
left_refused oldest party hubs (Err e) old new takes refuses clean = record {
  own = λ left. takes.taken clean left.ready left.holds;
  older = λ was left. refuses.older clean left.ready was left.holds;
}

pub refused_so : {B E : Type 0} (r : Result B E) (P : E → Type 0) → IsErrAnd r P → IsErr r
refused_so (Ok x) P h = absurd h
refused_so (Err e) P h = refl

-- the same fault, behind the same call
pub older_on : {A B : Type 0} (oldest : ℕ) (e : RecordsFault) (r : Result B RecordsFault) (a b : State) → IsErrAnd r (λ f. f ≡ e) → RefusesOlder {A = A} (HoldsOlder oldest) OldVersion Memory (Err e) a b → RefusesOlder (HoldsOlder oldest) OldVersion Memory r a b
older_on oldest e (Ok y) a b is first = absurd is
older_on oldest e (Err f) a b is first = record {
  only = λ clean was same. first.only clean was (ap Err (sym is ∙ same_fault f (OldVersion was) same));
  older = λ clean ready was o. elim (first.older clean ready was o) [
    | inl old ↦ inl (is ∙ old)
    | inr (inl memory) ↦ inr (inl (is ∙ memory))
    | inr (inr more) ↦ inr (inr more)
  ];
}
