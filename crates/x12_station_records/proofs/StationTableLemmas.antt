-- One table of a station's records changes, and the others stay.
use Rattle.std.proofs.Common.{◌≡◌, ◌==◌, ℕ, List, [], length, refl, sym, subst, inl, inr, arith}
use Rattle.std.specs.List.{enumerate_from, AllByRecursion}
use Rattle.std.proofs.lemmas.Bool.{cases_Bool}
use Rattle.sqlite.specs.Order.{Row}
use Rattle.sqlite.specs.State.{State}
use Rattle.sqlite_rules.specs.Action.{works}
use Rattle.sqlite_schema.specs.declared.schema.Keys.TheVariants.{Enforced}
use Rattle.sql_rows.specs.Keyed.{AreRows}
use Rattle.sql_rows.proofs.Statements.{OnlyTable}
use Rattle.x12_acks.specs.Accepted.{AcceptedSet}
use Rattle.x12_judge.specs.Agreement.{TradingAgreement}
use Rattle.x12_numbers.specs.Book.{Numbers}
use Rattle.x12_station.specs.Stored.{Stored, StoredSubmission, StoredSet, StoredArrival}
use Rattle.x12_station_records.specs.StationNumbers.{newest_version, numbers_kept_of}
use Rattle.x12_station_records.specs.StationSchema.{station_schema, agreement, inbound, numbers, outbound, posting, outset}
use Rattle.x12_station_records.specs.StationTables.{HoldsArrivals, row_of_set, HasTables, HoldsPostings, HoldsSubmissions, HoldsAgreements, IsWideSet, HoldsNumbersRow}

-- no foreign key acts on an edit
pub numbers_is_free : (taken news : List Row) → works station_schema Enforced 0 0 taken news ≡ []
numbers_is_free taken news = elim (cases_Bool (length news == 0)) [ inl none ↦ rw none refl | inr some ↦ rw some refl ]

pub agreement_is_free : (taken news : List Row) → works station_schema Enforced 0 1 taken news ≡ []
agreement_is_free taken news = elim (cases_Bool (length news == 0)) [ inl none ↦ rw none refl | inr some ↦ rw some refl ]

pub outbound_is_free : (taken news : List Row) → works station_schema Enforced 0 3 taken news ≡ []
outbound_is_free taken news = elim (cases_Bool (length news == 0)) [ inl none ↦ rw none refl | inr some ↦ rw some refl ]

pub outset_is_free : (taken news : List Row) → works station_schema Enforced 0 4 taken news ≡ []
outset_is_free taken news = elim (cases_Bool (length news == 0)) [ inl none ↦ rw none refl | inr some ↦ rw some refl ]

pub inbound_is_free : (taken news : List Row) → works station_schema Enforced 0 6 taken news ≡ []
inbound_is_free taken news = elim (cases_Bool (length news == 0)) [ inl none ↦ rw none refl | inr some ↦ rw some refl ]

pub posting_is_free : (taken news : List Row) → works station_schema Enforced 0 8 taken news ≡ []
posting_is_free taken news = elim (cases_Bool (length news == 0)) [ inl none ↦ rw none refl | inr some ↦ rw some refl ]

module _ (next : ℕ) (s : Stored) (old new : State) (has : HasTables next old.now s) where
  pub with_numbers : OnlyTable station_schema (numbers 0) old new → (book : Numbers) (seq : ℕ) → HoldsNumbersRow newest_version (record (numbers_kept_of s) { book = book; seq = seq }) (new.now.trees 0) → HasTables next new.now (record s { book = book; seq = seq })
  with_numbers only book seq holds = record {
    schema = only.schema_is;
    numbers = holds;
    agreements = subst (HoldsAgreements next s.agreements) (sym (only.others.1.0 (λ z. omega (arith, z)))) has.agreements;
    submitted = subst (HoldsSubmissions s.submitted) (sym (only.others.1.1.0 (λ z. omega (arith, z)))) has.submitted;
    sets = subst (AreRows row_of_set (enumerate_from 1 s.sets)) (sym (only.others.1.1.1.0 (λ z. omega (arith, z)))) has.sets;
    wide = has.wide;
    arrived = subst (HoldsArrivals s.arrived) (sym (only.others.1.1.1.1.0 (λ z. omega (arith, z)))) has.arrived;
    postings = subst (HoldsPostings s.postings) (sym (only.others.1.1.1.1.1.0 (λ z. omega (arith, z)))) has.postings;
  }

  pub with_agreements : OnlyTable station_schema (agreement 1) old new → (to : ℕ) (xs : List TradingAgreement) → HoldsAgreements to xs (new.now.trees 1) → HasTables to new.now (record s { agreements = xs })
  with_agreements only to xs holds = record {
    schema = only.schema_is;
    numbers = subst (HoldsNumbersRow newest_version (numbers_kept_of s)) (sym (only.others.0 (λ z. omega (arith, z)))) has.numbers;
    agreements = holds;
    submitted = subst (HoldsSubmissions s.submitted) (sym (only.others.1.1.0 (λ z. omega (arith, z)))) has.submitted;
    sets = subst (AreRows row_of_set (enumerate_from 1 s.sets)) (sym (only.others.1.1.1.0 (λ z. omega (arith, z)))) has.sets;
    wide = has.wide;
    arrived = subst (HoldsArrivals s.arrived) (sym (only.others.1.1.1.1.0 (λ z. omega (arith, z)))) has.arrived;
    postings = subst (HoldsPostings s.postings) (sym (only.others.1.1.1.1.1.0 (λ z. omega (arith, z)))) has.postings;
  }

  pub with_submitted : OnlyTable station_schema (outbound 3) old new → (xs : List StoredSubmission) → HoldsSubmissions xs (new.now.trees 3) → HasTables next new.now (record s { submitted = xs })
  with_submitted only xs holds = record {
    schema = only.schema_is;
    numbers = subst (HoldsNumbersRow newest_version (numbers_kept_of s)) (sym (only.others.0 (λ z. omega (arith, z)))) has.numbers;
    agreements = subst (HoldsAgreements next s.agreements) (sym (only.others.1.0 (λ z. omega (arith, z)))) has.agreements;
    submitted = holds;
    sets = subst (AreRows row_of_set (enumerate_from 1 s.sets)) (sym (only.others.1.1.1.0 (λ z. omega (arith, z)))) has.sets;
    wide = has.wide;
    arrived = subst (HoldsArrivals s.arrived) (sym (only.others.1.1.1.1.0 (λ z. omega (arith, z)))) has.arrived;
    postings = subst (HoldsPostings s.postings) (sym (only.others.1.1.1.1.1.0 (λ z. omega (arith, z)))) has.postings;
  }

  pub with_sets : OnlyTable station_schema (outset 4) old new → (xs : List StoredSet) → AreRows row_of_set (enumerate_from 1 xs) (new.now.trees 4) → AllByRecursion IsWideSet xs → HasTables next new.now (record s { sets = xs })
  with_sets only xs are wide = record {
    schema = only.schema_is;
    numbers = subst (HoldsNumbersRow newest_version (numbers_kept_of s)) (sym (only.others.0 (λ z. omega (arith, z)))) has.numbers;
    agreements = subst (HoldsAgreements next s.agreements) (sym (only.others.1.0 (λ z. omega (arith, z)))) has.agreements;
    submitted = subst (HoldsSubmissions s.submitted) (sym (only.others.1.1.0 (λ z. omega (arith, z)))) has.submitted;
    sets = are;
    wide = wide;
    arrived = subst (HoldsArrivals s.arrived) (sym (only.others.1.1.1.1.0 (λ z. omega (arith, z)))) has.arrived;
    postings = subst (HoldsPostings s.postings) (sym (only.others.1.1.1.1.1.0 (λ z. omega (arith, z)))) has.postings;
  }

  pub with_arrived : OnlyTable station_schema (inbound 6) old new → (xs : List StoredArrival) → HoldsArrivals xs (new.now.trees 6) → HasTables next new.now (record s { arrived = xs })
  with_arrived only xs holds = record {
    schema = only.schema_is;
    numbers = subst (HoldsNumbersRow newest_version (numbers_kept_of s)) (sym (only.others.0 (λ z. omega (arith, z)))) has.numbers;
    agreements = subst (HoldsAgreements next s.agreements) (sym (only.others.1.0 (λ z. omega (arith, z)))) has.agreements;
    submitted = subst (HoldsSubmissions s.submitted) (sym (only.others.1.1.0 (λ z. omega (arith, z)))) has.submitted;
    sets = subst (AreRows row_of_set (enumerate_from 1 s.sets)) (sym (only.others.1.1.1.0 (λ z. omega (arith, z)))) has.sets;
    wide = has.wide;
    arrived = holds;
    postings = subst (HoldsPostings s.postings) (sym (only.others.1.1.1.1.1.0 (λ z. omega (arith, z)))) has.postings;
  }

  pub with_postings : OnlyTable station_schema (posting 8) old new → (xs : List AcceptedSet) → HoldsPostings xs (new.now.trees 8) → HasTables next new.now (record s { postings = xs })
  with_postings only xs holds = record {
    schema = only.schema_is;
    numbers = subst (HoldsNumbersRow newest_version (numbers_kept_of s)) (sym (only.others.0 (λ z. omega (arith, z)))) has.numbers;
    agreements = subst (HoldsAgreements next s.agreements) (sym (only.others.1.0 (λ z. omega (arith, z)))) has.agreements;
    submitted = subst (HoldsSubmissions s.submitted) (sym (only.others.1.1.0 (λ z. omega (arith, z)))) has.submitted;
    sets = subst (AreRows row_of_set (enumerate_from 1 s.sets)) (sym (only.others.1.1.1.0 (λ z. omega (arith, z)))) has.sets;
    wide = has.wide;
    arrived = subst (HoldsArrivals s.arrived) (sym (only.others.1.1.1.1.0 (λ z. omega (arith, z)))) has.arrived;
    postings = holds;
  }
