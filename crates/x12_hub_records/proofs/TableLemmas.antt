-- One table of a hub's records changes, and the others stay.
use Rattle.std.proofs.Common.{◌≡◌, ◌==◌, ℕ, List, [], map, length, refl, sym, subst, inl, inr, arith}
use Rattle.std.specs.List.{AllByRecursion, enumerate_from}
use Rattle.std.proofs.lemmas.Bool.{cases_Bool}
use Rattle.sqlite.specs.Order.{Row}
use Rattle.sqlite.specs.State.{State}
use Rattle.sqlite_rules.specs.Action.{works}
use Rattle.sqlite_schema.specs.declared.schema.Keys.TheVariants.{Enforced}
use Rattle.sql_rows.specs.Keyed.{AreRows}
use Rattle.sql_rows.proofs.Statements.{OnlyTable}
use Rattle.x12_hub.specs.Hub.{Decision, Mailbox}
use Rattle.x12_hub.specs.Stored.{HubStored, WaitingItem}
use Rattle.x12_hub_records.specs.HubSchema.{hub_schema, hubnumber, mailbox, directory, decision}
use Rattle.x12_hub_records.specs.HubTables.{decision_row, HoldsHubNumbers, IsWideOutcome, waiting_row, HasHubTables, HoldsDirectory, waiting_pair, hub_numbers_of}

-- no foreign key acts on an edit
pub mailbox_is_free : (taken news : List Row) → works hub_schema Enforced 0 4 taken news ≡ []
mailbox_is_free taken news = elim (cases_Bool (length news == 0)) [ inl none ↦ rw none refl | inr some ↦ rw some refl ]

pub decision_is_free : (taken news : List Row) → works hub_schema Enforced 0 2 taken news ≡ []
decision_is_free taken news = elim (cases_Bool (length news == 0)) [ inl none ↦ rw none refl | inr some ↦ rw some refl ]

pub hubnumber_is_free : (taken news : List Row) → works hub_schema Enforced 0 5 taken news ≡ []
hubnumber_is_free taken news = elim (cases_Bool (length news == 0)) [ inl none ↦ rw none refl | inr some ↦ rw some refl ]

pub directory_is_free : (taken news : List Row) → works hub_schema Enforced 0 0 taken news ≡ []
directory_is_free taken news = elim (cases_Bool (length news == 0)) [ inl none ↦ rw none refl | inr some ↦ rw some refl ]

module _ (last : ℕ) (s : HubStored) (old new : State) (has : HasHubTables last old.now s) where
  pub with_waiting : OnlyTable hub_schema (mailbox 4) old new → (ws : List WaitingItem) → AreRows waiting_row (map waiting_pair ws) (new.now.trees 4) → HasHubTables last new.now (record s { waiting = ws })
  with_waiting only ws are = record {
    schema = only.schema_is;
    directory = subst (HoldsDirectory last s.directory) (sym (only.others.0 (λ z. omega (arith, z)))) has.directory;
    decisions = subst (AreRows decision_row (enumerate_from 1 s.decisions)) (sym (only.others.1.0 (λ z. omega (arith, z)))) has.decisions;
    boxed = has.boxed;
    waiting = are;
    numbers = subst (HoldsHubNumbers (hub_numbers_of s)) (sym (only.others.1.1.1.0 (λ z. omega (arith, z)))) has.numbers;
  }

  pub with_decisions : OnlyTable hub_schema (decision 2) old new → (ds : List Decision) → AreRows decision_row (enumerate_from 1 ds) (new.now.trees 2) → AllByRecursion (λ d. IsWideOutcome d.outcome) ds → HasHubTables last new.now (record s { decisions = ds })
  with_decisions only ds are wide = record {
    schema = only.schema_is;
    directory = subst (HoldsDirectory last s.directory) (sym (only.others.0 (λ z. omega (arith, z)))) has.directory;
    decisions = are;
    boxed = wide;
    waiting = subst (AreRows waiting_row (map waiting_pair s.waiting)) (sym (only.others.1.1.0 (λ z. omega (arith, z)))) has.waiting;
    numbers = subst (HoldsHubNumbers (hub_numbers_of s)) (sym (only.others.1.1.1.0 (λ z. omega (arith, z)))) has.numbers;
  }

  pub with_numbers : OnlyTable hub_schema (hubnumber 5) old new → (icn item : ℕ) → HoldsHubNumbers (record (hub_numbers_of s) { icn = icn; item = item }) (new.now.trees 5) → HasHubTables last new.now (record s { icn = icn; item = item })
  with_numbers only icn item holds = record {
    schema = only.schema_is;
    directory = subst (HoldsDirectory last s.directory) (sym (only.others.0 (λ z. omega (arith, z)))) has.directory;
    decisions = subst (AreRows decision_row (enumerate_from 1 s.decisions)) (sym (only.others.1.0 (λ z. omega (arith, z)))) has.decisions;
    boxed = has.boxed;
    waiting = subst (AreRows waiting_row (map waiting_pair s.waiting)) (sym (only.others.1.1.0 (λ z. omega (arith, z)))) has.waiting;
    numbers = holds;
  }

  pub with_directory : OnlyTable hub_schema (directory 0) old new → (next : ℕ) (ms : List Mailbox) → HoldsDirectory next ms (new.now.trees 0) → HasHubTables next new.now (record s { directory = ms })
  with_directory only next ms holds = record {
    schema = only.schema_is;
    directory = holds;
    decisions = subst (AreRows decision_row (enumerate_from 1 s.decisions)) (sym (only.others.1.0 (λ z. omega (arith, z)))) has.decisions;
    boxed = has.boxed;
    waiting = subst (AreRows waiting_row (map waiting_pair s.waiting)) (sym (only.others.1.1.0 (λ z. omega (arith, z)))) has.waiting;
    numbers = subst (HoldsHubNumbers (hub_numbers_of s)) (sym (only.others.1.1.1.0 (λ z. omega (arith, z)))) has.numbers;
  }
