-- What the four CREATE statements make of a database that holds nothing.
use Rattle.std.proofs.Common.{◌≡◌, ℕ, [], Ok, refl, subst}
use Rattle.sqlite.specs.Change.{created}
use Rattle.sqlite.specs.Command.TheVariants.{CreateTable}
use Rattle.sqlite.specs.Listing.{understood}
use Rattle.sqlite.specs.Schema.{Schema}
use Rattle.sqlite.specs.State.{State, Executes}
use Rattle.sqlite.proofs.Callers.{IsPlain, command_of, statement_of}
use Rattle.sqlite_tied.specs.Compute.{everything}
use Rattle.x12_tables.proofs.CreateLemmas.{makes}
use Rattle.x12_tables.specs.Schema.{no_schema, HasEmpty}
use Rattle.x12_hub_records.proofs.HubCompile.{tables_are, schema_is}
use Rattle.x12_hub_records.specs.HubSchema.{directory, decision, mailbox, hubnumber_text, decision_text, mailbox_text, directory_text, hubnumber, hub_schema}

abbrev pub one_table_schema : Schema
one_table_schema = created no_schema (directory 0)

abbrev pub two_table_schema : Schema
two_table_schema = created one_table_schema (decision 0)

abbrev pub three_table_schema : Schema
three_table_schema = created two_table_schema (mailbox 0)

pub creates_are : (command_of (understood no_schema directory_text) ≡ CreateTable) × (command_of (understood one_table_schema decision_text) ≡ CreateTable)
    × (command_of (understood two_table_schema mailbox_text) ≡ CreateTable) × (command_of (understood three_table_schema hubnumber_text) ≡ CreateTable)
unfolding understood everything
creates_are = (refl, refl, refl, refl)

pub creates_plain : IsPlain (understood no_schema directory_text) × IsPlain (understood one_table_schema decision_text)
    × IsPlain (understood two_table_schema mailbox_text) × IsPlain (understood three_table_schema hubnumber_text)
unfolding understood everything
creates_plain = ((refl, refl), (refl, refl), (refl, refl), (refl, refl))

pub creates_whole : (statement_of directory_text (understood no_schema directory_text) ≡ directory_text) × (statement_of decision_text (understood one_table_schema decision_text) ≡ decision_text)
    × (statement_of mailbox_text (understood two_table_schema mailbox_text) ≡ mailbox_text) × (statement_of hubnumber_text (understood three_table_schema hubnumber_text) ≡ hubnumber_text)
unfolding understood everything
creates_whole = (refl, refl, refl, refl)

module _ (a b : State) (count : ℕ) where
  pub makes_directory : Executes directory_text [] a b (Ok count) → HasEmpty no_schema a.now → HasEmpty one_table_schema b.now
  makes_directory h has = makes directory_text no_schema (directory 0) creates_are.0 creates_plain.0 creates_whole.0 tables_are.0 refl a b has count h

  pub makes_decision : Executes decision_text [] a b (Ok count) → HasEmpty one_table_schema a.now → HasEmpty two_table_schema b.now
  makes_decision h has = makes decision_text one_table_schema (decision 0) creates_are.1 creates_plain.1 creates_whole.1 tables_are.1 refl a b has count h

  pub makes_mailbox : Executes mailbox_text [] a b (Ok count) → HasEmpty two_table_schema a.now → HasEmpty three_table_schema b.now
  makes_mailbox h has = makes mailbox_text two_table_schema (mailbox 0) creates_are.2 creates_plain.2 creates_whole.2 tables_are.2 refl a b has count h

  pub makes_hubnumber : Executes hubnumber_text [] a b (Ok count) → HasEmpty three_table_schema a.now → HasEmpty hub_schema b.now
  makes_hubnumber h has = subst (λ s. HasEmpty s b.now) schema_is (makes hubnumber_text three_table_schema (hubnumber 0) creates_are.3 creates_plain.3 creates_whole.3 tables_are.3 refl a b has count h)
