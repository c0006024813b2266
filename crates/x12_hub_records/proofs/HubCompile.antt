-- What the statements on a hub's tables compile to.
use Rattle.std.proofs.Common.{◌≡◌, ℕ, List, [], ◌∷◌, codes, Ok, refl}
use Rattle.sqlite.specs.Command.TheVariants.{Update, Delete, Insert}
use Rattle.sqlite.specs.Source.TheVariants.{Values}
use Rattle.sqlite.specs.Compile.{table_defined_by}
use Rattle.sqlite.specs.Change.{created}
use Rattle.sqlite.specs.Listing.{understood}
use Rattle.sqlite.specs.Term.{Term, col, lit}
use Rattle.sqlite.specs.declared.types.Value.TheVariants.{Null}
use Rattle.sqlite.proofs.Callers.{IsPlain, command_of}
use Rattle.sqlite_tied.specs.Compute.{everything}
use Rattle.sql_rows.proofs.Selects.{one_table}
use Rattle.sql_rows.proofs.Statements.{delete_of}
use Rattle.x12_tables.proofs.KeyLemmas.{is}
use Rattle.x12_tables.specs.Schema.{no_schema}
use Rattle.x12_hub_records.specs.HubSchema.{hubnumber_text, decision_text, mailbox_text, hubnumber, mailbox, directory_text, directory, decision, hub_schema}

pub tables_are : (table_defined_by directory_text ≡ Ok (directory 0)) × (table_defined_by decision_text ≡ Ok (decision 0)) × (table_defined_by mailbox_text ≡ Ok (mailbox 0)) × (table_defined_by hubnumber_text ≡ Ok (hubnumber 0))
unfolding understood everything
tables_are = (refl, refl, refl, refl)

-- the schema is what the four statements make
pub schema_is : created (created (created (created no_schema (directory 0)) (decision 0)) (mailbox 0)) (hubnumber 0) ≡ hub_schema
unfolding understood everything
schema_is = refl

abbrev pub take_text : List ℕ
take_text = codes "DELETE FROM mailbox WHERE item = ?1"

pub take_is : (command_of (understood hub_schema take_text) ≡ Delete 2 (delete_of 4 (is 0 0 ∷ []))) × IsPlain (understood hub_schema take_text)
unfolding understood everything
take_is = (refl, (refl, refl))

abbrev pub put_text : List ℕ
put_text = codes "INSERT INTO mailbox (item, node) VALUES (?1, ?2)"

abbrev pub put_terms : List Term
put_terms = col 0 0 ∷ lit Null ∷ col 0 1 ∷ []

pub put_is : (command_of (understood hub_schema put_text) ≡ Insert 2 (Values put_terms 3)) × IsPlain (understood hub_schema put_text)
unfolding understood everything
put_is = (refl, (refl, refl))

abbrev pub box_text : List ℕ
box_text = codes "INSERT INTO decision (item, node, refusal, bytes) VALUES (?1, ?2, NULL, ?3)"

abbrev pub box_terms : List Term
box_terms = col 0 0 ∷ lit Null ∷ col 0 1 ∷ lit Null ∷ col 0 2 ∷ []

pub box_is : (command_of (understood hub_schema box_text) ≡ Insert 1 (Values box_terms 5)) × IsPlain (understood hub_schema box_text)
unfolding understood everything
box_is = (refl, (refl, refl))

abbrev pub refuse_text : List ℕ
refuse_text = codes "INSERT INTO decision (item, node, refusal, bytes) VALUES (?1, NULL, ?2, ?3)"

abbrev pub refuse_terms : List Term
refuse_terms = col 0 0 ∷ lit Null ∷ lit Null ∷ col 0 1 ∷ col 0 2 ∷ []

pub refuse_is : (command_of (understood hub_schema refuse_text) ≡ Insert 1 (Values refuse_terms 5)) × IsPlain (understood hub_schema refuse_text)
unfolding understood everything
refuse_is = (refl, (refl, refl))

abbrev pub dismiss_text : List ℕ
dismiss_text = codes "DELETE FROM directory WHERE party = ?1"

pub dismiss_is : (command_of (understood hub_schema dismiss_text) ≡ Delete 0 (delete_of 0 (is 2 0 ∷ []))) × IsPlain (understood hub_schema dismiss_text)
unfolding understood everything
dismiss_is = (refl, (refl, refl))

abbrev pub enter_text : List ℕ
enter_text = codes "INSERT INTO directory (at, party, node) VALUES (?1, ?2, ?3)"

abbrev pub enter_terms : List Term
enter_terms = col 0 0 ∷ lit Null ∷ col 0 1 ∷ col 0 2 ∷ []

pub enter_is : (command_of (understood hub_schema enter_text) ≡ Insert 0 (Values enter_terms 4)) × IsPlain (understood hub_schema enter_text)
unfolding understood everything
enter_is = (refl, (refl, refl))

abbrev pub count_text : List ℕ
count_text = codes "UPDATE hubnumber SET icn = ?1, item = ?2"

abbrev pub count_shows : List Term
count_shows = col 1 0 ∷ col 1 0 ∷ lit Null ∷ col 1 2 ∷ col 1 3 ∷ col 0 0 ∷ col 0 1 ∷ []

pub count_is : (command_of (understood hub_schema count_text) ≡ Update 3 (record { lets = []; body = one_table 5 [] count_shows [] })) × IsPlain (understood hub_schema count_text)
unfolding understood everything
count_is = (refl, (refl, refl))
