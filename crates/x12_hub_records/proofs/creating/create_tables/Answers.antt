use Rattle.std.proofs.Common.{[], Ok}
use Rattle.sqlite.specs.declared.error.Error.{Error}
use Rattle.sqlite.specs.Held.{state}
use Rattle.sqlite.specs.Schema.{Schema}
use Rattle.sqlite.specs.State.{State}
use Rattle.sql_rows.specs.Kept.{IsPart}
use Rattle.sql_rows.proofs.Parts.{part_of, part_then}
use Rattle.x12_tables.specs.Schema.{no_schema, HasEmpty}
use Rattle.x12_hub_records.proofs.CreateLemmas.{one_table_schema, two_table_schema, three_table_schema, makes_directory, makes_decision, makes_mailbox, makes_hubnumber}
use Rattle.x12_hub_records.specs.HubSchema.{directory_text, decision_text, mailbox_text, hubnumber_text, hub_schema}
use Rattle.x12_hub_records.proofs.creating.create_tables.Goals as goal

abbrev Grows : Schema → Schema → State → State → Type 0
Grows s t a b = HasEmpty s a.now → HasEmpty t b.now

pub returns-clause-part : goal.returns-clause-part
returns-clause-part g c =
    let s0 = state g.S.Store c.args.tx.now.conn.now in
    let s1 = state g.S.Store c.run.new.tx.conn.now in
    let s2 = state g.S.Store c.run-2.new.tx.conn.now in
    let s3 = state g.S.Store c.run-3.new.tx.conn.now in
    let s4 = state g.S.Store c.run-4.new.tx.conn.now in
    let p1 : IsPart {E = Error} (Grows no_schema one_table_schema) (Ok c.in_ok-run.field-0) s0 s1 = part_of (Grows no_schema one_table_schema) directory_text [] s0 s1 (λ it has. makes_directory s0 s1 it.count it.ran has) (Ok c.in_ok-run.field-0) c.in_ok-run.ensures.ran c.in_ok-run.ensures.keeps c.in_ok-run.ensures.survives in
    let p2 : IsPart {E = Error} (Grows one_table_schema two_table_schema) (Ok c.in_ok-run-2.field-0) s1 s2 = part_of (Grows one_table_schema two_table_schema) decision_text [] s1 s2 (λ it has. makes_decision s1 s2 it.count it.ran has) (Ok c.in_ok-run-2.field-0) c.in_ok-run-2.ensures.ran c.in_ok-run-2.ensures.keeps c.in_ok-run-2.ensures.survives in
    let p3 : IsPart {E = Error} (Grows two_table_schema three_table_schema) (Ok c.in_ok-run-3.field-0) s2 s3 = part_of (Grows two_table_schema three_table_schema) mailbox_text [] s2 s3 (λ it has. makes_mailbox s2 s3 it.count it.ran has) (Ok c.in_ok-run-3.field-0) c.in_ok-run-3.ensures.ran c.in_ok-run-3.ensures.keeps c.in_ok-run-3.ensures.survives in
    let p4 = part_of (Grows three_table_schema hub_schema) hubnumber_text [] s3 s4 (λ it has. makes_hubnumber s3 s4 it.count it.ran has) c.run-4.result c.run-4.ensures.ran c.run-4.ensures.keeps c.run-4.ensures.survives in
    part_then (Grows no_schema one_table_schema) (Grows one_table_schema hub_schema) (Grows no_schema hub_schema) c.in_ok-run.field-0 c.run-4.result s0 s1 s4 (λ f h has. h (f has)) p1
    (part_then (Grows one_table_schema two_table_schema) (Grows two_table_schema hub_schema) (Grows one_table_schema hub_schema) c.in_ok-run-2.field-0 c.run-4.result s1 s2 s4 (λ f h has. h (f has)) p2
    (part_then (Grows two_table_schema three_table_schema) (Grows three_table_schema hub_schema) (Grows two_table_schema hub_schema) c.in_ok-run-3.field-0 c.run-4.result s2 s3 s4 (λ f h has. h (f has)) p3 p4))
