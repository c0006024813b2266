use Rattle.std.proofs.Common.{[], Ok}
use Rattle.sqlite.specs.declared.error.Error.{Error}
use Rattle.sqlite.specs.Held.{state}
use Rattle.sqlite.specs.Schema.{Schema}
use Rattle.sqlite.specs.State.{State}
use Rattle.sql_rows.specs.Kept.{IsPart}
use Rattle.sql_rows.proofs.Parts.{part_of, part_then}
use Rattle.x12_tables.specs.Schema.{HasEmpty}
use Rattle.x12_station_records.proofs.StationCreateLemmas.{five, makes_inbound, makes_posting, makes_group, makes_fate, makes_seq}
use Rattle.x12_station_records.specs.StationCreate.{outbound_schema}
use Rattle.x12_station_records.specs.StationSchema.{inbound_text, posting_text, outset_group_text, outset_fate_text, outbound_seq_text, station_tables, grouped_tables, fated_tables, station_schema}
use Rattle.x12_station_records.proofs.station_creating.create_inbound.Goals as goal

abbrev Grows : Schema → Schema → State → State → Type 0
Grows s t old new = HasEmpty s old.now → HasEmpty t new.now

pub returns-clause-part : goal.returns-clause-part
returns-clause-part g c =
    let s0 = state g.S.Store c.args.tx.now.conn.now in
    let s1 = state g.S.Store c.run.new.tx.conn.now in
    let s2 = state g.S.Store c.run-2.new.tx.conn.now in
    let s3 = state g.S.Store c.run-3.new.tx.conn.now in
    let p1 : IsPart {E = Error} (Grows outbound_schema five) (Ok c.in_ok-run.field-0) s0 s1 = part_of (Grows outbound_schema five) inbound_text [] s0 s1 (λ it has. makes_inbound s0 s1 it.count it.ran has) (Ok c.in_ok-run.field-0) c.in_ok-run.ensures.ran c.in_ok-run.ensures.keeps c.in_ok-run.ensures.survives in
    let p2 : IsPart {E = Error} (Grows five station_tables) (Ok c.in_ok-run-2.field-0) s1 s2 = part_of (Grows five station_tables) posting_text [] s1 s2 (λ it has. makes_posting s1 s2 it.count it.ran has) (Ok c.in_ok-run-2.field-0) c.in_ok-run-2.ensures.ran c.in_ok-run-2.ensures.keeps c.in_ok-run-2.ensures.survives in
    let s4 = state g.S.Store c.run-4.new.tx.conn.now in
    let p3 : IsPart {E = Error} (Grows station_tables grouped_tables) (Ok c.in_ok-run-3.field-0) s2 s3 = part_of (Grows station_tables grouped_tables) outset_group_text [] s2 s3 (λ it has. makes_group s2 s3 it.count it.ran has) (Ok c.in_ok-run-3.field-0) c.in_ok-run-3.ensures.ran c.in_ok-run-3.ensures.keeps c.in_ok-run-3.ensures.survives in
    let s5 = state g.S.Store c.run-5.new.tx.conn.now in
    let p4 : IsPart {E = Error} (Grows grouped_tables fated_tables) (Ok c.in_ok-run-4.field-0) s3 s4 = part_of (Grows grouped_tables fated_tables) outset_fate_text [] s3 s4 (λ it has. makes_fate s3 s4 it.count it.ran has) (Ok c.in_ok-run-4.field-0) c.in_ok-run-4.ensures.ran c.in_ok-run-4.ensures.keeps c.in_ok-run-4.ensures.survives in
    let p5 = part_of (Grows fated_tables station_schema) outbound_seq_text [] s4 s5 (λ it has. makes_seq s4 s5 it.count it.ran has) c.run-5.result c.run-5.ensures.ran c.run-5.ensures.keeps c.run-5.ensures.survives in
    let last = part_then (Grows grouped_tables fated_tables) (Grows fated_tables station_schema) (Grows grouped_tables station_schema) c.in_ok-run-4.field-0 c.run-5.result s3 s4 s5 (λ f h has. h (f has)) p4 p5 in
    let more = part_then (Grows station_tables grouped_tables) (Grows grouped_tables station_schema) (Grows station_tables station_schema) c.in_ok-run-3.field-0 c.run-5.result s2 s3 s5 (λ f h has. h (f has)) p3 last in
    part_then (Grows outbound_schema five) (Grows five station_schema) (Grows outbound_schema station_schema) c.in_ok-run.field-0 c.run-5.result s0 s1 s5 (λ f h has. h (f has)) p1 (part_then (Grows five station_tables) (Grows station_tables station_schema) (Grows five station_schema) c.in_ok-run-2.field-0 c.run-5.result s1 s2 s5 (λ f h has. h (f has)) p2 more)
