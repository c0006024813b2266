use Rattle.std.proofs.Common.{◌∙◌, ◌++◌, sym, ap, map}
use Rattle.std.specs.Prelude.{option_map}
use Rattle.sqlite.specs.Held.{state}
use Rattle.x12_outbound.specs.Entry.{entry_row}
use Rattle.x12_station_records.proofs.ReadLemmas.{no_reads}
use Rattle.x12_station_records.proofs.StationOpenLemmas.{loaded_before_test, taken_next, on_ok}
use Rattle.x12_station_records.specs.StationContent.{content_of}
use Rattle.x12_station_records.proofs.station_loading.load_next.Goals as goal

pub returns-then-is_loaded-clause-reads : goal.returns-then-is_loaded-clause-reads
returns-then-is_loaded-clause-reads g c = no_reads (state g.S.Store c.args.conn.now)

pub returns-then-is_loaded-clause-next : goal.returns-then-is_loaded-clause-next
returns-then-is_loaded-clause-next g c has is_open ns =
    let s = content_of (state g.S.Store c.args.conn.now).now.trees in
    ap (λ es. map entry_row c.args.opened.now.entries.items ++ es) (loaded_before_test s c.args.opened.now.icn c.args.icn ns (sym c.is_loaded.ensures ∙ c.if-is_loaded.true))

pub take_in-requires-clause-fit : goal.take_in-requires-clause-fit
take_in-requires-clause-fit g c = rw c.in-Some.is at c.in_ok-found.ensures.fit

pub returns-in-Some-clause-next : goal.returns-in-Some-clause-next
returns-in-Some-clause-next g c has is_open =
    let s = content_of (state g.S.Store c.args.conn.now).now.trees in
    let number = rw c.in-Some.is at c.in_ok-found.ensures.number in
    let found = sym (ap (option_map entry_row) c.in-Some.is) ∙ c.in_ok-found.ensures.answers.found has is_open in
    on_ok c.take_in.result (λ pushed ns. taken_next s c.args.opened.now c.take_in.new.opened (entry_row c.in-Some.entry) c.args.icn ns pushed (sym c.is_loaded.ensures ∙ c.if-is_loaded.false) number found) c.take_in.ensures.pushed
