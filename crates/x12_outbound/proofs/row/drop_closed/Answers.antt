use Rattle.std.proofs.Common.{◌∙◌, ap, map, rules, of_calls}
use Rattle.std.proofs.lemmas.List.Elements.{filter_from_retain}
use Rattle.x12_outbound.specs.declared.row.Row.{Row}
use Rattle.x12_outbound.specs.Entry.{entry_row, row_is_open}
use Rattle.x12_outbound.specs.Ledger.{row_view}
use Rattle.x12_outbound.proofs.ScheduledLemmas.{filter_view}
use Rattle.x12_outbound.proofs.row.drop_closed.Goals as goal

-- the closure tells whether a row is open
pub returns : goal.returns
returns c =
    ap (map row_view) (filter_from_retain _ (λ (r : Row). row_is_open (entry_row r.entry)) (λ f r b g called. search (rules, of_calls)) _ c.args.rows.now.items c.retain.new.self.items c.retain.ensures.filtered)
    ∙ filter_view row_view (λ r. row_is_open r.interchange) c.args.rows.now.items
