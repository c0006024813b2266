use Rattle.std.proofs.Common.{rules, sym}
use Rattle.std.proofs.lemmas.Fn.{always_returns_same}
use Rattle.x12_inbound.specs.declared.filing.FiledRow.{FiledRow}
use Rattle.x12_inbound.specs.Order.{interchange, interchange_order}
use Rattle.x12_inbound.specs.Filing.{filed_key, filed_row_view}
use Rattle.x12_inbound.proofs.PlaceLemmas.{row_is, no_row}
use Rattle.x12_inbound.proofs.place.row_at.Goals as goal

pub returns-in-Ok : goal.returns-in-Ok
returns-in-Ok c =
    let key = interchange c.args.partner.now c.args.icn in
    let by = λ (row : FiledRow). interchange_order (filed_key (filed_row_view row)) key in
    let at = c.in-Ok.ensures.position by (always_returns_same _ _ _ (λ a r f called. search rules)) in
    row_is c.args.rows.now c.args.partner.now c.args.icn c.requires c.in-Ok.at c.in-Ok.ensures.bound at c.index-rows-at.result c.index-rows-at.is

pub returns-in-Err : goal.returns-in-Err
returns-in-Err c =
    let key = interchange c.args.partner.now c.args.icn in
    let by = λ (row : FiledRow). interchange_order (filed_key (filed_row_view row)) key in
    let at = c.in-Err.ensures.position by (always_returns_same _ _ _ (λ a r f called. search rules)) in
    sym (no_row c.args.rows.now key c.requires _ c.in-Err.ensures.bound at)
