use Rattle.std.proofs.Common.{rules}
use Rattle.std.proofs.lemmas.Fn.{always_returns_same}
use Rattle.x12_inbound.specs.declared.filing.FiledRow.{FiledRow}
use Rattle.x12_inbound.specs.Order.{interchange, interchange_order}
use Rattle.x12_inbound.specs.Filing.{filed_key, filed_row_view}
use Rattle.x12_inbound.proofs.PlaceLemmas.{row_missed, no_such_row}
use Rattle.x12_inbound.proofs.place.interchange_place.Goals as goal

pub returns-in-Ok : goal.returns-in-Ok
returns-in-Ok c =
    let key = interchange c.args.partner.now c.args.icn in
    let by = λ (row : FiledRow). interchange_order (filed_key (filed_row_view row)) key in
    let at = c.in-Ok.ensures.position by (always_returns_same _ _ _ (λ a r f called. search rules)) in
    absurd (no_such_row c.args.rows.now key c.in-Ok.at c.in-Ok.ensures.bound at c.requires.rise c.requires.new)

pub returns-in-Err : goal.returns-in-Err
returns-in-Err c =
    let key = interchange c.args.partner.now c.args.icn in
    let by = λ (row : FiledRow). interchange_order (filed_key (filed_row_view row)) key in
    let at = c.in-Err.ensures.position by (always_returns_same _ _ _ (λ a r f called. search rules)) in
    row_missed c.args.rows.now key c.requires.rise _ c.in-Err.ensures.bound at
