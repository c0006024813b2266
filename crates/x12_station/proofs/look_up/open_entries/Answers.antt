-- The next submission is copied if it is open.
use Rattle.std.proofs.Common.{◌∙◌, ap, sym, map, filter, take, ◌++◌, ◌∷◌, [], List, Vec, Global, arith}
use Rattle.std.proofs.lemmas.List.{map-append, take_all, length-map}
use Rattle.x12_outbound.specs.declared.entry.Entry.{Entry}
use Rattle.x12_outbound.specs.Entry.{InterchangeRow, entry_row, row_is_open}
use Rattle.x12_outbound.proofs.LoopLemmas.{filter_yes, filter_no}
use Rattle.x12_station.specs.declared.submissions.NumberedEntry.{NumberedEntry}
use Rattle.x12_station.proofs.LookUpLemmas.{entries_are}
use Rattle.x12_station.proofs.look_up.open_entries.Goals as goal
use Rattle.x12_station.proofs.look_up.open_entries.Goals.{then-is_open+in_ok-copied+in_ok-push, else-is_open}

pub loop-row-preserved : goal.loop-row-preserved
loop-row-preserved c =
    let entry = λ (n : NumberedEntry). entry_row n.entry in
    let items = λ (v : Vec Entry Global). map entry_row v.items in
    let row = c.row-item.result in
    elim c.if-is_open.branch [
      | then-is_open+in_ok-copied+in_ok-push w ↦
          ap items w.entries-is ∙ ap (map entry_row) w.in_ok-push.ensures.items
          ∙ map-append entry_row c.loop-row.entries.items (w.in_ok-copied.field-0 ∷ [])
          ∙ ap (λ (es : List InterchangeRow). es ++ entry_row w.in_ok-copied.field-0 ∷ []) c.loop-row.invariant
          ∙ ap (λ (e : InterchangeRow). filter row_is_open (take c.loop-row.row-index (map entry c.args.rows.now)) ++ e ∷ []) w.in_ok-copied.ensures
          ∙ sym (filter_yes entry row_is_open c.args.rows.now c.loop-row.row-index row c.loop-row-test.true c.row-item.is (sym c.is_open.ensures ∙ w.if-is_open.true))
      | else-is_open w ↦
          ap items w.entries-is ∙ c.loop-row.invariant
          ∙ sym (filter_no entry row_is_open c.args.rows.now c.loop-row.row-index row c.loop-row-test.true c.row-item.is (sym c.is_open.ensures ∙ w.if-is_open.false))
    ]

pub returns : goal.returns
returns c =
    let entry = λ (n : NumberedEntry). entry_row n.entry in
    c.loop-row.invariant
    ∙ ap (filter row_is_open) (take_all c.loop-row.row-index (map entry c.args.rows.now) (omega (arith, length-map c.args.rows.now entry, c.loop-row-test.false)) ∙ entries_are c.args.rows.now)
