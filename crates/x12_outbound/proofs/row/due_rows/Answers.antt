use Rattle.std.proofs.Common.{ℕ, Vec, Global, List, [], ◌∷◌, ◌++◌, map, ap, ap₂, sym, ◌∙◌}
use Rattle.std.proofs.lemmas.List.{map-append}
use Rattle.std.specs.Arc.{arc_slice_items}
use Rattle.std.specs.declared.sync.ArcSlice.{ArcSlice}
use Rattle.x12_outbound.specs.Ledger.{LedgerRow, row_view, row_is_due}
use Rattle.x12_outbound.proofs.LoopLemmas.{filter_yes, filter_no}
use Rattle.x12_outbound.proofs.row.due_rows.Goals as goal
use Rattle.x12_outbound.proofs.row.due_rows.Goals.{then-is_due+in_ok-clone+in_ok-push, else-is_due}

-- the next row is listed if it is due
pub loop-row-preserved : goal.loop-row-preserved
loop-row-preserved c =
    let p = row_is_due c.args.now in
    let bytes = λ (r : LedgerRow). r.interchange.bytes in
    let items = λ (v : Vec (ArcSlice ℕ Global) Global). map arc_slice_items v.items in
    let row = c.row-item.result in
    elim c.if-is_due.branch [
      | then-is_due+in_ok-clone+in_ok-push w ↦
          let more = filter_yes row_view p c.args.rows.now c.loop-row.row-index row c.loop-row-test.true c.row-item.is (sym c.is_due.ensures ∙ w.if-is_due.true) in
          ap items w.due-is ∙ ap (map arc_slice_items) w.in_ok-push.ensures.items
          ∙ map-append arc_slice_items c.loop-row.due.items (w.in_ok-clone.field-0 ∷ [])
          ∙ ap₂ (λ (due : List (List ℕ)) (b : List ℕ). due ++ b ∷ []) c.loop-row.invariant w.in_ok-clone.ensures.cases
          ∙ sym (ap (map bytes) more ∙ map-append bytes _ _)
      | else-is_due w ↦
          let same = filter_no row_view p c.args.rows.now c.loop-row.row-index row c.loop-row-test.true c.row-item.is (sym c.is_due.ensures ∙ w.if-is_due.false) in
          ap items w.due-is ∙ c.loop-row.invariant ∙ sym (ap (map bytes) same)
    ]
