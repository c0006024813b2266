-- The groups of the submission of the number were written over.
use Rattle.std.proofs.Common.{ap, sym, ◌∙◌, map, set, arith}
use Rattle.std.proofs.lemmas.List.{map-set, length-map, get_or-map}
use Rattle.x12_acks.specs.Key.{key_view}
use Rattle.x12_outbound.specs.Entry.{SetRow}
use Rattle.x12_station.specs.Memory.{numbered_row}
use Rattle.x12_station.proofs.SubmissionLemmas.{numbered_written, settled_at, settled_none}
use Rattle.x12_station.proofs.submissions.settle_row.Goals as goal

pub returns-in-Some : goal.returns-in-Some
returns-in-Some c =
    let found = c.in-Some.ensures.found in
    let rows = c.args.rows.now in
    let at = c.in-Some.index in
    let row = c.index-rows-index.result in
    let key = key_view c.args.key.now in
    let f = λ (s : SetRow). record s { fate = c.args.fate } in
    map-set numbered_row rows at _
    ∙ ap (set (map numbered_row rows) at) (numbered_written _ row _ _ f key.group key.set c.index-rows-index.is c.deref_mut.ensures.value c.settle_group.auto.groups c.settle_group.ensures)
    ∙ sym (settled_at (key, c.args.fate) (map numbered_row rows) at (numbered_row row) c.requires
    (omega (arith, length-map rows numbered_row, found.0))
    (ap numbered_row c.index-rows-index.is ∙ sym (get_or-map numbered_row rows at row (numbered_row row) found.0))
    (rw c.index-rows-index.is (found.1 row)))

pub returns-in_default : goal.returns-in_default
returns-in_default c = sym (settled_none (key_view c.args.key.now, c.args.fate) _ c.in_default.ensures.none)
