-- A closed submission is found by its number.
use Rattle.std.proofs.Common.{◌∙◌, ap, sym, not, map}
use Rattle.std.specs.Prelude.{option_and_then}
use Rattle.x12_outbound.specs.Entry.{row_is_open}
use Rattle.x12_station.specs.Memory.{NumberedRow, numbered_row, only_if}
use Rattle.x12_station.proofs.LookUpLemmas.{closed_found}
use Rattle.x12_station.proofs.look_up.closed_of.Goals as goal

pub returns-in-Some : goal.returns-in-Some
returns-in-Some c =
    c.closed.ensures ∙ ap (option_and_then (λ (n : NumberedRow). only_if (λ e. not (row_is_open e)) n.entry)) c.in-Some.ensures
    ∙ sym (closed_found c.args.icn (map numbered_row c.args.rows.now) c.requires)

pub returns-in-None : goal.returns-in-None
returns-in-None c =
    ap (option_and_then (λ (n : NumberedRow). only_if (λ e. not (row_is_open e)) n.entry)) c.in-None.ensures
    ∙ sym (closed_found c.args.icn (map numbered_row c.args.rows.now) c.requires)
