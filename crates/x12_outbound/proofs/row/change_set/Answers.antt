use Rattle.x12_outbound.specs.Entry.{set_row}
use Rattle.x12_outbound.specs.Ledger.{set_row_changed}
use Rattle.x12_outbound.proofs.PlaceLemmas.{with_place_map}
use Rattle.x12_outbound.proofs.row.change_set.Goals as goal

pub returns-in-Some : goal.returns-in-Some
returns-in-Some c = with_place_map set_row (set_row_changed c.args.change) _ _ _ _ _ c.in-Some.ensures.within.0 c.in-Some.ensures.within.1 c.index-sets-index.is c.changed.ensures
