-- The set at the place was written over.
use Rattle.std.proofs.Common.{ap, sym}
use Rattle.x12_outbound.specs.declared.entry.EntrySet.{EntrySet}
use Rattle.x12_outbound.specs.Entry.{SetRow, set_row}
use Rattle.x12_outbound.proofs.PlaceLemmas.{with_place_map}
use Rattle.x12_station.proofs.submissions.settle_set.Goals as goal

pub returns-in-Some : goal.returns-in-Some
returns-in-Some c =
    let settled = λ (s : SetRow). record s { fate = c.args.fate } in
    with_place_map set_row settled _ _ _ _ _ c.in-Some.ensures.within.0 c.in-Some.ensures.within.1 c.index-sets-index.is
    (ap (λ (s : EntrySet). settled (set_row s)) (sym c.index-sets-index.is))
