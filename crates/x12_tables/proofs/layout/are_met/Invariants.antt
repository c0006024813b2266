-- the parts so far are those of the rows
use Rattle.std.proofs.Common.{◌≡◌, map, take}
use Rattle.x12_tables.proofs.layout.are_met.Given as goal

abbrev pub invariant-loop-at : goal.invariant-loop-at
invariant-loop-at g l = take l.at l.parts ≡ map g.D.Describes.described (take l.at l.rows)
