use Rattle.std.proofs.Common.{◌∷◌, length}
use Rattle.x12_envelopes.specs.Segment.{parts_of}
use Rattle.x12_judge.specs.Body.{ArePassed, body_left}
use Rattle.x12_judge.specs.Set.{without_trailer}
use Rattle.x12_judge.proofs.body.Body.pass_ordinary.Given as goal

abbrev pub invariant-loop-name : goal.invariant-loop-name
invariant-loop-name l =
    ArePassed l.delims (body_left l.delims l.fn.self) (record { count = l.count; has_po1 = l.has_po1 })
    (without_trailer l.fn.self.closed (l.bytes ∷ parts_of l.delims l.behind))

abbrev pub decreases-loop-name : goal.decreases-loop-name
decreases-loop-name l = length (parts_of l.delims l.behind)
