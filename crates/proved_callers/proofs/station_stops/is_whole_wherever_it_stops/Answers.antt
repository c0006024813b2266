-- What a kill leaves, and a loss of power, is among what a stop leaves.
use Rattle.sqlite.specs.Files.{image_of}
use Rattle.proved_callers.proofs.station_stops.is_whole_wherever_it_stops.Goals as goal

pub is_left_whole-requires-clause-left : goal.is_left_whole-requires-clause-left
is_left_whole-requires-clause-left g c = λ clean. c.in_ok-answer.ensures (c.in_ok-killed.ensures.clean clean) (image_of g.D.Disk c.in_ok-killed.field-0) c.in_ok-killed.ensures.left

pub is_left_whole-requires-in-loop-clause-left : goal.is_left_whole-requires-in-loop-clause-left
is_left_whole-requires-in-loop-clause-left g c = λ clean.
    let was = c.next-next.ensures (c.lost.ensures.clean clean) in
    let image = image_of g.D.Disk c.lost.result in
    c.in_ok-answer.ensures was.0 image (was.1 image c.lost.ensures.left)
