-- What a kill leaves is among what a stop leaves.
use Rattle.sqlite.specs.Files.{image_of}
use Rattle.proved_callers.proofs.station_stops.stopped.Goals as goal

pub open_station_over-requires-clause-left : goal.open_station_over-requires-clause-left
open_station_over-requires-clause-left g c = λ clean. c.requires (c.in_ok-files.ensures.clean clean) (image_of g.D.Disk c.in_ok-files.files) c.in_ok-files.ensures.left
