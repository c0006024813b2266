-- those so far are as they were read before
use Rattle.std.proofs.Common.{◌≡◌, take, map}
use Rattle.x12_acks.specs.Answer.{set_answer_view}
use Rattle.x12_station.specs.Older.{set_answer_before}
use Rattle.x12_station.proofs.older.older_sets.Given as goal

abbrev pub invariant-loop-set : goal.invariant-loop-set
invariant-loop-set l = map set_answer_view l.older.items ≡ map set_answer_before (map set_answer_view (take l.set-index l.sets))
