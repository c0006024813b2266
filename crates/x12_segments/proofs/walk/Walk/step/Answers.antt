use Rattle.x12_segments.proofs.WalkLemmas.{stepped, ended, shorter_at_last}
use Rattle.x12_segments.proofs.walk.Walk.step.Goals as goal

pub returns-in-Some-clause-some : goal.returns-in-Some-clause-some
returns-in-Some-clause-some c =
    stepped c.args.self.now c.place.new.self c.in-Some.piece.now c.in-Some.behind.now c.place.result.bytes.now c.in-Some.ensures.some c.place.ensures.bytes c.place.ensures.rest c.place.ensures.delims

pub returns-in-None-clause-some : goal.returns-in-None-clause-some
returns-in-None-clause-some c = ended c.args.self.now c.last.new.self c.last.result c.last.ensures.some c.last.ensures.rest

pub returns-in-None-clause-shorter : goal.returns-in-None-clause-shorter
returns-in-None-clause-shorter c = shorter_at_last c.last.result c.args.self.now.rest.now c.last.new.self.rest.now c.last.ensures.some_left c.last.ensures.rest
