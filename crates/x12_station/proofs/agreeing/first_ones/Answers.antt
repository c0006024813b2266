use Rattle.std.proofs.Common.{refl, arith}
use Rattle.std.proofs.lemmas.Grind.{common_steps}
use Rattle.x12_station.proofs.OnceLemmas.{first_pushed}
use Rattle.x12_station.proofs.agreeing.first_ones.Goals as goal

pub loop-pair-preserved : goal.loop-pair-preserved
loop-pair-preserved c =
    let at = c.loop-pair in
    let keys = c.in_ok-insert.ensures.keys in
    first_pushed c.args.pairs.now at.pair-index _ _ at.first.keys c.insert.new.self.keys c.loop-pair-test.true refl at.invariant keys

pub returns : goal.returns
returns c = grind (arith, common_steps)
