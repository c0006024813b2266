use Rattle.std.proofs.Common.{arith, rules}
use Rattle.x12_envelopes.proofs.PaddingLemmas.{digit_more, all_written}
use Rattle.x12_envelopes.proofs.writing.zero_padded.Goals as goal

pub loop-missing-preserved : goal.loop-missing-preserved
loop-missing-preserved g c = record {
  within = omega arith;
  sized = search rules;
  told = digit_more c.loop-missing.missing c.loop-missing.left _ c.loop-missing.digits (omega arith) (omega arith) c.loop-missing.invariant.told;
}

pub returns : goal.returns
returns g c = record {
  padded = all_written g.row.N c.loop-missing.missing c.args.n c.loop-missing.left c.loop-missing.digits c.requires.some c.requires.fits c.ranges.n.fits (omega arith) c.loop-missing.invariant.told;
}
