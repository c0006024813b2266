use Rattle.x12_answering.proofs.OutputLemmas.{Leaves}
use Rattle.x12_answering.proofs.output.write_whole.Given as goal

abbrev pub invariant-loop : goal.invariant-loop
invariant-loop g l = Leaves (g.W.Write.contents l.fn.writer) (g.W.Write.contents l.writer) l.bytes l.rest
