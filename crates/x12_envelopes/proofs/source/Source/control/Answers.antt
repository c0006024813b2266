use Rattle.std.proofs.Common.{sym}
use Rattle.x12_envelopes.proofs.FirstFaultLemmas.{no_control}
use Rattle.x12_envelopes.proofs.source.Source.control.Goals as goal

pub returns-then-self-clause-place : goal.returns-then-self-clause-place
returns-then-self-clause-place c =
    sym (no_control c.args.self.now.delims c.args.part.now (c.requires c.if-self.true))
