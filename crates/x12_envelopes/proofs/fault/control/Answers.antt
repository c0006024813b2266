use Rattle.std.proofs.Common.{sym, ◌∙◌}
use Rattle.x12_envelopes.proofs.FirstFaultLemmas.{no_control}
use Rattle.x12_envelopes.proofs.fault.control.Goals as goal

pub returns-then-not-has_low-clause-place : goal.returns-then-not-has_low-clause-place
returns-then-not-has_low-clause-place c =
    sym (no_control c.args.delims.now c.args.part.now (sym c.has_low.ensures ∙ c.if-not-has_low.true))
