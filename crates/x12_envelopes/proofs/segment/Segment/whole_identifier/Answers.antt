use Rattle.std.proofs.Common.{arith}
use Rattle.x12_envelopes.proofs.ElementLemmas.{whole_identifier}
use Rattle.x12_envelopes.proofs.segment.Segment.whole_identifier.Goals as goal

pub returns : goal.returns
returns c =
    whole_identifier c.args.self.now.delims c.args.self.now.bytes.now (omega (arith, c.if-bytes-lt2.false)) c.requires
    c.if-bytes-separator.false c.if-bytes-separator-2.false c.if-bytes-separator-3.false
