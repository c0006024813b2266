use Rattle.x12_envelopes.proofs.ElementLemmas.{of_two, of_three}
use Rattle.x12_envelopes.proofs.segment.Segment.short_identifier.Goals as goal

pub returns-then-bytes-separator-3 : goal.returns-then-bytes-separator-3
returns-then-bytes-separator-3 c =
    of_two c.args.self.now.delims c.args.self.now.bytes.now c.if-bytes-lt4.false c.if-bytes-separator.false c.if-bytes-separator-2.false c.if-bytes-separator-3.true

pub returns-then-bytes-separator-4 : goal.returns-then-bytes-separator-4
returns-then-bytes-separator-4 c =
    of_three c.args.self.now.delims c.args.self.now.bytes.now c.if-bytes-lt4.false c.if-bytes-separator.false c.if-bytes-separator-2.false c.if-bytes-separator-3.false c.if-bytes-separator-4.true
