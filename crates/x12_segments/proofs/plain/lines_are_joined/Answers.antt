use Rattle.x12_segments.proofs.PlainLemmas.{lines_joined}
use Rattle.x12_segments.proofs.plain.lines_are_joined.Goals as goal

pub returns : goal.returns
returns c = record { law = lines_joined }
