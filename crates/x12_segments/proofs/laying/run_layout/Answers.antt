use Rattle.x12_envelopes.specs.Writing.{texts}
use Rattle.x12_segments.proofs.LayingLemmas.{transmission_laid}
use Rattle.x12_segments.proofs.laying.run_layout.Goals as goal

pub returns : goal.returns
returns g c =
    transmission_laid c.args.layout c.args.input.now (texts c.in_ok-interchanges.interchanges.items) _ _ c.lay_all.result
    c.in_ok-interchanges.ensures.slices
    (rw c.as_slice.ensures.value at c.lay_all.ensures.written)
    (rw c.as_slice.ensures.value at c.lay_all.ensures.right)
