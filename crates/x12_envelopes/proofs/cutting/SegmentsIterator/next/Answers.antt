use Rattle.std.proofs.Common.{refl, arith, ap, map, subst, sym, length}
use Rattle.std.proofs.lemmas.List.{length-map}
use Rattle.std.specs.Iterator.{YieldsFirstBy}
use Rattle.x12_envelopes.specs.Segment.{parts_of}
use Rattle.x12_envelopes.specs.Cutting.{delimited, delimited_view, segments_left}
use Rattle.x12_envelopes.proofs.cutting.SegmentsIterator.next.Goals as goal

pub returns-in_err-bytes-clause-steps : goal.returns-in_err-bytes-clause-steps
returns-in_err-bytes-clause-steps c =
    let d = c.args.self.now.delims in
    let none = ap (map (delimited d)) (c.in_err-bytes.ensures.none refl) in
    subst (λ r. YieldsFirstBy delimited_view segments_left c.args.self.now r record { delims = d; bytes = c.args.self.now.bytes }) (sym c.from_residual.ensures) (none, none)

pub returns-clause-steps : goal.returns-clause-steps
returns-clause-steps c = ap (map (delimited c.args.self.now.delims)) c.in_ok-bytes.ensures.some

pub returns-clause-goes : goal.returns-clause-goes
returns-clause-goes c =
    let d = c.args.self.now.delims in
    let more = c.in_ok-bytes.ensures.some in
    record { on = λ _. (tt, tt, omega (arith, ap length more, length-map (parts_of d c.args.self.now.bytes.now) (delimited d), length-map (parts_of d c.in_ok-bytes.behind.now) (delimited d))); keeps = tt; rests = λ _. tt }
