use Rattle.std.proofs.Common.{◌≡◌, length, arith}
use Rattle.x12_envelopes.proofs.HeaderPartLemmas.{making_text}
use Rattle.x12_envelopes.proofs.writing.text_of_making.Goals as goal

pub returns : goal.returns
returns c =
    let h = c.args.header.now in
    let six : length h.date ≡ 6 = omega arith in
    let four : length h.time ≡ 4 = omega arith in
    let five : length h.version ≡ 5 = omega arith in
    making_text h.delims.element h.standard h.date h.time h.version _ _ _ six four five c.put.ensures.put c.put-2.ensures.put c.put-3.ensures.put
