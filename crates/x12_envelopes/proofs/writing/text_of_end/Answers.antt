use Rattle.std.proofs.Common.{◌≡◌, length, sym, arith}
use Rattle.x12_envelopes.proofs.HeaderPartLemmas.{end_text}
use Rattle.x12_envelopes.proofs.writing.text_of_end.Goals as goal

pub returns : goal.returns
returns c =
    let h = c.args.header.now in
    let nine : length c.zero_padded.result ≡ 9 = omega arith in
    rw (sym c.zero_padded.ensures.padded) (end_text h.delims.element h.ack h.usage h.delims.component h.delims.terminator c.zero_padded.result _ nine c.put.ensures.put)
