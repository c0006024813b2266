use Rattle.x12_acks.proofs.ReplyBackLemmas.{Laws, reply_back, refusal_back}
use Rattle.x12_acks.proofs.laws.a_reply_tells_the_verdict.Goals as goal

pub returns : goal.returns
returns c =
    let read = c.numbers_are_readable.ensures in
    let writable = c.what_was_read_is_writable.ensures in
    let laws : Laws = record {
      elements = c.elements_are_read_back.ensures.elements;
      header = c.header_is_read_back.ensures.header;
      outline = c.outline_is_read_back.ensures.outline;
      fit = c.segments_fit.ensures.fit;
      readable = read.readable;
      number = read.header;
      writable_header = writable.header;
      writable_outline = writable.outline;
      trees = c.trees_alone_are_read.ensures;
    } in
    record { law = record { reply = reply_back laws; refusal = refusal_back laws } }
