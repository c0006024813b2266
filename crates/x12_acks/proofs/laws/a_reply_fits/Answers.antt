use Rattle.x12_acks.proofs.ReplyFitsLemmas.{reply_fits, refusal_fits}
use Rattle.x12_acks.proofs.laws.a_reply_fits.Goals as goal

pub returns : goal.returns
returns c =
    let writable = c.what_was_read_is_writable.ensures in
    record {
      law = record {
        reply = reply_fits c.numbers_are_readable.ensures.readable writable.header writable.outline c.trees_alone_are_read.ensures;
        refusal = refusal_fits writable.header;
      };
    }
