use Rattle.x12_acks.proofs.ReplyLengthLemmas.{reply_is_short, refusal_is_short}
use Rattle.x12_acks.proofs.WritableTextLemmas.{sized, may_answer_address}
use Rattle.x12_acks.proofs.laws.a_reply_is_short.Goals as goal

pub returns : goal.returns
returns c =
    let writable = c.what_was_read_is_writable.ensures.header in
    record {
      law = record {
        reply = λ me terms h bytes at icn gcn read may. reply_is_short c.trees_alone_are_read.ensures me terms h bytes at icn gcn read (sized h.delims me at (may_answer_address h me (writable bytes h read) may));
        refusal = λ me note h bytes at icn read may. refusal_is_short me note h bytes at icn read (sized h.delims me at (may_answer_address h me (writable bytes h read) may));
      };
    }
