use Rattle.x12_acks.proofs.ReplyLawLemmas.{reply_tells, refusal_tells}
use Rattle.x12_acks.proofs.laws.segments_tell_the_verdict.Goals as goal

pub returns : goal.returns
returns c =
    let read = c.numbers_are_readable.ensures in
    record {
      law = record {
        reply = λ hubs submissions terms h bytes x at icn gcn. reply_tells hubs submissions terms h bytes x at icn gcn read.readable read.header;
        refusal = λ hubs from submissions note h bytes x at icn. refusal_tells hubs from submissions note h bytes x at icn read.header;
      };
    }
