use Rattle.x12_inbound.proofs.AcceptedLemmas.{reply_accepts, undue_posts}
use Rattle.x12_inbound.proofs.laws.what_is_posted_was_accepted.Goals as goal

pub returns : goal.returns
returns c =
    record {
      law = record {
        reply = λ a j reply x answered is_outline may small few. reply_accepts c.a_reply_accepts_the_accepted_sets.ensures.law a j reply x answered.me answered.terms answered.header answered.reply.at answered.reply.icn answered.reply.gcn answered.is_header answered.partner answered.icn answered.judgement answered.reply.is is_outline may small few;
        none = λ a j answered. undue_posts a j answered.me answered.terms answered.header answered.reply.at answered.reply.icn answered.reply.gcn answered.judgement answered.reply.is;
      };
    }
