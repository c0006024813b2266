use Rattle.x12_acks.proofs.ReplyBackLemmas.{answers_back}
use Rattle.x12_acks.proofs.laws.answers_are_read_back.Goals as goal

pub returns : goal.returns
returns c = record {
  law = answers_back c.elements_are_read_back.ensures.elements c.segments_fit.ensures.fit;
}
