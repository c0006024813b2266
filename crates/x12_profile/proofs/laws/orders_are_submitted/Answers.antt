use Rattle.x12_profile.proofs.OrderLemmas.{orders_submitted}
use Rattle.x12_profile.proofs.laws.orders_are_submitted.Goals as goal

pub returns : goal.returns
returns c = record {
  law = orders_submitted (record {
    header = c.header_is_read_back.ensures.header;
    outline = c.outline_is_read_back.ensures.outline;
    answers = c.answers_are_read_back.ensures.law;
  }) c.a_plain_party_is_an_address.ensures.law;
}
