use Rattle.x12_acks.proofs.WritableTextLemmas.{plain_address}
use Rattle.x12_acks.proofs.laws.a_plain_party_is_an_address.Goals as goal

pub returns : goal.returns
returns c = record { law = plain_address }
