use Rattle.x12_acks.proofs.CutLemmas.{names_one}
use Rattle.x12_acks.proofs.named.numbers_name_one.Goals as goal

pub returns : goal.returns
returns c = record { law = names_one }
