use Rattle.x12_acks.proofs.DueLemmas.{group_number_is_unused}
use Rattle.x12_acks.proofs.laws.a_group_number_is_used_where_it_is_taken.Goals as goal

pub returns : goal.returns
returns c = record { law = group_number_is_unused }
