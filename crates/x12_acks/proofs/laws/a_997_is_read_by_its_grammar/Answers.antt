use Rattle.x12_acks.proofs.GrammarLemmas.{is_read}
use Rattle.x12_acks.proofs.laws.a_997_is_read_by_its_grammar.Goals as goal

pub returns : goal.returns
returns c = record { law = is_read }
