use Rattle.x12_judge.proofs.RisingNoteLemmas.{notes_do_rise}
use Rattle.x12_judge.proofs.laws.notes_rise.Goals as goal

pub returns : goal.returns
returns c = record { rise = notes_do_rise }
