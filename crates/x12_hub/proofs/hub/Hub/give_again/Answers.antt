-- What was refused is given again as it stands; a boxed item is put back, in one commit where it doesn't wait.
use Rattle.std.proofs.Common.{rules}
use mathlib.Core.Logic.{inl}
use Rattle.x12_hub.proofs.hub.Hub.give_again.Goals.{in-Boxed+in_ok-put_back-in-Boxed, in-Refused}
use Rattle.x12_hub.proofs.hub.Hub.give_again.Goals as goal

pub returns-clause-crash : goal.returns-clause-crash
returns-clause-crash g c = elim c.match-decision.branch [
  | in-Boxed+in_ok-put_back-in-Boxed w ↦ search rules
  | in-Refused w ↦ rw w.self-is (record { left = λ _ _ may. inl may; kept = c.requires.kept })
]
