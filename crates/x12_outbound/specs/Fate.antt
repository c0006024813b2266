-- How a submitted transaction set fares.
use Rattle.std.specs.Prelude.{Bool, true, false}
use Rattle.x12_acks.specs.Evidence.{FinalFate, accepted, noted, rejected}
use Rattle.x12_outbound.specs.declared.fate.Fate.{Fate}
use Rattle.x12_outbound.specs.declared.fate.Fate.TheVariants.{Pending, Accepted, Noted, Rejected}
use Rattle.x12_outbound.specs.declared.fate.FinalFate.{FinalFate as CodeFate}
use Rattle.x12_outbound.specs.declared.fate.FinalFate.TheVariants as code

-- the fate of a set that ended so
abbrev pub ended : FinalFate → Fate
ended accepted = Accepted
ended noted = Noted
ended rejected = Rejected

-- what the code's final fate stands for
abbrev pub final_fate : CodeFate → FinalFate
final_fate code.Accepted = accepted
final_fate code.Noted = noted
final_fate code.Rejected = rejected

abbrev pub is_pending : Fate → Bool
is_pending Pending = true
is_pending fate = false
