-- What evidence does to the fates of submitted transaction sets: the first evidence for a pending
-- set settles it, and a final fate never changes.
use Rattle.std.specs.Prelude.{List, [], ◌∷◌, Option, Some, None, if◌then◌else◌, filter_map}
use Rattle.x12_acks.specs.Submission.{TransactionSetKey}
use Rattle.x12_acks.specs.Evidence.{Evidence, tells, unmatched, FinalFate, accepted, noted, rejected}
use Rattle.x12_outbound.specs.declared.fate.Fate.{Fate}
use Rattle.x12_outbound.specs.declared.fate.Fate.TheVariants.{Pending, Accepted, Noted, Rejected}
use Rattle.x12_acks.specs.declared.key.SetKey.{SetKey}
use Rattle.x12_acks.specs.Key.{is_same_key, key_view}
use Rattle.x12_outbound.specs.Fate.{ended}
use Rattle.x12_outbound.specs.Piece.{Finding, Settles, Repeats, Conflicts, Unmatched, PlannedPiece}
use Rattle.x12_outbound.specs.Matching.{stated}

-- how each submitted transaction set fares, by its key; None of one that wasn't submitted
abbrev pub Fates : Type 0
Fates = TransactionSetKey → Option Fate

-- what evidence of this fate is for a set that fares so: that it is accepted, with or without errors noted,
-- repeats either
abbrev pub finding_by_fate : Option Fate → FinalFate → Finding
finding_by_fate None fate = Unmatched
finding_by_fate (Some Pending) fate = Settles
finding_by_fate (Some Accepted) accepted = Repeats
finding_by_fate (Some Accepted) noted = Repeats
finding_by_fate (Some Accepted) rejected = Conflicts
finding_by_fate (Some Noted) accepted = Repeats
finding_by_fate (Some Noted) noted = Repeats
finding_by_fate (Some Noted) rejected = Conflicts
finding_by_fate (Some Rejected) accepted = Conflicts
finding_by_fate (Some Rejected) noted = Conflicts
finding_by_fate (Some Rejected) rejected = Repeats

-- what a piece of evidence is, where sets fare so
unfoldable pub finding : Fates → Evidence → Finding
finding fates (tells key fate) = finding_by_fate (fates key) fate
finding fates unmatched = Unmatched

-- with this fate for this set
unfoldable pub with_fate : Fates → TransactionSetKey → FinalFate → Fates
with_fate fates key fate = λ k. if is_same_key key k then Some (ended fate) else fates k

-- how sets fare after a piece of evidence that is this
abbrev pub fates_by : Finding → Fates → Evidence → Fates
fates_by Settles fates (tells key fate) = with_fate fates key fate
fates_by other fates piece = fates

-- and after it, whatever it is
abbrev pub fates_after : Fates → Evidence → Fates
fates_after fates piece = fates_by (finding fates piece) fates piece

-- what each piece of a list of evidence is, the pieces before it counted
unfoldable pub findings : Fates → List Evidence → List Finding
findings fates [] = []
findings fates (piece ∷ pieces) = finding fates piece ∷ findings (fates_after fates piece) pieces

-- how sets fare after a list of evidence
unfoldable pub settled_fates : Fates → List Evidence → Fates
settled_fates fates [] = fates
settled_fates fates (piece ∷ pieces) = settled_fates (fates_after fates piece) pieces

-- the set that a planned piece settles, and the fate that it gives
abbrev pub target_by : Finding → Evidence → Option (TransactionSetKey × Fate)
target_by Settles (tells key fate) = Some (key, ended fate)
target_by other piece = None

abbrev pub target_of : PlannedPiece → Option (TransactionSetKey × Fate)
target_of p = target_by p.finding (stated p.statement)

-- the sets that pieces settle, in their order, each with the fate that it gets
unfoldable pub targets_of : List PlannedPiece → List (TransactionSetKey × Fate)
targets_of pieces = filter_map target_of pieces

-- what the code's target stands for
abbrev pub target_view : SetKey × Fate → TransactionSetKey × Fate
target_view t = (key_view t.0, t.1)
