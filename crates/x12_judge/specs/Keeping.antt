-- What is kept of the notes of a transaction set: the first eight, and what is to be known of the others.
use Rattle.std.specs.Prelude.{Bool, false, ◌||◌, List, [], ◌++◌, map, take}
use Rattle.std.specs.List.{list_any}
use Rattle.x12_judge.specs.declared.verdict.SetNote.{SetNote}
use Rattle.x12_judge.specs.Set.{ReportedNote, segment, element, is_other_code}
use Rattle.x12_judge.specs.Verdict.{note_view}

-- a note on a segment for another reason than errors in its elements
abbrev pub is_other_note : ReportedNote → Bool
is_other_note (segment name position code) = is_other_code code
is_other_note (element n) = false

-- what is kept of notes: the first eight, and whether some note is for another reason
pub record KeptNotes : Type 0 where
  pub first : List ReportedNote
  pub other : Bool

-- nothing was noted
abbrev pub no_notes : KeptNotes
no_notes = record { first = []; other = false }

-- what is kept once more is noted
unfoldable pub keeping : KeptNotes → List ReportedNote → KeptNotes
keeping kept more = record {
  first = take 8 (kept.first ++ more);
  other = kept.other || list_any is_other_note more;
}

-- what the code keeps
abbrev pub kept_as : List SetNote → Bool → KeptNotes
kept_as notes other = record { first = map note_view notes; other = other }
