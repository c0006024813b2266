-- The notes of a transaction set that are kept: the first eight, and what is to be known of the others.
use Rattle.std.specs.Prelude.{◌≡◌, ℕ, Bool, true, false, List, [], ◌∷◌, map, take}
use Rattle.x12_judge.specs.declared.note.Notes.{Notes}
use Rattle.x12_envelopes.specs.Cutting.{DelimitedSegment}
use Rattle.x12_judge.specs.declared.verdict.SegmentCode.TheVariants.{ElementErrors}
use Rattle.x12_judge.specs.Segment.{ElementNote, identifier_of, element_notes}
use Rattle.x12_judge.specs.Set.{ReportedNote, segment, element}
use Rattle.x12_judge.specs.Keeping.{KeptNotes, keeping, kept_as}

-- what was kept so far
abbrev pub kept_notes : Notes → KeptNotes
kept_notes notes = kept_as notes.kept.items notes.has_other

-- more was noted
abbrev pub KeepsNotes : Notes → Notes → List ReportedNote → Type 0
KeepsNotes old new more = kept_notes new ≡ keeping (kept_notes old) more

-- the notes of a segment's elements behind that of the segment, where there are any
abbrev pub with_errors : ReportedNote → List ElementNote → List ReportedNote
with_errors note [] = []
with_errors note (e ∷ es) = note ∷ map (λ n. element n) (e ∷ es)

-- the note of a segment, unless it was noted before
abbrev pub opening : Bool → ReportedNote → List ReportedNote
opening true note = []
opening false note = note ∷ []

-- the note of a segment that has element errors, and those of its elements
abbrev pub errors_noted : ℕ → DelimitedSegment → List ReportedNote
errors_noted position s =
    with_errors (segment (take 3 (identifier_of s.delims s.bytes)) position ElementErrors)
    (element_notes s.delims s.bytes)
