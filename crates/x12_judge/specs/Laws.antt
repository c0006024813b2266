-- What holds of every judgement: it is small, a judged interchange was read, and the notes of a set
-- rise.
use Rattle.std.specs.Prelude.{◌≡◌, ◌≤◌, ◌<◌, ◌⊎◌, ℕ, Bool, List, length, All, AllPairs, Ok}
use Rattle.std.specs.List.{sum_by}
use Rattle.std.specs.Ordering.{nat_cmp}
use Rattle.std.specs.declared.cmp.Ordering.TheVariants.{Less}
use Rattle.std.specs.Cmp.Lexicographic.{slice_cmp}
use Rattle.x12_envelopes.specs.declared.delimiters.Delims.{Delims}
use Rattle.x12_envelopes.specs.declared.party.Party.{Party}
use Rattle.x12_envelopes.specs.declared.header.Header.{Header}
use Rattle.x12_envelopes.specs.Outline.{outline_of}
use Rattle.x12_envelopes.specs.Shape.{Interchange, TransactionSet}
use Rattle.x12_judge.specs.Controls.{JudgingTerms}
use Rattle.x12_judge.specs.Code.{segment_code_number}
use Rattle.x12_judge.specs.Segment.{SegmentNote, ElementNote}
use Rattle.x12_judge.specs.Set.{TransactionSetVerdict, notes_of_set}
use Rattle.x12_judge.specs.Group.{FunctionalGroupVerdict}
use Rattle.x12_judge.specs.Verdict.{InterchangeVerdict, refused, judged, judgement_of}

-- a set's verdict has at most the six codes of AK502 to AK506, and at most eight notes
pub record IsShortVerdict (v : TransactionSetVerdict) : Type 0 where
  pub codes : length v.codes ≤ 6
  pub notes : length v.notes ≤ 8

-- at most 32 groups, with at most 400 transaction sets in all, each with few codes and notes
pub record AreFewVerdicts (verdicts : List FunctionalGroupVerdict) : Type 0 where
  pub groups : length verdicts ≤ 32
  pub sets : sum_by (λ (g : FunctionalGroupVerdict). length g.sets) verdicts ≤ 400
  pub short : All (λ (g : FunctionalGroupVerdict). All IsShortVerdict g.sets) verdicts

-- a note of at most three digits, or few verdicts
abbrev pub IsSmallVerdict : InterchangeVerdict → Type 0
IsSmallVerdict (refused note) = note ≤ 999
IsSmallVerdict (judged groups) = AreFewVerdicts groups

-- what an interchange deserves is small, whatever its bytes
abbrev pub JudgementsAreSmall : Type 0
JudgementsAreSmall =
    (me : Party) (terms : JudgingTerms) (h : Header) (bytes : List ℕ)
    → IsSmallVerdict (judgement_of me terms h bytes).verdict

-- an interchange that is judged group by group has an outline
abbrev pub JudgedIsRead : Type 0
JudgedIsRead =
    (me : Party) (terms : JudgingTerms) (h : Header) (bytes : List ℕ)
    (groups : List FunctionalGroupVerdict)
    → (judgement_of me terms h bytes).verdict ≡ judged groups
    → (x : Interchange) × (outline_of h.delims bytes ≡ Ok x)

-- A note on a segment (AK3) stands before another: by the segment's position, then by what is wrong
-- (AK304), then by the segment's identifier, byte by byte.
abbrev pub IsNoteBefore : SegmentNote → SegmentNote → Type 0
IsNoteBefore n m =
    (n.position < m.position)
    ⊎ ((n.position ≡ m.position)
    × ((segment_code_number n.code < segment_code_number m.code)
    ⊎ ((n.code ≡ m.code) × (slice_cmp nat_cmp n.identifier m.identifier ≡ Less))))

-- notes on elements (AK4) stand by the element's place in its segment
abbrev pub ElementsRise : SegmentNote → Type 0
ElementsRise n = AllPairs (λ (e f : ElementNote). e.place < f.place) n.elements

-- each note stands before all behind it; so none stands twice
pub record AreRisingNotes (notes : List SegmentNote) : Type 0 where
  pub segments : AllPairs IsNoteBefore notes
  pub elements : All ElementsRise notes

-- The notes of every transaction set rise; its verdict reports the first eight of them.
abbrev pub NotesRise : Type 0
NotesRise =
    (d : Delims) (agreed : Bool) (s : TransactionSet) → AreRisingNotes (notes_of_set d agreed s)
