-- The note of an interchange (X12.5, TA105): why it is refused as a whole.
use Rattle.std.specs.Prelude.{ℕ, Bool, true, false, ◌&&◌, not, List, [], ◌∷◌, length, drop, Option}
use Rattle.std.specs.Prelude.{Some, None, Result, Ok, Err, ◌==◌, codes}
use Rattle.x12_envelopes.specs.declared.party.Party.{Party}
use Rattle.x12_envelopes.specs.declared.delimiters.Delims.{Delims}
use Rattle.x12_envelopes.specs.declared.header.Header.{Header}
use Rattle.x12_envelopes.specs.declared.shape.Outline.{Outline}
use Rattle.x12_envelopes.specs.declared.shape.OutlineFault.{OutlineFault}
use Rattle.x12_envelopes.specs.declared.shape.OutlineFault.TheVariants.{Structure, Premature}
use Rattle.x12_envelopes.specs.declared.shape.OutlineFault.TheVariants.{Content, Memory}
use Rattle.x12_envelopes.specs.Row.{first_of_rows}
use Rattle.x12_envelopes.specs.Letter.{is_one_of}
use Rattle.x12_envelopes.specs.Moment.{text_is_date, text_is_time}
use Rattle.x12_envelopes.specs.Shape.{Interchange, outline_view}
use Rattle.x12_judge.specs.declared.controls.Controls.{Controls}
use Rattle.x12_judge.specs.declared.controls.Controls.TheVariants.{Until501}
use Rattle.x12_judge.specs.Agreement.{is_same_party}
use Rattle.x12_judge.specs.Controls.{standard_is_unsupported, version_is_supported}

-- an interchange that was read, or the fault that ended its reading
abbrev pub Reading : Type 0
Reading = Result Interchange OutlineFault

-- what the code's reading stands for
abbrev pub reading_view : Delims → Result Outline OutlineFault → Reading
reading_view d (Ok x) = Ok (outline_view d x)
reading_view d (Err fault) = Err fault

-- memory ran out while an interchange was read, so nothing is known of it
abbrev pub reading_is_memory_fault : Result Outline OutlineFault → Bool
reading_is_memory_fault (Err Memory) = true
reading_is_memory_fault reading = false

-- reading ended at a control byte or at a misplaced segment
abbrev pub reading_is_structure_fault : Reading → Bool
reading_is_structure_fault (Err (Structure at)) = true
reading_is_structure_fault reading = false

-- reading ended where the bytes end, before a terminator or before IEA
abbrev pub reading_is_premature_end : Reading → Bool
reading_is_premature_end (Err (Premature at)) = true
reading_is_premature_end reading = false

-- reading ended at a TA1, GS or ST that can not be read, or at one too many
abbrev pub reading_is_content_fault : Reading → Bool
reading_is_content_fault (Err (Content at)) = true
reading_is_content_fault reading = false

-- a trailer's value is this number
abbrev pub value_is_number : ℕ → Option ℕ → Bool
value_is_number n None = false
value_is_number n (Some m) = m == n

-- IEA02 isn't the number of ISA13
abbrev pub reading_has_other_number : Header → Reading → Bool
reading_has_other_number h (Ok x) = not (value_is_number h.icn x.trailer)
reading_has_other_number h (Err fault) = false

-- IEA01 isn't the number of groups
abbrev pub reading_has_wrong_group_count : Reading → Bool
reading_has_wrong_group_count (Ok x) = not (value_is_number (length x.groups) x.count)
reading_has_wrong_group_count (Err fault) = false

-- the rows of TA105: each a condition and its note
abbrev pub note_rows : Controls → Party → Header → Reading → List (Bool × ℕ)
note_rows controls me h reading =
    (not (is_same_party h.receiver me), 8)  -- invalid interchange receiver identifier
    ∷ (standard_is_unsupported controls h, 2)  -- standard not supported
    ∷ (not (version_is_supported controls h.version), 3)  -- version of the controls not supported
    ∷ (not (text_is_date h.date), 14)  -- invalid interchange date
    ∷ (not (text_is_time h.time), 15)  -- invalid interchange time
    ∷ (not (is_one_of (codes "01") h.ack), 19)  -- invalid acknowledgment requested
    ∷ (not (is_one_of (codes "PTI") h.usage), 20)  -- invalid test indicator
    ∷ (reading_is_structure_fault reading, 22)  -- invalid control structure
    ∷ (reading_is_premature_end reading, 23)  -- premature end of file
    ∷ (reading_is_content_fault reading, 24)  -- invalid interchange content
    ∷ (reading_has_other_number h reading, 1)  -- numbers of header and trailer differ
    ∷ (reading_has_wrong_group_count reading, 21)  -- invalid number of included groups
    ∷ []

-- the rows behind those on the receiver, the standard and the version: they ask for no station and no
-- controls, so the header's own receiver and the newest controls stand in their place
abbrev pub rows_of_fields : Header → Reading → List (Bool × ℕ)
rows_of_fields h reading = drop 3 (note_rows Until501 h.receiver h reading)

-- the rows on what was read, behind those on the header
abbrev pub rows_of_reading : Header → Reading → List (Bool × ℕ)
rows_of_reading h reading = drop 4 (rows_of_fields h reading)

-- the note of an interchange at this station: the first row whose condition holds
unfoldable pub note_of_interchange : Controls → Party → Header → Reading → Option ℕ
note_of_interchange controls me h reading = first_of_rows (note_rows controls me h reading)

-- an interchange that is never answered: it was read, and holds TA1s and no group
unfoldable pub reading_is_silent : Reading → Bool
reading_is_silent (Ok x) = not (length x.tas == 0) && length x.groups == 0
reading_is_silent (Err fault) = false
