-- Segments as they are meant: from their elements, what reading tells of them from their bytes.
use Rattle.std.specs.Prelude.{◌-◌, Bool, length}
use Rattle.x12_envelopes.specs.Segment.{Segment}
use Rattle.x12_envelopes.specs.Content.{is_ta1_form, is_gs_form, is_st_form}
use Rattle.x12_envelopes.specs.Envelope.{element_at}

-- the elements of TA1
unfoldable pub elements_are_ta1 : Segment → Bool
elements_are_ta1 s = is_ta1_form (length s - 1) (element_at s)

-- the elements of GS
unfoldable pub elements_are_gs : Segment → Bool
elements_are_gs s = is_gs_form (length s - 1) (element_at s)

-- the elements of ST
unfoldable pub elements_are_st : Segment → Bool
elements_are_st s = is_st_form (length s - 1) (element_at s)
