-- What is read of an interchange's bytes: its header, its outline, and what it answers. Bytes whose
-- header can't be read have none of these.
use Rattle.std.specs.Prelude.{List, [], replicate, codes, Option, Some, None, Result, Ok, Err}
use Rattle.std.specs.Prelude.{option_map, option_and_then, unwrap_or}
use Rattle.x12_envelopes.specs.declared.party.Party.{Party}
use Rattle.x12_envelopes.specs.declared.header.Header.{Header}
use Rattle.x12_envelopes.specs.Header.{header_of}
use Rattle.x12_envelopes.specs.Letter.{letter}
use Rattle.x12_envelopes.specs.Outline.{outline_of}
use Rattle.x12_envelopes.specs.Shape.{Interchange}
use Rattle.x12_acks.specs.Answer.{Acknowledgment, answers_of}
use Rattle.x12_profile.specs.Interchange.{Bytes}

-- a result, where there is one
abbrev pub if_ok : {A E : Type 0} → Result A E → Option A
if_ok (Ok x) = Some x
if_ok (Err fault) = None

-- ISA, where it can be read
unfoldable pub header_in : Bytes → Option Header
header_in b = if_ok (header_of b)

-- the outline under a header, where the segments behind ISA can be read
abbrev pub outline_under : Bytes → Header → Option Interchange
outline_under b h = if_ok (outline_of h.delims b)

-- the outline, where ISA and the segments behind it can be read
unfoldable pub outline_in : Bytes → Option Interchange
outline_in b = option_and_then (outline_under b) (header_in b)

-- what is said of the header, or else this
abbrev pub by_header : {A : Type 0} → A → (Header → A) → Bytes → A
by_header other say b = unwrap_or (option_map say (header_in b)) other

-- what is said of the outline, or else this
abbrev pub by_outline : {A : Type 0} → A → (Interchange → A) → Bytes → A
by_outline other say b = unwrap_or (option_map say (outline_in b)) other

-- what is said of both, or else this
abbrev pub by_both : {A : Type 0} → A → (Header → Interchange → A) → Bytes → A
by_both other say b =
    by_header other (λ h. unwrap_or (option_map (say h) (outline_under b h)) other) b

-- a party that is nobody's: spaces alone
abbrev pub nobody : Party
nobody = record { qualifier = codes "  "; id = replicate 15 (letter (codes " ")) }

-- what an interchange answers
abbrev pub answers_in : Bytes → List Acknowledgment
answers_in b = by_both [] (λ h x. answers_of h.delims x) b
