-- The operator's report: a line for each audit of a submitted transaction set. Numbers that need
-- more places than their field has take them.
use Rattle.std.specs.Prelude.{ℕ, ◌-◌, Bool, List, [], ◌∷◌, ◌++◌, length}
use Rattle.std.specs.Prelude.{Option, Some, None, is_none, if◌then◌else◌}
use Rattle.std.specs.Prelude.{replicate, codes, decimal}
use Rattle.std.specs.List.{join_with_byte}
use Rattle.x12_envelopes.specs.declared.party.Party.{Party}
use Rattle.x12_envelopes.specs.Byte.{zero_padded_number}
use Rattle.x12_outbound.specs.declared.fate.Fate.{Fate}
use Rattle.x12_outbound.specs.declared.fate.Fate.TheVariants.{Pending, Accepted, Noted, Rejected}
use Rattle.x12_report.specs.declared.audit.Audit.{Audit}
use Rattle.x12_report.specs.Audit.{postings_are_bad}

-- a party: its qualifier, a slash, and its identifier in fifteen places
abbrev pub party_field : Party → List ℕ
party_field p = p.qualifier ++ codes "/" ++ p.id

-- a fate in eight places, from the left
abbrev pub fate_field : Fate → List ℕ
fate_field Pending = codes "pending "
fate_field Accepted = codes "accepted"
fate_field Noted = codes "noted   "
fate_field Rejected = codes "rejected"

-- how many postings there are, in four places from the right; a hyphen where the receiver is no
-- station
abbrev pub postings_field : Option ℕ → List ℕ
postings_field None = codes "   -"
postings_field (Some n) = replicate (4 - length (decimal n)) 32 ++ decimal n

-- an audit that an operator has to look into
abbrev pub audit_is_bad : Audit → Bool
audit_is_bad a = postings_are_bad a.fate a.intact a.posted

-- the mark of an audit: external where the receiver is no station, otherwise whether it is bad
abbrev pub mark_of : Audit → List ℕ
mark_of a =
    if is_none a.posted then codes "ext" else (if audit_is_bad a then codes "BAD" else codes "ok")

-- the line of an audit: its fields, parted by one space
unfoldable pub report_line : Audit → List ℕ
report_line a = join_with_byte 32 (
    party_field a.key.sender
    ∷ zero_padded_number 9 a.key.icn
    ∷ zero_padded_number 2 a.key.group
    ∷ zero_padded_number 3 a.key.set
    ∷ party_field a.receiver
    ∷ fate_field a.fate
    ∷ postings_field a.posted
    ∷ mark_of a
    ∷ [])
    ++ 10 ∷ []
