-- Which closed submissions are found for the answers of an arrival: those that the answers name.
use Rattle.std.specs.Prelude.{◌≡◌, List, Option, Some, None, Contains}
use Rattle.x12_envelopes.specs.declared.party.Party.{Party}
use Rattle.x12_acks.specs.Answer.{Acknowledgment, of_interchange, of_group, unclear}
use Rattle.x12_outbound.specs.Entry.{InterchangeRow}
use Rattle.x12_station.specs.Stored.{Stored, entries, closed_entry, closed_entry_with_group}

-- the closed submission that an answer from this party may name: a TA1 by its number, a 997 by its
-- group
abbrev pub closed_for : Stored → Party → Acknowledgment → Option InterchangeRow
closed_for s from (of_interchange icn code note) = closed_entry s icn
closed_for s from (of_group a) = closed_entry_with_group s from a.functional a.number
closed_for s from unclear = None

-- submissions that were found: of the records, and each that one of the answers may name
pub record AreFound (s : Stored) (from : Party) (answers : List Acknowledgment)
    (found : List InterchangeRow) : Type 0 where
  pub stored : (e : InterchangeRow) → Contains found e → Contains (entries s) e
  pub named :
      (a : Acknowledgment) (e : InterchangeRow) → Contains answers a →
      closed_for s from a ≡ Some e → Contains found e
