-- What a station makes in memory of what it loads.
use Rattle.std.specs.Prelude.{◌≡◌, List, map}
use Rattle.x12_envelopes.specs.declared.party.Party.{Party}
use Rattle.x12_judge.specs.Agreement.{agreement_view}
use Rattle.x12_outbound.specs.Counts.{only_unclear}
use Rattle.x12_outbound.specs.Entry.{InterchangeRow}
use Rattle.x12_outbound.specs.declared.hubs.Hubs.{Hubs}
use Rattle.x12_outbound.specs.Hubs.{hubs_of}
use Rattle.x12_outbound.specs.Ledger.{OutboundLedger, LedgerRow}
use Rattle.x12_outbound.specs.Schedule.{unsent_schedule}
use Rattle.x12_profile.specs.Marking.{marks_view}
use Rattle.x12_station.specs.declared.cached.Cached.{Cached}
use Rattle.x12_station.specs.Record.{Loaded}

-- a submission that wasn't sent since
abbrev pub unsent_row : InterchangeRow → LedgerRow
unsent_row e = record { interchange = e; schedule = unsent_schedule }

-- a ledger of these submissions at these hubs, none of which was sent yet
pub record IsLedgerOf (me : Party) (its : Hubs) (es : List InterchangeRow)
    (l : OutboundLedger) : Type 0 where
  pub party : l.me ≡ me
  pub hubs : l.hubs ≡ hubs_of its
  pub tick : l.tick ≡ 0
  pub rows : l.rows ≡ map unsent_row es

-- what a station of this party and these hubs keeps of what it loaded
pub record IsTakenIn (party : Party) (its : Hubs) (l : Loaded) (m : Cached) : Type 0 where
  pub me : m.me ≡ party
  pub hubs : m.hubs ≡ its
  pub marks : marks_view m.marks ≡ l.marks
  pub book : m.book ≡ l.book
  pub seq : m.seq ≡ l.seq
  pub agreements : map agreement_view m.agreements.items ≡ l.agreements
  pub ledger : IsLedgerOf party its l.entries m.ledger.holds
  pub counts : m.counts ≡ only_unclear 0
