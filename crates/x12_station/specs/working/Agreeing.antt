-- What an agreement changes in a station's records and in its memory.
use Rattle.std.specs.Prelude.{◌≡◌, map}
use Rattle.x12_judge.specs.Agreement.{TradingAgreement, agreement_view}
use Rattle.x12_station.specs.declared.cached.Cached.{Cached}
use Rattle.x12_station.specs.Plan.{Agrees, stored_after}
use Rattle.x12_station.specs.Station.{agreed}
use Rattle.x12_station.specs.Stored.{Stored}

-- the records once the agreement is made: the numbers stay
abbrev pub stored_agreed : TradingAgreement → Stored → Stored
stored_agreed a s = stored_after (record { book = s.book; seq = s.seq; change = Agrees a }) s

-- memory but for its agreements
pub record IsSameBeside (old new : Cached) : Type 0 where
  pub me : new.me ≡ old.me
  pub hubs : new.hubs ≡ old.hubs
  pub marks : new.marks ≡ old.marks
  pub book : new.book ≡ old.book
  pub seq : new.seq ≡ old.seq
  pub ledger : new.ledger ≡ old.ledger
  pub counts : new.counts ≡ old.counts

-- memory once the agreement is made
pub record IsMemoryAgreed (a : TradingAgreement) (old new : Cached) : Type 0 where
  pub beside : IsSameBeside old new
  pub agreements :
      map agreement_view new.agreements.items
      ≡ agreed a (map agreement_view old.agreements.items)

-- memory that may have more room for agreements
pub record IsSameButRoom (old new : Cached) : Type 0 where
  pub beside : IsSameBeside old new
  pub agreements : new.agreements.items ≡ old.agreements.items
