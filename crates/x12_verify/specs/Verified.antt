-- What is said of records.
use Rattle.x12_station.specs.Durable.{IsHistoryOf}
use Rattle.x12_station.specs.Stored.{Stored}
use Rattle.x12_verify.specs.declared.difference.Outcome.{Outcome}
use Rattle.x12_verify.specs.declared.difference.Outcome.TheVariants.{Sound, Differs}

-- Where they are called sound, the station that they name wrote them.
abbrev pub IsSoundOutcome : Stored → Outcome → Type 0
IsSoundOutcome s (Sound sound) = IsHistoryOf s.origin.me s.origin.hubs s
IsSoundOutcome s (Differs difference) = Unit {0}
