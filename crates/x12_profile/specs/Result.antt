-- Which final fates tell a transaction set's sender that its receiver took it over.
use Rattle.std.specs.Prelude.{Bool, true, false}
use Rattle.x12_acks.specs.Evidence.{FinalFate, accepted, noted, rejected}

-- whether a fate tells its sender that the receiver took the set over
abbrev pub counts_as_accepted : FinalFate → Bool
counts_as_accepted accepted = true
counts_as_accepted noted = true
counts_as_accepted rejected = false
