-- A party as its 17 bytes.
use Rattle.std.specs.Prelude.{◌≡◌, ℕ, List, [], take, drop, ◌++◌, length}
use Rattle.sqlite.specs.declared.types.Value.{Value}
use Rattle.sqlite.specs.declared.types.Value.TheVariants.{Blob}
use Rattle.x12_envelopes.specs.declared.party.Party.{Party}

-- the bytes in a value
abbrev pub bytes_in : Value → List ℕ
bytes_in (Blob b) = b
bytes_in _ = []

-- the party of 17 bytes
abbrev pub party_in : List ℕ → Party
party_in b = record { qualifier = take 2 b; id = drop 2 b }

-- a party's 17 bytes
abbrev pub bytes_of_party : Party → List ℕ
bytes_of_party p = p.qualifier ++ p.id

-- a qualifier has two bytes, and an identifier fifteen
abbrev pub IsWideParty : Party → Type 0
IsWideParty p = (length p.qualifier ≡ 2) × (length p.id ≡ 15)

-- the bytes of a value are a party's, of which there are 17
abbrev pub IsParty : Value → Type 0
IsParty v = length (bytes_in v) ≡ 17
