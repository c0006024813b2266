-- A trading partner's address in an interchange: qualifier and identifier (X12.5, ISA05 to ISA08).
use Rattle.std.specs.Prelude.{Option, Some, None, if◌then◌else◌, replicate, ◌++◌, ℕ, ◌-◌, Bool, ◌&&◌, List, length, take, ◌==◌, nat_le}
use Rattle.std.specs.List.{list_all, suffix_len}
use Rattle.x12_envelopes.specs.declared.party.Party.{Party}
use Rattle.x12_envelopes.specs.Letter.{space}
use Rattle.x12_envelopes.specs.Byte.{byte_is_capital_or_digit}

-- the identifier without the spaces behind it
abbrev pub identifier_of_party : Party → List ℕ
identifier_of_party p = take (length p.id - suffix_len (λ b. b == space) p.id) p.id

-- a plain address: two capital letters or digits in the qualifier; in the identifier 2 to 15 of
-- them, then spaces up to fifteen bytes
unfoldable pub is_plain_party : Party → Bool
is_plain_party p =
    length p.qualifier == 2 && length p.id == 15
    && list_all byte_is_capital_or_digit p.qualifier
    && nat_le 2 (length (identifier_of_party p))
    && list_all byte_is_capital_or_digit (identifier_of_party p)

-- the party with an identifier, padded with spaces to fifteen bytes
unfoldable pub party_of : List ℕ → List ℕ → Option Party
party_of qualifier identifier =
    if nat_le (length identifier) 15 then
    Some record { qualifier = qualifier; id = identifier ++ replicate (15 - length identifier) space }
    else None
