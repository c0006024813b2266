-- What the rows of a query on a station's agreements stand for, and what agreements have to be.
use Rattle.std.specs.Prelude.{ℕ, Bool, List, [], ◌∷◌, ◌++◌, All}
use Rattle.std.specs.List.{IsDistinct}
use Rattle.sqlite.specs.Order.{Row, column}
use Rattle.sql_rows.specs.Keyed.{number_in}
use Rattle.x12_envelopes.specs.declared.party.Party.{Party}
use Rattle.x12_judge.specs.Agreement.{TradingAgreement, is_same_party}
use Rattle.x12_station.specs.Stored.{IsKeptAgreement}
use Rattle.x12_tables.specs.Party.{bytes_in, party_in}
use Rattle.x12_station_records.specs.StationContent.{lenient_numbered}
use Rattle.x12_station_records.specs.StationTables.{AgreedPair}

-- the pair in a row of its partner, GS01, ST01 and whether its agreement is lenient
abbrev pub pair_shown : Row → AgreedPair
pair_shown r = record {
  partner = party_in (bytes_in (column r 0));
  lenient = lenient_numbered (number_in (column r 3));
  functional = bytes_in (column r 1);
  set = bytes_in (column r 2);
}

-- an agreement of one pair
abbrev pub of_one_pair : Party → Bool → List ℕ × List ℕ → TradingAgreement
of_one_pair partner lenient pair = record {
  partner = partner;
  lenient = lenient;
  pairs = pair ∷ [];
}

-- an agreement with a pair more
abbrev pub with_pair : TradingAgreement → List ℕ × List ℕ → TradingAgreement
with_pair a pair = record a { pairs = a.pairs ++ pair ∷ [] }

-- one agreement stands for a partner, and each names a pair, and each pair once
pub record AreKept (agreements : List TradingAgreement) : Type 0 where
  pub agreed_once : IsDistinct (λ a b. is_same_party a.partner b.partner) agreements
  pub agreed : All IsKeptAgreement agreements
