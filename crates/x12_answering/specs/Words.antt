-- The words of a command line that tell what answering is told (X12.5, ISA05 to ISA10 and ISA13;
-- X12.6, GS01, GS06 and ST01).
use Rattle.std.specs.Prelude.{◌≡◌, ℕ, Bool, ◌&&◌, not, List, [], ◌∷◌, length, take, drop, map, Option, Some, None, is_none, if◌then◌else◌, ◌==◌, nat_le, nat_lt}
use Rattle.std.specs.List.{list_all, list_any}
use Rattle.x12_envelopes.specs.declared.party.Party.{Party}
use Rattle.x12_envelopes.specs.Byte.{byte_is_capital_or_digit, number_of_digits}
use Rattle.x12_envelopes.specs.Party.{party_of, is_plain_party}
use Rattle.x12_envelopes.specs.Moment.{text_is_date, text_is_time}
use Rattle.x12_envelopes.specs.Row.{first_of_rows}
use Rattle.x12_envelopes.specs.Writing.{texts}
use Rattle.x12_answering.specs.declared.options.Options.{Options}
use Rattle.x12_answering.specs.declared.words.OptionWords.{OptionWords}
use Rattle.x12_answering.specs.declared.words.OptionFault.{OptionFault}
use Rattle.x12_answering.specs.declared.words.OptionFault.TheVariants.{Me, Icn, Gcn, Date, Time, Pair}

-- capital letters and digits alone
abbrev pub bytes_are_capitals_or_digits : List ℕ → Bool
bytes_are_capitals_or_digits word = list_all byte_is_capital_or_digit word

-- the party, where it is a plain one
abbrev pub plain_party : Option Party → Option Party
plain_party None = None
plain_party (Some p) = if is_plain_party p then Some p else None

-- the address of a plain party: two characters of the qualifier, then the identifier
unfoldable pub address_in : List ℕ → Option Party
address_in word =
    if bytes_are_capitals_or_digits word && nat_le 2 (length word)
    then plain_party (party_of (take 2 word) (drop 2 word)) else None

-- the number, where it is one from 1 to 999999999
abbrev pub number_in_range : Option ℕ → Option ℕ
number_in_range None = None
number_in_range (Some n) = if nat_lt 0 n && nat_le n 999999999 then Some n else None

-- a control number: from 1 to 999999999, in one to nine digits
unfoldable pub control_number_in : List ℕ → Option ℕ
control_number_in word = number_in_range (number_of_digits word)

-- a date with its century, CCYYMMDD
unfoldable pub is_day : List ℕ → Bool
is_day word = length word == 8 && text_is_date word

-- a time of day, HHMM
unfoldable pub is_hour : List ℕ → Bool
is_hour word = length word == 4 && text_is_time word

-- a pair: five capital letters or digits, GS01 then ST01
unfoldable pub pair_in_word : List ℕ → Option (List ℕ × List ℕ)
pair_in_word word =
    if bytes_are_capitals_or_digits word && length word == 5
    then Some (take 2 word, drop 2 word) else None

-- why words give no options: the first row whose condition holds
unfoldable pub words_fault : OptionWords → Option OptionFault
words_fault w = first_of_rows (
    (is_none (address_in w.me.now), Me)
    ∷ (is_none (control_number_in w.icn.now), Icn)
    ∷ (is_none (control_number_in w.gcn.now), Gcn)
    ∷ (not (is_day w.date.now), Date)
    ∷ (not (is_hour w.time.now), Time)
    ∷ (list_any (λ word. is_none (pair_in_word word)) (texts w.pairs.now), Pair)
    ∷ [])

-- the options are what the words give
pub record AreRead (w : OptionWords) (o : Options) : Type 0 where
  pub me : address_in w.me.now ≡ Some o.me
  pub icn : control_number_in w.icn.now ≡ Some o.icn
  pub gcn : control_number_in w.gcn.now ≡ Some o.gcn
  pub date : o.at.date ≡ w.date.now
  pub time : o.at.time ≡ w.time.now
  pub lenient : o.lenient ≡ w.lenient
  pub pairs : map pair_in_word (texts w.pairs.now) ≡ map (λ pair. Some pair) o.pairs.items
