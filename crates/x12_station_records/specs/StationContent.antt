-- What the tables of a station's records stand for, and what holds between the calls.
use Rattle.std.specs.Prelude.{if◌then◌else◌, ◌≡◌, ◌==◌, ◌&&◌, ℕ, Bool, false, List, [], ◌∷◌, map, IsTrue, Option, Some, None}
use Rattle.std.specs.Bool.{beq}
use Rattle.sqlite.specs.declared.types.Value.{Value}
use Rattle.sqlite.specs.declared.types.Value.TheVariants.{Blob}
use Rattle.sqlite.specs.Order.{Row, column}
use Rattle.sqlite.specs.State.{State}
use Rattle.sqlite.specs.Tree.{Trees}
use Rattle.sql_rows.specs.Keyed.{number_in, key_in, by_key}
use Rattle.x12_acks.specs.Accepted.{AcceptedSet}
use Rattle.x12_judge.specs.Agreement.{TradingAgreement, is_same_party}
use Rattle.x12_outbound.specs.declared.fate.Fate.{Fate}
use Rattle.x12_outbound.specs.declared.fate.Fate.TheVariants.{Pending, Accepted, Noted, Rejected}
use Rattle.x12_station.specs.Stored.{Stored, StoredSubmission, StoredSet, StoredArrival, IsSound}
use Rattle.x12_tables.specs.First.{first_row}
use Rattle.x12_tables.specs.OneRow.{whole}
use Rattle.x12_tables.specs.Party.{bytes_in, party_in}
use Rattle.x12_station_records.specs.StationNumbers.{AreMarked, KeptNumbers, numbers_kept_of, numbers_shown}
use Rattle.x12_station_records.specs.StationPlan.{HoldsRows}
use Rattle.x12_station_records.specs.StationTables.{AgreedPair}
use Rattle.x12_station_records.specs.declared.station_committing.NextRows.{NextRows}

-- Each row is its key, NULL in the key's own column, and the other columns.
-- whether an agreement of this number is lenient
abbrev pub lenient_numbered : ℕ → Bool
lenient_numbered n = n == 1

-- a pair of an agreement
abbrev pub pair_in : Row → AgreedPair
pair_in r = record {
  partner = party_in (bytes_in (column r 2));
  lenient = lenient_numbered (number_in (column r 4));
  functional = bytes_in (column r 3);
  set = bytes_in (column r 5);
}

-- a submission
abbrev pub submission_in : Row → StoredSubmission
submission_in r = record {
  seq = number_in (column r 2);
  icn = key_in r;
  receiver = party_in (bytes_in (column r 3));
  bytes = bytes_in (column r 4);
}

-- the fate that a number stands for
abbrev pub fate_numbered : ℕ → Fate
fate_numbered n =
    if n == 0 then Pending
    else (if n == 1 then Accepted
    else (if n == 3 then Noted
    else Rejected))

-- a transaction set of a submission
abbrev pub set_in : Row → StoredSet
set_in r = record {
  icn = number_in (column r 2);
  group = number_in (column r 3);
  set = number_in (column r 4);
  functional = bytes_in (column r 6);
  gcn = number_in (column r 5);
  number = bytes_in (column r 7);
  fate = fate_numbered (number_in (column r 8));
}

-- the reply in a value, if one was due
abbrev pub reply_in : Value → Option (List ℕ)
reply_in (Blob reply) = Some reply
reply_in _ = None

-- a first arrival
abbrev pub arrival_in : Row → StoredArrival
arrival_in r = record {
  seq = key_in r;
  filed = record {
    partner = party_in (bytes_in (column r 2));
    icn = number_in (column r 3);
    bytes = bytes_in (column r 5);
    reply = reply_in (column r 4);
  };
}

-- a posting
abbrev pub posting_in : Row → AcceptedSet
posting_in r = record {
  key = record {
    sender = party_in (bytes_in (column r 2));
    icn = number_in (column r 3);
    group = number_in (column r 4);
    set = number_in (column r 5);
  };
  functional = bytes_in (column r 6);
  set = bytes_in (column r 7);
  number = bytes_in (column r 8);
  bytes = bytes_in (column r 9);
}

-- the one row of numbers
abbrev pub kept_numbers_in : Row → KeptNumbers
kept_numbers_in r = numbers_shown (whole r)

-- an agreement of one pair, and one with a pair more in front
abbrev pub agreement_of : AgreedPair → TradingAgreement
agreement_of p = record {
  partner = p.partner;
  lenient = p.lenient;
  pairs = (p.functional, p.set) ∷ [];
}

abbrev pub with_first : AgreedPair → TradingAgreement → TradingAgreement
with_first p a = record a { pairs = (p.functional, p.set) ∷ a.pairs }

-- a pair is the first one of the first agreement, if that is with its partner and as lenient; if not,
-- it is in front as an agreement of its own
abbrev pub pair_joined : AgreedPair → List TradingAgreement → List TradingAgreement
pair_joined p [] = agreement_of p ∷ []
pair_joined p (a ∷ as1) =
    if is_same_party p.partner a.partner && beq p.lenient a.lenient
    then with_first p a ∷ as1
    else agreement_of p ∷ a ∷ as1

-- the agreements of these pairs, where pairs of one partner stand side by side
abbrev pub agreements_of : List AgreedPair → List TradingAgreement
agreements_of [] = []
agreements_of (p ∷ ps) = pair_joined p (agreements_of ps)

-- what the tables stand for: each one's rows by rising key
abbrev pub content_of : Trees → Stored
content_of db = record {
  origin = (kept_numbers_in (first_row (db 0))).origin;
  book = (kept_numbers_in (first_row (db 0))).book;
  seq = (kept_numbers_in (first_row (db 0))).seq;
  handed = (kept_numbers_in (first_row (db 0))).handed;
  agreements = agreements_of (map pair_in (by_key (db 1)));
  submitted = map submission_in (by_key (db 3));
  sets = map set_in (by_key (db 4));
  arrived = map arrival_in (by_key (db 6));
  postings = map posting_in (by_key (db 8));
}

-- Between the calls no transaction is open; and while the store is, what is seen is committed, and is
-- the tables of sound records of the newest version, with these numbers for the next rows.
pub record IsValid (next : NextRows) (s : State) : Type 0 where
  pub outside : s.in_transaction ≡ false
  pub settled : IsTrue s.is_open → s.now ≡ s.committed
  pub holds : IsTrue s.is_open → HoldsRows next s.now (content_of s.now.trees)
  pub sound : IsTrue s.is_open → IsSound (content_of s.now.trees)
  pub marked : IsTrue s.is_open → AreMarked (numbers_kept_of (content_of s.now.trees))

-- what may be held after a crash at this moment
abbrev pub MayHold : State → Stored → Type 0
MayHold s d = (db : Trees) × s.may_leave db × (d ≡ content_of db)
