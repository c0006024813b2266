-- What the rows of a query on a station's postings stand for.
use Rattle.sqlite.specs.Order.{Row, column}
use Rattle.sql_rows.specs.Keyed.{number_in}
use Rattle.x12_acks.specs.Accepted.{AcceptedSet}
use Rattle.x12_acks.specs.Submission.{TransactionSetKey}
use Rattle.x12_tables.specs.Party.{bytes_in, party_in}

-- the key in a row of a partner, a control number, the place of a group and that of a set
abbrev pub key_shown : Row → TransactionSetKey
key_shown r = record {
  sender = party_in (bytes_in (column r 0));
  icn = number_in (column r 1);
  group = number_in (column r 2);
  set = number_in (column r 3);
}

-- the posting in a row of its key, GS01, ST01, ST02 and its bytes
abbrev pub posting_shown : Row → AcceptedSet
posting_shown r = record {
  key = key_shown r;
  functional = bytes_in (column r 4);
  set = bytes_in (column r 5);
  number = bytes_in (column r 6);
  bytes = bytes_in (column r 7);
}
