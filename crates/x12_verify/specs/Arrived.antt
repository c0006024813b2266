-- What is right of an arrival.
use Rattle.std.specs.Prelude.{◌≡◌, ◌≤◌, Option, Some, IsTrue}
use Rattle.x12_acks.specs.Reply.{due_reply, is_reply_due, takes_group_number}
use Rattle.x12_acks.specs.declared.reply_header.ReplyHeader.{ReplyHeader}
use Rattle.x12_envelopes.specs.declared.header.Header.{Header}
use Rattle.x12_envelopes.specs.declared.party.Party.{Party}
use Rattle.x12_inbound.specs.Filing.{FiledInterchange}
use Rattle.x12_judge.specs.Verdict.{InterchangeJudgement}
use Rattle.x12_numbers.specs.Book.{Numbers}
use Rattle.x12_profile.specs.declared.edition.Edition.{Edition}
use Rattle.x12_profile.specs.Interchange.{Bytes}
use Rattle.x12_profile.specs.X12.{x12}
use Rattle.x12_station.specs.Durable.{WasAnswered}
use Rattle.x12_station.specs.Stored.{Stored, filed_in}

-- What is kept is the reply that was due to an interchange with this header that deserves this, by
-- whoever these header segments name, under numbers that were taken; or nothing, where none was due.
pub record WasDueFrom (h : Header) (j : InterchangeJudgement) (own : ReplyHeader)
    (kept : Option Bytes) : Type 0 where
  pub reply : kept ≡ due_reply h j own.me own.at own.icn own.gcn
  pub icn_taken : IsTrue (is_reply_due h j) → 1 ≤ own.icn
  pub gcn_taken : IsTrue (takes_group_number j) → 1 ≤ own.gcn

-- these bytes and this reply, filed under the sender and the number of the bytes
abbrev pub filed_rightly : Bytes → Option Bytes → FiledInterchange
filed_rightly b r =
    record { partner = x12.sender b; icn = x12.number b; bytes = b; reply = r }

-- An arrival can be read, is filed under its own sender and number, and its reply was due by this
-- edition.
pub record IsRightArrival (s : Stored) (me : Party) (book : Numbers) (by : Edition) (b : Bytes)
    (r : Option Bytes) : Type 0 where
  pub header : IsTrue (x12.has_header b)
  pub filed : filed_in s (x12.sender b) (x12.number b) ≡ Some (filed_rightly b r)
  pub answered : WasAnswered by me book (filed_rightly b r)
