-- What is to be kept of a new arrival: its reply and its postings, by its judgement.
use Rattle.std.specs.Prelude.{◌≡◌, List, Bool, Option, Some, None, if◌then◌else◌, IsTrue}
use Rattle.x12_numbers.specs.Book.{Numbers}
use Rattle.x12_envelopes.specs.declared.header.Header.{Header}
use Rattle.x12_envelopes.specs.declared.moment.Moment.{Moment}
use Rattle.x12_envelopes.specs.declared.party.Party.{Party}
use Rattle.x12_judge.specs.Agreement.{TradingAgreement}
use Rattle.x12_acks.specs.declared.need.Needs.{Needs as CodeNeeds}
use Rattle.x12_acks.specs.Reply.{due_reply}
use Rattle.x12_inbound.specs.Arrival.{filing_of, arrival, ArePostingsOf}
use Rattle.x12_inbound.specs.Filing.{reply_bytes}
use Rattle.x12_profile.specs.declared.edition.Edition.{Edition}
use Rattle.x12_profile.specs.Interchange.{Bytes, Needs, book_for, is_within}
use Rattle.x12_profile.specs.X12.{judged_by, needs_of}
use Rattle.x12_station.specs.declared.fault.StationFault.{StationFault}
use Rattle.x12_station.specs.declared.fault.StationFault.TheVariants.{Exhausted}
use Rattle.x12_station.specs.declared.replying.Draft.{Draft}

-- what the code's needs stand for
abbrev pub needs_view : CodeNeeds → Needs
needs_view n = record { reply = n.reply; group = n.group }

-- no number is left
abbrev pub exhausted : Bool → Option StationFault
exhausted spent = if spent then Some Exhausted else None

-- The reply that is due by this edition at this station under these agreements, written under the
-- numbers that follow these, and the arrival filed with it.
pub record IsDraft (by : Edition) (me : Party) (agreements : List TradingAgreement) (at : Moment)
    (last : Numbers) (h : Header) (b : Bytes) (d : Draft) : Type 0 where
  pub book : d.book ≡ book_for last (needs_of by me agreements b h)
  pub reply :
      reply_bytes d.reply
      ≡ due_reply h (judged_by by me agreements h b) me at d.book.interchange d.book.group
  pub kept :
      d.kept
      ≡ filing_of (arrival h.sender h.icn b) (judged_by by me agreements h b)
      (reply_bytes d.reply)
  pub theirs : ArePostingsOf d.kept.filed d.kept.postings
  pub within : IsTrue (is_within d.book)
