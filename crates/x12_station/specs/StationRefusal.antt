-- Why a station refuses an event: a table for each, whose first row that holds counts. An
-- agreement, a tick and a restart are never refused.
use Rattle.x12_numbers.specs.declared.book.TheConstants.{MAX_CONTROL_NUMBER}
use Rattle.x12_numbers.specs.Book.{are_new}
use Rattle.std.specs.Prelude.{min, List, [], ◌∷◌, true, false, ◌&&◌, not, Bool, Option, Some, None, bytes_eq, is_some}
use Rattle.x12_envelopes.specs.Row.{first_of_rows}
use Rattle.x12_envelopes.specs.declared.party.Party.{Party}
use Rattle.x12_envelopes.specs.declared.moment.Moment.{Moment}
use Rattle.x12_judge.specs.Agreement.{is_same_party}
use Rattle.x12_profile.specs.Interchange.{Bytes, Order, Book, Needs, book_for, is_within}
use Rattle.x12_profile.specs.Profile.{Profile}
use Rattle.x12_station.specs.History.{KeptArrival, filed}
use Rattle.x12_station.specs.Station.{Station, edition_next}

-- what a station says where it refuses
pub data StationRefusal : Type 0 where
  -- S1: the receiver is this station
  OwnAddress : StationRefusal
  -- S2, S3, S9: no orders, texts that can't be written, or too much
  NotWritable : StationRefusal
  -- S4: prepared bytes without a header
  BadHeader : StationRefusal
  -- S5: the sender isn't this station
  NotMine : StationRefusal
  -- S6, S7, S2, S8: not an interchange that a station may submit
  NotSubmission : StationRefusal
  -- S10: numbers that aren't above all that were used
  NotNew : StationRefusal
  -- S11: no number is left to write under
  Exhausted : StationRefusal
  -- S12: arriving bytes without a header
  Unreadable : StationRefusal

-- the book under which the next orders are written
abbrev pub book_of_orders : Station → Book
book_of_orders s = book_for s.book (record { reply = true; group = true })

-- the numbers of a book, none above the greatest that may be written
abbrev pub within_numbers : Book → Book
within_numbers book = record {
  interchange = min book.interchange MAX_CONTROL_NUMBER;
  group = min book.group MAX_CONTROL_NUMBER;
}

-- whether an answer that takes these numbers would be written under one that is too great
abbrev pub is_spent : Book → Needs → Bool
is_spent book needs = needs.reply && not (is_within (book_for book needs))

module _ (p : Profile) where
  -- prepared bytes
  abbrev pub prepared_refusal : Station → Bytes → Option StationRefusal
  prepared_refusal s x = first_of_rows (
      (not (p.has_header x), BadHeader)
      ∷ (not (is_same_party (p.sender x) s.me), NotMine)
      ∷ (is_same_party (p.receiver x) s.me, OwnAddress)
      ∷ (not (p.is_submission x), NotSubmission)
      ∷ (not (are_new s.book (p.number x ∷ []) (p.groups x)), NotNew)
      ∷ [])

  -- the interchange that is written of orders, under the next numbers, which may be too great
  abbrev pub written_orders : Station → Party → Moment → List Order → Bytes
  written_orders s to at texts = p.orders s.me to at (book_of_orders s) texts

  -- orders: their size is measured under numbers that may be written, and what is written of them
  -- is submitted like prepared bytes
  abbrev pub orders_refusal : Station → Party → Moment → List Order → Option StationRefusal
  orders_refusal s to at texts = first_of_rows (
      (is_same_party to s.me, OwnAddress)
      ∷ (not (p.may_order to texts), NotWritable)
      ∷ (
        not (p.is_submission
            (p.orders s.me to at (within_numbers (book_of_orders s)) texts)),
        NotWritable,
      )
      ∷ (not (is_within (book_of_orders s)), Exhausted)
      ∷ (is_some (prepared_refusal s (written_orders s to at texts)), NotWritable)
      ∷ [])

  -- the numbers that the answer to an arrival takes: none for bytes that are filed, or silent
  abbrev pub arrival_takes : Station → Bytes → Option KeptArrival → Needs
  arrival_takes s b None = p.needs (edition_next s) s.me s.agreements b
  arrival_takes s b (Some f) = record {
    reply = not (bytes_eq f.body b) && not (p.is_silent b);
    group = false;
  }

  -- arriving bytes
  abbrev pub arrival_refusal : Station → Bytes → Option StationRefusal
  arrival_refusal s b =
      let takes = arrival_takes s b (filed p s.items (p.sender b) (p.number b)) in
      first_of_rows (
      (not (p.has_header b), Unreadable)
      ∷ (is_spent s.book takes, Exhausted)
      ∷ [])
