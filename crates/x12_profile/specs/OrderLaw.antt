-- What a station writes of orders is a submission, whose transaction sets are the orders.
use Rattle.std.specs.Prelude.{◌≡◌, ℕ, ◌≤◌, List, [], ◌∷◌, true, length, map, IsTrue, codes}
use Rattle.std.specs.List.{enumerate_from}
use Rattle.x12_envelopes.specs.declared.party.Party.{Party}
use Rattle.x12_envelopes.specs.declared.moment.Moment.{Moment}
use Rattle.x12_envelopes.specs.Byte.{zero_padded_number}
use Rattle.x12_envelopes.specs.Envelope.{set_segments}
use Rattle.x12_envelopes.specs.Fitting.{interchange_fits}
use Rattle.x12_envelopes.specs.Segment.{text_of}
use Rattle.x12_profile.specs.Interchange.{Bytes, Book, Order, PlacedTransactionSet, is_within}
use Rattle.x12_profile.specs.Order.{order_delimiters, order_interchange, order_set}
use Rattle.x12_profile.specs.X12.{x12}

-- orders that a station may write: its own party is plain, the orders may be written to the
-- receiver, and the control numbers have at most nine digits
pub record MayWrite (me to : Party) (book : Book) (texts : List Order) : Type 0 where
  pub plain : IsTrue (x12.is_plain me)
  pub orders : IsTrue (x12.may_order to texts)
  pub within : IsTrue (is_within book)

-- an order as a transaction set of the interchange: in the only group, under its own place
abbrev pub order_at : ℕ × Order → PlacedTransactionSet
order_at place = record {
  place = record { group = 1; set = place.0 };
  functional = codes "PO";
  set = codes "850";
  number = zero_padded_number 4 place.0;
  bytes = text_of order_delimiters (set_segments (order_set place));
}

-- x is a submission from one party to another under the numbers of the book, and its transaction
-- sets are these orders, each once and in their order
pub record SubmitsOrders (me to : Party) (book : Book) (texts : List Order) (x : Bytes) : Type 0 where
  pub submission : IsTrue (x12.is_submission x)
  pub sender : x12.sender x ≡ me
  pub receiver : x12.receiver x ≡ to
  pub number : x12.number x ≡ book.interchange
  pub groups : x12.groups x ≡ book.group ∷ []
  pub sets : x12.sets x ≡ map order_at (enumerate_from 1 texts)

-- What is written of orders is their submission exactly if it has at most 1,048,576 bytes. Then it
-- fits, so that it is read back as it was meant.
pub record OrdersAreSubmitted : Type 0 where
  pub fit :
      (me to : Party) (at : Moment) (book : Book) (texts : List Order) →
      MayWrite me to book texts → length (x12.orders me to at book texts) ≤ 1048576 →
      interchange_fits (order_interchange me to at book texts) ≡ true
  pub submitted :
      (me to : Party) (at : Moment) (book : Book) (texts : List Order) →
      MayWrite me to book texts → length (x12.orders me to at book texts) ≤ 1048576 →
      SubmitsOrders me to book texts (x12.orders me to at book texts)
  pub only :
      (me to : Party) (at : Moment) (book : Book) (texts : List Order) →
      IsTrue (x12.is_submission (x12.orders me to at book texts)) →
      length (x12.orders me to at book texts) ≤ 1048576
