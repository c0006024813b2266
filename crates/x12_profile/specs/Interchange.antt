-- The plain data that stations and hubs handle: an interchange is X12.5's, its groups and its
-- transaction sets are X12.6's. Parties, agreements and moments are those of the crates below.
use Rattle.x12_numbers.specs.Book.{Numbers}
use Rattle.x12_numbers.specs.declared.book.TheConstants.{MAX_CONTROL_NUMBER}
use Rattle.std.specs.Prelude.{ℕ, ◌+◌, List, Bool, ◌&&◌, ◌==◌, nat_le, if◌then◌else◌, map}
use Rattle.x12_acks.specs.Evidence.{FinalFate, fate_of_result}
use Rattle.x12_judge.specs.declared.verdict.SetResult.{SetResult}
use Rattle.x12_profile.specs.Edition.{fate_read}
use Rattle.x12_profile.specs.declared.edition.Edition.{Edition}

-- an interchange as it is sent: the bytes from ISA through IEA's terminator
abbrev pub Bytes : Type 0
Bytes = List ℕ

-- the place of a transaction set: its group among all groups, from 1, and its own in the group,
-- from 1
pub record PlaceOfSet : Type 0 where
  pub group : ℕ
  pub set : ℕ

abbrev pub is_place : PlaceOfSet → PlaceOfSet → Bool
is_place a b = (a.group == b.group) && (a.set == b.set)

-- a transaction set of an interchange: its place, its group's code (GS01), its identifier (ST01) and
-- its number (ST02), and its bytes from ST through its last terminator
pub record PlacedTransactionSet : Type 0 where
  pub place : PlaceOfSet
  pub functional : List ℕ
  pub set : List ℕ
  pub number : List ℕ
  pub bytes : Bytes

-- what an acknowledgment says of one set of an interchange
pub record PlacedEvidence : Type 0 where
  pub place : PlaceOfSet
  pub fate : FinalFate

-- what a verdict lets be told of each set, in their order, to a sender who reads by an edition
abbrev pub evidence_by :
    Edition → (PlaceOfSet → SetResult) → List PlacedTransactionSet → List PlacedEvidence
evidence_by by verdict sets = map (λ s. record {
  place = s.place;
  fate = fate_read by (fate_of_result (verdict s.place));
}) sets

-- the segments between ST and SE of an order, each a list of its elements
abbrev pub Order : Type 0
Order = List (List Bytes)

-- a book of control numbers: the last interchange number and the last group number that were used
abbrev pub Book : Type 0
Book = Numbers

abbrev pub is_within : Book → Bool
is_within book = nat_le book.interchange MAX_CONTROL_NUMBER && nat_le book.group MAX_CONTROL_NUMBER

-- which numbers a reply takes: one for the interchange, and one for its group
pub record Needs : Type 0 where
  pub reply : Bool
  pub group : Bool

-- the book once these numbers are taken
abbrev pub book_for : Book → Needs → Book
book_for book needs = record {
  interchange = if needs.reply then book.interchange + 1 else book.interchange;
  group = if needs.group then book.group + 1 else book.group;
}
