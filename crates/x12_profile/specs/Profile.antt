-- What the network asks of an X12 profile: a few functions of an interchange's bytes; where they judge
-- an arrival or read what it tells, by the edition of its number. No definition of the network reads
-- X12 otherwise, and no proof of it computes with these functions.
use Rattle.std.specs.Prelude.{ℕ, List, Bool}
use Rattle.x12_envelopes.specs.declared.party.Party.{Party}
use Rattle.x12_envelopes.specs.declared.moment.Moment.{Moment}
use Rattle.x12_judge.specs.Agreement.{TradingAgreement}
use Rattle.x12_acks.specs.Evidence.{Evidence as Piece}
use Rattle.x12_profile.specs.declared.edition.Edition.{Edition}
use Rattle.x12_profile.specs.Interchange.{Bytes, PlaceOfSet, PlacedTransactionSet, PlacedEvidence, Order, Book, Needs}
use Rattle.x12_judge.specs.declared.verdict.SetResult.{SetResult}

pub record Profile : Type 0 where
  -- whether ISA can be read; the rest says nothing where it can't
  pub has_header : Bytes → Bool
  -- ISA05 and ISA06, ISA07 and ISA08, ISA13
  pub sender : Bytes → Party
  pub receiver : Bytes → Party
  pub number : Bytes → ℕ
  -- GS06 of the groups that aren't FA, in their order
  pub groups : Bytes → List ℕ
  -- the transaction sets, in their order
  pub sets : Bytes → List PlacedTransactionSet
  -- whether a station may submit it: whole, each group with a set, no TA1, no FA group, no ST02
  -- twice in a group
  pub is_submission : Bytes → Bool
  -- whether it holds TA1s and no group, so that it is never answered
  pub is_silent : Bytes → Bool
  -- whether a station of this party refuses it as a whole (TA1 R)
  pub refuses : Edition → Party → Bytes → Bool
  -- what a station of this party says of the set at a place, under these agreements
  pub verdict : Edition → Party → List TradingAgreement → Bytes → PlaceOfSet → SetResult
  -- which numbers the reply takes; and the reply, at a moment and under the last numbers of the
  -- book
  pub needs : Edition → Party → List TradingAgreement → Bytes → Needs
  pub reply : Edition → Party → List TradingAgreement → Moment → Book → Bytes → Bytes
  -- the TA1 R with this note, at a moment and under this number
  pub refusal : ℕ → Party → Moment → ℕ → Bytes → Bytes
  -- what the first bytes say of the sets of the second, which their sender submitted; TA1s count
  -- from these hubs too
  pub evidence : Edition → List Party → Bytes → Bytes → List PlacedEvidence
  -- what the second bytes, a reply, say of the set of the first at a place
  pub result : Bytes → Bytes → PlaceOfSet → SetResult
  -- all evidence of an interchange for these submissions, with what fits none; and how many of its
  -- 997s are unclear
  pub pieces : Edition → List Party → List Bytes → Bytes → List Piece
  pub unclear : Bytes → ℕ
  -- whether orders may be written to a party: its address is plain, there are 1 to 400, and each
  -- order's segments can stand between ST and SE
  pub may_order : Party → List Order → Bool
  -- the interchange of these orders, from one party to another, under the numbers of the book
  pub orders : Party → Party → Moment → Book → List Order → Bytes
  -- whether a party may be a node's: capital letters and digits, then spaces
  pub is_plain : Party → Bool
