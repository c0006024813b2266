-- The profile of X12 004010: what the network reads of an interchange's bytes, and what a station
-- writes.
use Rattle.std.specs.Prelude.{ℕ, List, [], ◌∷◌, Bool, true, false, ◌&&◌, not, ◌==◌, map, filter, flat_map, length, bytes_eq, is_some, count_by, Ok}
use Rattle.std.specs.List.{enumerate_from, list_any, list_all}
use Rattle.x12_envelopes.specs.declared.party.Party.{Party}
use Rattle.x12_envelopes.specs.declared.header.Header.{Header}
use Rattle.x12_envelopes.specs.declared.moment.Moment.{Moment}
use Rattle.x12_envelopes.specs.Party.{is_plain_party}
use Rattle.x12_envelopes.specs.Envelope.{WrittenInterchange, written}
use Rattle.x12_envelopes.specs.Shape.{Interchange, FunctionalGroup, TransactionSet as ReadSet}
use Rattle.x12_judge.specs.Agreement.{TradingAgreement}
use Rattle.x12_judge.specs.Interchange.{reading_is_silent}
use Rattle.x12_judge.specs.Verdict.{InterchangeVerdict, refused, judged, InterchangeJudgement, judgement_of, group_is_acknowledgment}
use Rattle.x12_acks.specs.Reply.{reply_of, refusal_of, is_reply_due, takes_group_number}
use Rattle.x12_acks.specs.Answer.{Acknowledgment, unclear}
use Rattle.x12_acks.specs.Submission.{Submission, submission_of}
use Rattle.x12_acks.specs.Evidence.{Evidence as Piece, tells, unmatched, evidence_of}
use Rattle.x12_acks.specs.Accepted.{AcceptedSet, accepted_by_verdict, noted_by_verdict}
use Rattle.x12_acks.specs.Place.{accepted_by_reply, noted_by_reply}
use Rattle.x12_acks.specs.Told.{result_among}
use Rattle.x12_profile.specs.declared.edition.Edition.{Edition}
use Rattle.x12_profile.specs.declared.edition.Edition.TheVariants.{First, Second, Third}
use Rattle.x12_profile.specs.Edition.{fate_read, terms_by}
use Rattle.x12_profile.specs.Interchange.{Bytes, PlaceOfSet, PlacedTransactionSet, PlacedEvidence, Book, Needs}
use Rattle.x12_profile.specs.Profile.{Profile}
use Rattle.x12_judge.specs.declared.verdict.SetResult.{SetResult}
use Rattle.x12_profile.specs.Reading.{header_in, by_header, by_outline, by_both, nobody, answers_in}
use Rattle.x12_profile.specs.Order.{are_orders, order_interchange}

-- GS06 of the groups that aren't of acknowledgments
abbrev pub group_numbers : Interchange → List ℕ
group_numbers x = map (λ g. g.number) (filter (λ g. not (group_is_acknowledgment g)) x.groups)

-- the transaction sets of a group, by their places from 1
abbrev pub sets_of_group : ℕ × FunctionalGroup → List PlacedTransactionSet
sets_of_group g = map (λ s. record {
  place = record { group = g.0; set = s.0 };
  functional = g.1.functional;
  set = s.1.set;
  number = s.1.number;
  bytes = s.1.bytes;
}) (enumerate_from 1 g.1.sets)

-- the transaction sets of an interchange, by the places of their groups from 1
abbrev pub sets_by_place : Interchange → List PlacedTransactionSet
sets_by_place x = flat_map sets_of_group (enumerate_from 1 x.groups)

-- no ST02 stands twice
abbrev pub are_new_numbers : List ReadSet → Bool
are_new_numbers [] = true
are_new_numbers (s ∷ ss) =
    not (list_any (λ t. bytes_eq s.number t.number) ss) && are_new_numbers ss

-- a group that may be submitted: it isn't of acknowledgments, it has a transaction set, and no ST02
-- stands twice
abbrev pub is_order_group : FunctionalGroup → Bool
is_order_group g =
    not (group_is_acknowledgment g) && not (length g.sets == 0) && are_new_numbers g.sets

-- an interchange that may be submitted: no TA1, and a group, and each is such a group
abbrev pub is_order_outline : Interchange → Bool
is_order_outline x =
    length x.tas == 0 && not (length x.groups == 0) && list_all is_order_group x.groups

-- refused as a whole (TA1 R)
abbrev pub is_refused : InterchangeVerdict → Bool
is_refused (refused note) = true
is_refused (judged groups) = false

-- what an interchange with this header deserves at this station by an edition
abbrev pub judged_by :
    Edition → Party → List TradingAgreement → Header → Bytes → InterchangeJudgement
judged_by by me agreements h b = judgement_of me (terms_by by agreements) h b

-- the transaction sets that a station accepts of an interchange with this header, by its verdict; and
-- of these, those with errors noted
abbrev pub accepted_of :
    Edition → Party → List TradingAgreement → Bytes → Header → List AcceptedSet
accepted_of by me agreements b h =
    accepted_by_verdict h.sender h.icn (judged_by by me agreements h b).verdict

abbrev pub noted_of :
    Edition → Party → List TradingAgreement → Bytes → Header → List AcceptedSet
noted_of by me agreements b h =
    noted_by_verdict h.sender h.icn (judged_by by me agreements h b).verdict

-- the transaction sets of an interchange that a reply to it accepts; and of these, those with errors noted
abbrev pub accepted_in : Bytes → Bytes → List AcceptedSet
accepted_in b r = by_both [] (λ h x. accepted_by_reply h x (answers_in r)) b

abbrev pub noted_in : Bytes → Bytes → List AcceptedSet
noted_in b r = by_both [] (λ h x. noted_by_reply h x (answers_in r)) b

-- the result at a place, by which sets are accepted, and which of these with errors noted
abbrev pub result_at : PlaceOfSet → List AcceptedSet → List AcceptedSet → SetResult
result_at k noted accepted = result_among noted accepted k.group k.set

-- a reply that takes no number, as none is due
abbrev pub no_needs : Needs
no_needs = record { reply = false; group = false }

-- which numbers the reply takes to an interchange with this header
abbrev pub needs_of : Edition → Party → List TradingAgreement → Bytes → Header → Needs
needs_of by me agreements b h = record {
  reply = is_reply_due h (judged_by by me agreements h b);
  group = takes_group_number (judged_by by me agreements h b);
}

-- the reply to an interchange with this header, under the numbers of the book
abbrev pub reply_under :
    Edition → Party → List TradingAgreement → Moment → Book → Bytes → Header → WrittenInterchange
reply_under by me agreements at book b h =
    reply_of h (judged_by by me agreements h b) me at book.interchange book.group

-- what is submitted by sending these bytes
abbrev pub submission_in_bytes : Bytes → List Submission
submission_in_bytes x = by_both [] (λ h o. submission_of h x o ∷ []) x

-- what a piece of evidence says of a set, by place; of no set, where it fits none
abbrev pub told_by_piece : Piece → List PlacedEvidence
told_by_piece (tells key fate) = record {
  place = record { group = key.group; set = key.set };
  fate = fate;
} ∷ []
told_by_piece unmatched = []

-- evidence as it is read by an edition
abbrev pub piece_before : Piece → Piece
piece_before (tells key fate) = tells key (fate_read First fate)
piece_before unmatched = unmatched

abbrev pub pieces_read : Edition → List Piece → List Piece
pieces_read First pieces = map piece_before pieces
pieces_read Second pieces = pieces
pieces_read Third pieces = pieces

-- a set of a group of acknowledgments that isn't a 997
abbrev pub is_unclear : Acknowledgment → Bool
is_unclear unclear = true
is_unclear answer = false

-- ISA05 and ISA06
abbrev pub sender_of : Bytes → Party
sender_of b = by_header nobody (λ h. h.sender) b

-- the evidence of the first bytes for the sender of these interchanges, who has these hubs
abbrev pub pieces_for : List Party → List Bytes → Bytes → List Piece
pieces_for hubs xs b = evidence_of hubs (flat_map submission_in_bytes xs) (sender_of b) (answers_in b)

-- The profile, in the order of Profile.antt; its editions are 004010's, in envelopes of control versions
-- 00200 to 00401, and by the newest one to 00501. Bytes without a header come from nobody and to nobody, are refused, and
-- give empty lists, no numbers and no bytes.
unfoldable pub x12 : Profile
x12 = record {
  has_header = λ b. is_some (header_in b);
  sender = sender_of;
  receiver = by_header nobody (λ h. h.receiver);
  number = by_header 0 (λ h. h.icn);
  groups = by_outline [] group_numbers;
  sets = by_outline [] sets_by_place;
  is_submission = by_outline false is_order_outline;
  is_silent = by_outline false (λ x. reading_is_silent (Ok x));
  refuses = λ by me b. by_header true (λ h. is_refused (judged_by by me [] h b).verdict) b;
  verdict = λ by me agreements b k.
      result_at k (by_header [] (noted_of by me agreements b) b)
      (by_header [] (accepted_of by me agreements b) b);
  needs = λ by me agreements b. by_header no_needs (needs_of by me agreements b) b;
  reply = λ by me agreements at book b.
      by_header [] (λ h. written (reply_under by me agreements at book b h)) b;
  refusal = λ note me at icn b. by_header [] (λ h. written (refusal_of note h me at icn)) b;
  evidence = λ by hubs b x. flat_map told_by_piece (pieces_read by (pieces_for hubs (x ∷ []) b));
  result = λ b r k. result_at k (noted_in b r) (accepted_in b r);
  pieces = λ by hubs xs b. pieces_read by (pieces_for hubs xs b);
  unclear = λ b. count_by is_unclear (answers_in b);
  may_order = are_orders;
  orders = λ me to at book texts. written (order_interchange me to at book texts);
  is_plain = is_plain_party;
}
