-- The reply to an interchange: an interchange acknowledgment (X12.5, TA1) and a functional
-- acknowledgment (997), as an interchange to be written.
use Rattle.std.specs.Prelude.{ℕ, Bool, ◌&&◌, ◌||◌, not, List, [], ◌∷◌, ◌++◌, map, length}
use Rattle.std.specs.Prelude.{if◌then◌else◌, ◌==◌, codes, decimal, flat_map, option_to_list}
use Rattle.std.specs.Prelude.{◌≡◌, true, ◌⊎◌, Option, Some, None, option_map, unwrap_or, is_some}
use Rattle.std.specs.List.{enumerate_from, list_any}
use Rattle.x12_envelopes.specs.Place.{its_place, its_item}
use Rattle.x12_envelopes.specs.declared.party.Party.{Party}
use Rattle.x12_envelopes.specs.declared.header.Header.{Header}
use Rattle.x12_envelopes.specs.declared.moment.Moment.{Moment}
use Rattle.x12_envelopes.specs.Row.{first_of_rows}
use Rattle.x12_envelopes.specs.Letter.{letter, is_one_of}
use Rattle.x12_envelopes.specs.Byte.{zero_padded_number}
use Rattle.x12_envelopes.specs.Party.{is_plain_party}
use Rattle.x12_envelopes.specs.Segment.{Segment}
use Rattle.x12_envelopes.specs.Envelope.{WrittenInterchange, WrittenGroup, WrittenSet, written}
use Rattle.x12_judge.specs.declared.verdict.SetCode.{SetCode}
use Rattle.x12_judge.specs.declared.verdict.SetResult.{SetResult}
use Rattle.x12_judge.specs.declared.verdict.SetResult.TheVariants.{Accepted, Noted, Rejected}
use Rattle.x12_judge.specs.declared.verdict.GroupRefusal.{GroupRefusal}
use Rattle.x12_judge.specs.declared.verdict.SegmentCode.{SegmentCode}
use Rattle.x12_judge.specs.declared.verdict.ElementCode.{ElementCode}
use Rattle.x12_acks.specs.declared.reply_header.ReplyHeader.{ReplyHeader}
use Rattle.x12_judge.specs.Code.{set_code_number, group_refusal_number, segment_code_number}
use Rattle.x12_judge.specs.Code.{element_code_number}
use Rattle.x12_judge.specs.Segment.{ElementNote}
use Rattle.x12_judge.specs.Set.{TransactionSetVerdict, is_noted, ReportedNote, segment}
use Rattle.x12_judge.specs.Set.{element}
use Rattle.x12_judge.specs.Group.{FunctionalGroupVerdict}
use Rattle.x12_judge.specs.Verdict.{InterchangeVerdict, refused, judged, InterchangeJudgement}

-- AK501: how a transaction set fares
abbrev pub code_of_result : SetResult → List ℕ
code_of_result Accepted = codes "A"
code_of_result Noted = codes "E"
code_of_result Rejected = codes "R"

-- AK502: what is wrong with a transaction set
abbrev pub code_of_set : SetCode → List ℕ
code_of_set code = decimal (set_code_number code)

-- AK905: why a functional group is refused
abbrev pub refusal_code : GroupRefusal → List ℕ
refusal_code refusal = decimal (group_refusal_number refusal)

-- AK304: what is wrong with a segment
abbrev pub segment_code : SegmentCode → List ℕ
segment_code code = decimal (segment_code_number code)

-- AK403: what is wrong with an element
abbrev pub element_code : ElementCode → List ℕ
element_code code = decimal (element_code_number code)

-- an element, left off where it is empty
abbrev pub unless_empty : List ℕ → Segment
unless_empty [] = []
unless_empty (b ∷ bytes) = (b ∷ bytes) ∷ []

-- AK3: a segment's identifier, its position in the set, and what is wrong
abbrev pub ak3_segment : List ℕ → ℕ → SegmentCode → Segment
ak3_segment name position code =
    codes "AK3" ∷ name ∷ decimal position ∷ [] ∷ segment_code code ∷ []

-- AK4: an element's place in its segment, its data element number, what is wrong, and its copy
abbrev pub ak4_segment : ElementNote → Segment
ak4_segment n =
    codes "AK4" ∷ decimal n.place ∷ decimal n.reference ∷ element_code n.code ∷ unless_empty n.copy

-- AK3 of a segment, AK4 of an element
abbrev pub note_segment : ReportedNote → Segment
note_segment (segment name position code) = ak3_segment name position code
note_segment (element n) = ak4_segment n

-- AK5: how the set fares, and its codes
abbrev pub ak5_segment : TransactionSetVerdict → Segment
ak5_segment v = codes "AK5" ∷ code_of_result v.result ∷ map code_of_set v.codes

-- a transaction set's part of the 997: AK2, its notes, AK5
unfoldable pub set_answer : TransactionSetVerdict → List Segment
set_answer v =
    (codes "AK2" ∷ v.set ∷ v.number ∷ []) ∷ map note_segment v.notes ++ ak5_segment v ∷ []

-- some set is accepted with errors noted
abbrev pub some_are_noted : List TransactionSetVerdict → Bool
some_are_noted sets = list_any (λ v. is_noted v.result) sets

-- AK901: R where the group is refused; E where each set is accepted, and errors were noted in one; A where
-- each is accepted; R where none is; else P
unfoldable pub code_of_group : FunctionalGroupVerdict → List ℕ
code_of_group v = unwrap_or (first_of_rows (
    (is_some v.refused, codes "R")
    ∷ (v.accepted == length v.sets && some_are_noted v.sets, codes "E")
    ∷ (v.accepted == length v.sets, codes "A")
    ∷ (v.accepted == 0, codes "R")
    ∷ [])) (codes "P")

-- AK9: how the group fares, and the sets that it includes, that were received and that are accepted
abbrev pub ak9_segment : FunctionalGroupVerdict → Segment
ak9_segment v =
    codes "AK9" ∷ code_of_group v
    ∷ decimal v.included ∷ decimal v.received ∷ decimal v.accepted
    ∷ option_to_list (option_map refusal_code v.refused)

-- the 997 of a functional group, with its control number: AK1, its sets, AK9
unfoldable pub group_answer : ℕ → FunctionalGroupVerdict → WrittenSet
group_answer number v = record {
  header = codes "ST" ∷ codes "997" ∷ zero_padded_number 4 number ∷ [];
  segments =
      (codes "AK1" ∷ v.functional ∷ v.number_text ∷ [])
      ∷ flat_map set_answer v.sets ++ ak9_segment v ∷ [];
}

-- GS of the acknowledgments: between the parties of the first group, the other way round
abbrev pub answer_header : Moment → ℕ → FunctionalGroupVerdict → Segment
answer_header at gcn first =
    codes "GS" ∷ codes "FA" ∷ first.receiver ∷ first.sender ∷ at.date ∷ at.time ∷ decimal gcn
    ∷ codes "X" ∷ codes "004010" ∷ []

-- the 997 of each group, numbered 0001 upwards
abbrev pub numbered_answers : List FunctionalGroupVerdict → List WrittenSet
numbered_answers groups = map (λ g. group_answer (its_place g) (its_item g)) (enumerate_from 1 groups)

-- the functional group of acknowledgments: none where no group was judged
unfoldable pub answer_groups : Moment → ℕ → List FunctionalGroupVerdict → List WrittenGroup
answer_groups at gcn [] = []
answer_groups at gcn (first ∷ more) = record {
  header = answer_header at gcn first;
  sets = numbered_answers (first ∷ more);
} ∷ []

-- TA1: number, date and time of the interchange that is answered, A or R, and a note
abbrev pub ta1_segment : Header → List ℕ → ℕ → Segment
ta1_segment h code note =
    codes "TA1" ∷ zero_padded_number 9 h.icn ∷ h.date ∷ h.time
    ∷ code ∷ zero_padded_number 3 note ∷ []

-- who may answer an interchange: its receiver, or a plain party
abbrev pub MayAnswer : Header → Party → Type 0
MayAnswer h me = (me ≡ h.receiver) ⊎ (is_plain_party me ≡ true)

-- the usage indicator of a reply: P, T or I as it came, and P for any other
abbrev pub reply_usage : ℕ → ℕ
reply_usage usage = if is_one_of (codes "PTI") usage then usage else letter (codes "P")

-- an interchange from this node to the sender of the one that is answered, with its delimiters
unfoldable pub reply_to :
    Header → Party → Moment → ℕ → List Segment → List WrittenGroup → WrittenInterchange
reply_to h me at icn tas groups = record {
  delims = h.delims;
  sender = me;
  receiver = h.sender;
  date = at.date;
  time = at.time;
  icn = icn;
  ack = letter (codes "0");
  usage = reply_usage h.usage;
  tas = tas;
  groups = groups;
}

-- ISA14 asks for an interchange acknowledgment
abbrev pub asks_acknowledgment : Header → Bool
asks_acknowledgment h = h.ack == letter (codes "1")

-- TA1 A, where one was asked for
abbrev pub accepted_tas : Header → List Segment
accepted_tas h = if asks_acknowledgment h then ta1_segment h (codes "A") 0 ∷ [] else []

-- the TA1s of the reply: R and the note of a refused interchange, else A where one was asked for
abbrev pub reply_tas : Header → InterchangeVerdict → List Segment
reply_tas h (refused note) = ta1_segment h (codes "R") note ∷ []
reply_tas h (judged groups) = accepted_tas h

abbrev pub judged_groups : InterchangeVerdict → List FunctionalGroupVerdict
judged_groups (refused note) = []
judged_groups (judged groups) = groups

-- the reply to an interchange with this header that deserves this, under these control numbers
unfoldable pub reply_of :
    Header → InterchangeJudgement → Party → Moment → ℕ → ℕ → WrittenInterchange
reply_of h j me at icn gcn =
    reply_to h me at icn (reply_tas h j.verdict) (answer_groups at gcn (judged_groups j.verdict))

-- the same, of what its header segments say of whoever answers
abbrev pub reply_from : Header → InterchangeJudgement → ReplyHeader → WrittenInterchange
reply_from h j own = reply_of h j own.me own.at own.icn own.gcn

-- a reply is due: the interchange isn't silent, and there is a TA1 or a group to write
unfoldable pub is_reply_due : Header → InterchangeJudgement → Bool
is_reply_due h j =
    not j.silent
    && (not (length (reply_tas h j.verdict) == 0) || not (length (judged_groups j.verdict) == 0))

-- the reply to an interchange, where one is due, and else none
unfoldable pub due_reply :
    Header → InterchangeJudgement → Party → Moment → ℕ → ℕ → Option (List ℕ)
due_reply h j me at icn gcn =
    if is_reply_due h j then Some (written (reply_of h j me at icn gcn)) else None

-- the reply takes a group control number too
unfoldable pub takes_group_number : InterchangeJudgement → Bool
takes_group_number j = not j.silent && not (length (judged_groups j.verdict) == 0)

-- the refusal of a whole interchange with a note: one TA1
unfoldable pub refusal_of : ℕ → Header → Party → Moment → ℕ → WrittenInterchange
refusal_of note h me at icn = reply_to h me at icn (ta1_segment h (codes "R") note ∷ []) []
