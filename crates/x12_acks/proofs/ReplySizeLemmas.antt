-- How many bytes a reply takes, by its verdicts.
use Rattle.std.proofs.Common.{◌≡◌, ◌≤◌, ℕ, List, [], ◌∷◌, ◌++◌, length, decimal, codes, ap, arith, flat_map, append-nil}
use Rattle.std.specs.List.{AllByRecursion, sum_by}
use Rattle.std.proofs.lemmas.List.Sums.{sum_by-cons}
use Rattle.x12_envelopes.specs.declared.delimiters.Delims.{Delims}
use Rattle.x12_envelopes.specs.declared.party.Party.{Party}
use Rattle.x12_envelopes.specs.declared.moment.Moment.{Moment}
use Rattle.x12_envelopes.specs.declared.header.Header.{Header}
use Rattle.x12_envelopes.specs.Byte.{zero_padded_number}
use Rattle.x12_envelopes.specs.Segment.{Segment, segment_text}
use Rattle.x12_envelopes.specs.Envelope.{WrittenGroup, WrittenInterchange, set_segments, group_segments}
use Rattle.x12_envelopes.proofs.WrittenLengthLemmas.{length_padded, Sizes, written_length}
use Rattle.x12_judge.specs.Group.{FunctionalGroupVerdict}
use Rattle.x12_acks.specs.Reply.{answer_header, numbered_answers, answer_groups, ta1_segment, reply_to}
use Rattle.x12_acks.specs.Length.{IsShort}
use Rattle.x12_acks.proofs.SizeLemmas.{text_sized, text_size, size-cons, size_between, short_decimal, nine_digits}
use Rattle.x12_acks.proofs.GroupSizeLemmas.{IsShortGroup, sets_in, answers_size}
use Rattle.x12_acks.proofs.AnswerGroupLemmas.{numbered}

-- a header that was read: its sender's size, and the sizes of what TA1 repeats
pub record IsShortHeader (h : Header) : Type 0 where
  pub qualifier : length h.sender.qualifier ≡ 2
  pub id : length h.sender.id ≡ 15
  pub date : length h.date ≤ 6
  pub time : length h.time ≤ 4
  pub number : h.icn ≤ 999999999

nine_padded : (n : ℕ) → n ≤ 999999999 → length (zero_padded_number 9 n) ≡ 9
nine_padded n below = length_padded 9 n (omega arith) (omega (arith, below)) (omega (arith, below))

pub ta1_size : (d : Delims) (h : Header) (code : List ℕ) (note : ℕ) → IsShortHeader h → length code ≤ 1 → note ≤ 999 → text_size d (ta1_segment h code note ∷ []) ≤ 40
ta1_size d h code note short one few =
    let alone = size-cons d (ta1_segment h code note) [] in
    let whole = text_sized d (codes "TA1") (zero_padded_number 9 h.icn ∷ h.date ∷ h.time ∷ code ∷ zero_padded_number 3 note ∷ []) in
    let digits = length_padded 3 note (omega arith) (omega (arith, few)) (omega (arith, few)) in
    omega (arith, alone, whole, digits, nine_padded h.icn short.number, short.date, short.time, one)

gs_size : (d : Delims) (at : Moment) (gcn : ℕ) (v : FunctionalGroupVerdict) → IsShortGroup v → length at.date ≡ 8 → length at.time ≡ 4 → gcn ≤ 999999999 → length (segment_text d (answer_header at gcn v)) ≤ 71
gs_size d at gcn v short date time small =
    let whole = text_sized d (codes "GS") (codes "FA" ∷ v.receiver ∷ v.sender ∷ at.date ∷ at.time ∷ decimal gcn ∷ codes "X" ∷ codes "004010" ∷ []) in
    omega (arith, whole, short.receiver, short.sender, date, time, nine_digits gcn small)

ge_size : (d : Delims) (count gcn : ℕ) → count ≤ 32 → gcn ≤ 999999999 → length (segment_text d (codes "GE" ∷ decimal count ∷ decimal gcn ∷ [])) ≤ 16
ge_size d count gcn few small =
    let digits = short_decimal 2 count (omega arith) (omega (arith, few)) (omega (arith, few)) in
    omega (arith, text_sized d (codes "GE") (decimal count ∷ decimal gcn ∷ []), digits, nine_digits gcn small)

-- the group of acknowledgments
groups_size : (d : Delims) (at : Moment) (gcn : ℕ) (vs : List FunctionalGroupVerdict) → AllByRecursion IsShortGroup vs → length vs ≤ 32 → sets_in vs ≤ 400 → length at.date ≡ 8 → length at.time ≡ 4 → gcn ≤ 999999999 → text_size d (flat_map group_segments (answer_groups at gcn vs)) ≤ 396487
unfolding answer_groups
groups_size d at gcn [] short few sets date time small = omega arith
groups_size d at gcn (v ∷ vs) short few sets date time small =
    let answers = numbered_answers (v ∷ vs) in
    let ge = codes "GE" ∷ decimal (length answers) ∷ decimal gcn ∷ [] in
    let segments = answer_header at gcn v ∷ flat_map set_segments answers ++ ge ∷ [] in
    let alone = ap (text_size d) (append-nil segments) in
    let whole = size_between d (answer_header at gcn v) ge (flat_map set_segments answers) in
    let between = answers_size d 1 (v ∷ vs) short (omega (arith, few)) sets in
    let end = ge_size d (length answers) gcn (omega (arith, numbered (v ∷ vs), few)) small in
    omega (arith, alone, whole, between, end, gs_size d at gcn v short.0 date time small)

-- one group, of one 997 for each verdict
one_group : (at : Moment) (gcn : ℕ) (vs : List FunctionalGroupVerdict) → length (answer_groups at gcn vs) ≤ 1
unfolding answer_groups
one_group at gcn [] = omega arith
one_group at gcn (v ∷ vs) = omega arith

few_answers : (at : Moment) (gcn : ℕ) (vs : List FunctionalGroupVerdict) → length vs ≤ 32 → sum_by (λ (g : WrittenGroup). length g.sets) (answer_groups at gcn vs) ≤ 32
unfolding answer_groups
few_answers at gcn [] few = omega arith
few_answers at gcn (v ∷ vs) few =
    let g : WrittenGroup = record { header = answer_header at gcn v; sets = numbered_answers (v ∷ vs) } in
    omega (arith, sum_by-cons (λ (g : WrittenGroup). length g.sets) g [], numbered (v ∷ vs), few)

iea_size : (d : Delims) (count icn : ℕ) → count ≤ 1 → icn ≤ 999999999 → length (segment_text d (codes "IEA" ∷ decimal count ∷ zero_padded_number 9 icn ∷ [])) ≤ 16
iea_size d count icn few small =
    let digits = short_decimal 1 count (omega arith) (omega (arith, few)) (omega (arith, few)) in
    omega (arith, text_sized d (codes "IEA") (decimal count ∷ zero_padded_number 9 icn ∷ []), digits, nine_padded icn small)

-- a party and a moment as they are kept: a qualifier of two bytes and an identifier of fifteen, a
-- date of eight bytes and a time of four
pub record AreSized (p : Party) (at : Moment) : Type 0 where
  pub qualifier : length p.qualifier ≡ 2
  pub id : length p.id ≡ 15
  pub date : length at.date ≡ 8
  pub time : length at.time ≡ 4

reply_sizes : (h : Header) (me : Party) (at : Moment) (icn : ℕ) (tas : List Segment) (groups : List WrittenGroup) → IsShortHeader h → AreSized me at → Sizes (reply_to h me at icn tas groups)
unfolding reply_to
reply_sizes h me at icn tas groups short are = record {
  sender_qualifier = are.qualifier;
  sender_id = are.id;
  receiver_qualifier = short.qualifier;
  receiver_id = short.id;
  date = are.date;
  time = are.time;
}

-- at most one TA1, and the group of acknowledgments
pub reply_size : (h : Header) (me : Party) (at : Moment) (icn gcn : ℕ) (tas : List Segment) (vs : List FunctionalGroupVerdict) → IsShortHeader h → AreSized me at → icn ≤ 999999999 → gcn ≤ 999999999 → text_size h.delims tas ≤ 40 → AllByRecursion IsShortGroup vs → length vs ≤ 32 → sets_in vs ≤ 400 → IsShort (reply_to h me at icn tas (answer_groups at gcn vs))
unfolding reply_to
reply_size h me at icn gcn tas vs short are number group ta each few sets =
    let groups = answer_groups at gcn vs in
    let x : WrittenInterchange = reply_to h me at icn tas groups in
    let whole = written_length x (reply_sizes h me at icn tas groups short are) number in
    let one = one_group at gcn vs in
    let middle = groups_size h.delims at gcn vs each few sets are.date are.time group in
    let iea = iea_size h.delims (length groups) icn one number in
    record {
      bytes = omega (arith, whole, middle, iea, ta);
      groups = one;
      sets = few_answers at gcn vs few;
    }
