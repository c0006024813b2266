-- What a reply writes can be written.
use Rattle.std.proofs.Common.{◌≡◌, ℕ, ◌+◌, ◌≤◌, Bool, true, false, not, ◌||◌, ◌==◌, nat_le, cond, List, [], ◌∷◌, length, map, filter, take, drop, if◌then◌else◌, Option, Some, None, IfSome, Ok, Err, is_some, codes, refl, ap, ◌∙◌, arith}
use Rattle.std.specs.List.{AllByRecursion, list_all, enumerate_from, sum_by}
use Rattle.std.proofs.lemmas.Bool.{eqb-true, leb-true, le-leb, and_parts}
use Rattle.std.proofs.lemmas.List.{length-map}
use Rattle.std.proofs.lemmas.List.FromFn.{length-enumerate_from}
use Rattle.x12_envelopes.specs.declared.delimiters.Delims.{Delims}
use Rattle.x12_envelopes.specs.declared.party.Party.{Party}
use Rattle.x12_envelopes.specs.declared.moment.Moment.{Moment}
use Rattle.x12_envelopes.specs.declared.header.Header.{Header}
use Rattle.x12_envelopes.specs.Row.{first_of_rows}
use Rattle.x12_envelopes.specs.Byte.{zero_padded_number, text_has_length}
use Rattle.x12_envelopes.specs.Delimiters.{bytes_are_delimiters}
use Rattle.x12_envelopes.specs.Header.{header_of}
use Rattle.x12_envelopes.specs.Segment.{Segment}
use Rattle.x12_envelopes.specs.Content.{kind_of_name, code_of_acknowledgment}
use Rattle.x12_envelopes.specs.Shape.{FunctionalGroup, TransactionSet}
use Rattle.x12_envelopes.specs.Outline.{outline_of}
use Rattle.x12_envelopes.specs.Readable.{IsReadable, ReadIsReadable}
use Rattle.x12_envelopes.specs.Grammar.{ReadsTreesAlone}
use Rattle.x12_envelopes.specs.Element.{elements_are_ta1, elements_are_gs}
use Rattle.x12_envelopes.specs.Envelope.{WrittenGroup}
use Rattle.x12_envelopes.specs.Fitting.{element_is_writable, segment_is_writable, ta1_is_writable, gs_is_writable, group_is_writable, has_sizes, header_is_writable, interchange_is_within_limits, interchange_fits}
use Rattle.x12_envelopes.specs.Writable.{IsAddress, IsWritableHeader, HeaderIsWritable, IsWritableSet, IsWritableGroup, OutlineIsWritable}
use Rattle.x12_envelopes.proofs.ContentLemmas.{ta1_by_elements, gs_by_elements}
use Rattle.x12_envelopes.proofs.HeaderTextLemmas.{free, free_field}
use Rattle.x12_envelopes.proofs.NumberLemmas.{number_decimal}
use Rattle.x12_envelopes.proofs.OutlineBackLemmas.{limits}
use Rattle.x12_envelopes.proofs.WrittenKindLemmas.{free_element, filled_by_length, filled_number}
use Rattle.x12_envelopes.proofs.WrittenLengthLemmas.{length_padded}
use Rattle.x12_judge.specs.Agreement.{TradingAgreement, set_is_agreed, partner_is_lenient}
use Rattle.x12_judge.specs.Controls.{JudgingTerms}
use Rattle.x12_judge.specs.Set.{verdict_of_set}
use Rattle.x12_judge.specs.Group.{FunctionalGroupVerdict, refusal_of_group, verdicts_of_sets, verdict_of_group}
use Rattle.x12_judge.specs.Interchange.{Reading, note_of_interchange}
use Rattle.x12_judge.specs.Verdict.{group_is_acknowledgment, verdicts_of_groups, verdict_by, judgement_of}
use Rattle.x12_acks.specs.Reply.{MayAnswer, group_answer, answer_header, answer_groups, ta1_segment, reply_usage, reply_to, reply_tas, asks_acknowledgment, judged_groups, reply_of, refusal_of}
use Rattle.x12_acks.proofs.ReplyLengthLemmas.{reply_is_short, refusal_is_short, within_limits, interchange_note_small}
use Rattle.x12_acks.proofs.WritableTextLemmas.{digits_writable, decimal_writable, padded_digits, digits_field, field_writable, date_digits, time_digits, sized, may_answer_address}
use Rattle.x12_acks.proofs.WritableNoteLemmas.{cut, verdict_notes_writable}
use Rattle.x12_acks.proofs.WritableAnswerLemmas.{FitsSet, FitsGroup, answers_fit}

-- The verdict of an interchange that was read.

set_fits : (d : Delims) (agreed lenient : Bool) (earlier : List TransactionSet) (s : TransactionSet) → bytes_are_delimiters d ≡ true → text_has_length 4 9 s.number ≡ true → IsWritableSet d s → FitsSet d (verdict_of_set d agreed lenient earlier s)
unfolding verdict_of_set
set_fits d agreed lenient earlier s good long is = record {
  set = is.set;
  number = is.number;
  filled = filled_by_length s.number (omega (arith, leb-true 4 (length s.number) (and_parts _ _ long).0));
  notes = verdict_notes_writable d agreed lenient earlier s good is;
}

sets_fit : (d : Delims) (agreed : List ℕ → Bool) (lenient : Bool) (all : List TransactionSet) (n : ℕ) (sets : List TransactionSet) → bytes_are_delimiters d ≡ true → AllByRecursion (λ s. text_has_length 4 9 s.number ≡ true) sets → AllByRecursion (IsWritableSet d) sets → AllByRecursion (FitsSet d) (map (λ place. verdict_of_set d (agreed place.1.set) lenient (take place.0 all) place.1) (enumerate_from n sets))
sets_fit d agreed lenient all n [] good long are = tt
sets_fit d agreed lenient all n (s ∷ sets) good long are =
    (set_fits d (agreed s.set) lenient (take n all) s good long.0 are.0, sets_fit d agreed lenient all (n + 1) sets good long.1 are.1)

unless : {X : Type 0} (P : X → Type 0) (b : Bool) (xs : List X) → AllByRecursion P xs → AllByRecursion P (if b then [] else xs)
unless P true xs all = tt
unless P false xs all = all

group_fits : (agreements : List TradingAgreement) (partner : Party) (d : Delims) (place : ℕ) (g : FunctionalGroup) → bytes_are_delimiters d ≡ true → IsReadable g → IsWritableGroup d g → FitsGroup d (verdict_of_group agreements partner d place g)
unfolding verdict_of_group verdicts_of_sets
group_fits agreements partner d place g good readable is = record {
  functional = is.functional;
  sender = is.sender;
  receiver = is.receiver;
  number_text = is.number_text;
  filled = filled_number g.number_text (ap is_some readable.number);
  sets = unless (FitsSet d) (is_some (refusal_of_group agreements partner g)) _ (sets_fit d (set_is_agreed agreements partner g.functional) (partner_is_lenient agreements partner) g.sets 0 g.sets good readable.sets is.sets);
}

groups_fit : (agreements : List TradingAgreement) (partner : Party) (d : Delims) (n : ℕ) (gs : List FunctionalGroup) → bytes_are_delimiters d ≡ true → AllByRecursion IsReadable gs → AllByRecursion (IsWritableGroup d) gs → AllByRecursion (FitsGroup d) (map (λ place. verdict_of_group agreements partner d place.0 place.1) (filter (λ place. not (group_is_acknowledgment place.1)) (enumerate_from n gs)))
groups_fit agreements partner d n [] good readable are = tt
groups_fit agreements partner d n (g ∷ gs) good readable are =
    step (not (group_is_acknowledgment g)) _ (group_fits agreements partner d n g good readable.0 are.0) (groups_fit agreements partner d (n + 1) gs good readable.1 are.1)
  where
    step : (b : Bool) (places : List (ℕ × FunctionalGroup)) → FitsGroup d (verdict_of_group agreements partner d n g) → AllByRecursion (FitsGroup d) (map (λ place. verdict_of_group agreements partner d place.0 place.1) places) → AllByRecursion (FitsGroup d) (map (λ place. verdict_of_group agreements partner d place.0 place.1) (cond b ((n, g) ∷ places) places))
    step true places one all = (one, all)
    step false places one all = all

verdicts_fit : ReadIsReadable → OutlineIsWritable → (agreements : List TradingAgreement) (h : Header) (bytes : List ℕ) (reading : Reading) → bytes_are_delimiters h.delims ≡ true → outline_of h.delims bytes ≡ reading → AllByRecursion (FitsGroup h.delims) (verdicts_of_groups agreements h reading)
unfolding verdicts_of_groups
verdicts_fit readable writable agreements h bytes (Ok x) good read =
    groups_fit agreements h.sender h.delims 1 x.groups good (readable h.delims bytes x read) (writable h.delims bytes x read)
verdicts_fit readable writable agreements h bytes (Err fault) good read = tt

-- TA1 and GS.

ta1_fits : (h : Header) (code : List ℕ) (note : ℕ) → IsWritableHeader h → element_is_writable h.delims code ≡ true → is_some (code_of_acknowledgment code) ≡ true → note ≤ 999 → ta1_is_writable h.delims (ta1_segment h code note) ≡ true
unfolding kind_of_name elements_are_ta1 segment_is_writable
ta1_fits h code note is element coded small =
    let d = h.delims in
    let nine = length_padded 9 h.icn (omega arith) (omega (arith, is.icn)) (omega (arith, is.icn)) in
    let three = length_padded 3 note (omega arith) (omega (arith, small)) (omega (arith, small)) in
    let number = padded_digits 9 h.icn in
    let digits = padded_digits 3 note in
    ta1_by_elements d (ta1_segment h code note)
    ∙ rw (free_element d (codes "TA1") is.delims refl, digits_writable d (zero_padded_number 9 h.icn) is.delims number, field_writable d h.date is.date.plain, field_writable d h.time is.time.plain, element, digits_writable d (zero_padded_number 3 note) is.delims digits, filled_by_length (zero_padded_number 3 note) (omega (arith, three)), nine, number, is.date.size, is.time.size, coded, three, digits) refl

gs_fits : (d : Delims) (at : Moment) (gcn : ℕ) (first : FunctionalGroupVerdict) → bytes_are_delimiters d ≡ true → length at.date ≡ 8 → gcn ≤ 999999999 → FitsGroup d first → gs_is_writable d (answer_header at gcn first) ≡ true
unfolding kind_of_name elements_are_gs segment_is_writable
gs_fits d at gcn first good eight small is =
    let date = date_digits at in
    let time = time_digits at in
    let receiver = and_parts (element_is_writable d first.receiver) (text_has_length 2 15 first.receiver) is.receiver in
    let sender = and_parts (element_is_writable d first.sender) (text_has_length 2 15 first.sender) is.sender in
    gs_by_elements d (answer_header at gcn first)
    ∙ rw (free_element d (codes "GS") good refl, free_element d (codes "FA") good refl, receiver.0, sender.0, digits_writable d at.date good date, digits_writable d at.time good time.0, decimal_writable d gcn good, free_element d (codes "X") good refl, free_element d (codes "004010") good refl, receiver.1, sender.1, eight, date, time.1, time.0, number_decimal gcn small) refl

answer_group_fits : (d : Delims) (at : Moment) (gcn : ℕ) (vs : List FunctionalGroupVerdict) → bytes_are_delimiters d ≡ true → length at.date ≡ 8 → gcn ≤ 999999999 → length vs ≤ 400 → AllByRecursion (FitsGroup d) vs → list_all (group_is_writable d) (answer_groups at gcn vs) ≡ true
unfolding answer_groups group_is_writable
answer_group_fits d at gcn [] good eight small few are = refl
answer_group_fits d at gcn (first ∷ more) good eight small few are =
    rw (gs_fits d at gcn first good eight small are.0, answers_fit d 1 (first ∷ more) good (omega (arith, few)) are) refl

-- The reply.

usage_by : (usage : ℕ) (a b c : Bool) → (usage == 80) ≡ a → (usage == 84) ≡ b → (usage == 73) ≡ c → list_all free ((if a || (b || (c || false)) then usage else 80) ∷ []) ≡ true
usage_by usage true b c first second third = rw (eqb-true usage 80 first) refl
usage_by usage false true c first second third = rw (eqb-true usage 84 second) refl
usage_by usage false false true first second third = rw (eqb-true usage 73 third) refl
usage_by usage false false false first second third = refl

reply_to_fits : (h : Header) (me : Party) (at : Moment) (icn : ℕ) (tas : List Segment) (groups : List WrittenGroup) → IsWritableHeader h → IsAddress h.delims me → length at.date ≡ 8 → icn ≤ 999999999 → list_all (ta1_is_writable h.delims) tas ≡ true → list_all (group_is_writable h.delims) groups ≡ true → interchange_is_within_limits (reply_to h me at icn tas groups) ≡ true → interchange_fits (reply_to h me at icn tas groups) ≡ true
unfolding interchange_fits reply_to has_sizes header_is_writable
reply_to_fits h me at icn tas groups is own eight small tas_fit groups_fit few =
    let d = h.delims in
    let time = time_digits at in
    let century = (cut _ 2 at.date (date_digits at)).1 in
    rw (own.qualifier.size, own.id.size, is.sender.qualifier.size, is.sender.id.size, eight, time.1, is.delims, le-leb icn 999999999 small, own.qualifier.plain, own.id.plain, is.sender.qualifier.plain, is.sender.id.plain, digits_field d (drop 2 at.date) is.delims century, digits_field d at.time is.delims time.0, free_field d (48 ∷ []) is.delims refl, free_field d (reply_usage h.usage ∷ []) is.delims (usage_by h.usage _ _ _ refl refl refl), tas_fit, groups_fit, few) refl

-- the note of a row
note_small : (rows : List (Bool × ℕ)) → list_all (λ row. nat_le row.1 999) rows ≡ true → IfSome (first_of_rows rows) (λ note. note ≤ 999)
note_small [] all = tt
note_small ((true, note) ∷ rows) all = leb-true note 999 (and_parts (nat_le note 999) _ all).0
note_small ((false, note) ∷ rows) all = note_small rows (and_parts (nat_le note 999) _ all).1

-- TA1 A, where one is asked for
acceptance_fits : (h : Header) (asked : Bool) → IsWritableHeader h → list_all (ta1_is_writable h.delims) (if asked then ta1_segment h (codes "A") 0 ∷ [] else []) ≡ true
unfolding code_of_acknowledgment
acceptance_fits h true is = rw (ta1_fits h (codes "A") 0 is (free_element h.delims (codes "A") is.delims refl) refl (omega arith)) refl
acceptance_fits h false is = refl

rejection_fits : (h : Header) (note : ℕ) → IsWritableHeader h → note ≤ 999 → list_all (ta1_is_writable h.delims) (ta1_segment h (codes "R") note ∷ []) ≡ true
unfolding code_of_acknowledgment
rejection_fits h note is small = rw (ta1_fits h (codes "R") note is (free_element h.delims (codes "R") is.delims refl) refl small) refl

few_answers : (at : Moment) (gcn : ℕ) (vs : List FunctionalGroupVerdict) → sum_by (λ (g : WrittenGroup). length g.sets) (answer_groups at gcn vs) ≡ length vs
unfolding answer_groups
few_answers at gcn [] = refl
few_answers at gcn (first ∷ more) =
    omega (arith, length-map (enumerate_from 1 (first ∷ more)) (λ (place : ℕ × FunctionalGroupVerdict). group_answer place.0 place.1), length-enumerate_from 1 (first ∷ more))

verdict_fits : (h : Header) (me : Party) (at : Moment) (icn gcn : ℕ) (note : Option ℕ) (vs : List FunctionalGroupVerdict) → IsWritableHeader h → IsAddress h.delims me → length at.date ≡ 8 → icn ≤ 999999999 → gcn ≤ 999999999 → IfSome note (λ n. n ≤ 999) → AllByRecursion (FitsGroup h.delims) vs → interchange_is_within_limits (reply_to h me at icn (reply_tas h (verdict_by note vs)) (answer_groups at gcn (judged_groups (verdict_by note vs)))) ≡ true → interchange_fits (reply_to h me at icn (reply_tas h (verdict_by note vs)) (answer_groups at gcn (judged_groups (verdict_by note vs)))) ≡ true
unfolding reply_to
verdict_fits h me at icn gcn (Some note) vs is own eight small few noted are within =
    reply_to_fits h me at icn (ta1_segment h (codes "R") note ∷ []) (answer_groups at gcn []) is own eight small (rejection_fits h note is noted)
    (answer_group_fits h.delims at gcn [] is.delims eight few (omega arith) tt) within
verdict_fits h me at icn gcn None vs is own eight small few noted are within =
    let most = (limits (reply_to h me at icn (reply_tas h (verdict_by None vs)) (answer_groups at gcn vs)) within).sets in
    reply_to_fits h me at icn (reply_tas h (verdict_by None vs)) (answer_groups at gcn vs) is own eight small (acceptance_fits h (asks_acknowledgment h) is)
    (answer_group_fits h.delims at gcn vs is.delims eight few (omega (arith, most, few_answers at gcn vs)) are) within

-- a reply to an interchange whose header can be read
pub reply_fits : ReadIsReadable → HeaderIsWritable → OutlineIsWritable → ReadsTreesAlone → (me : Party) (terms : JudgingTerms) (h : Header) (bytes : List ℕ) (at : Moment) (icn gcn : ℕ) → header_of bytes ≡ Ok h → MayAnswer h me → icn ≤ 999999999 → gcn ≤ 999999999 → interchange_fits (reply_of h (judgement_of me terms h bytes) me at icn gcn) ≡ true
unfolding reply_of judgement_of
reply_fits readable header outline trees me terms h bytes at icn gcn read may small few =
    let is = header bytes h read in
    let own = may_answer_address h me is may in
    let reading = outline_of h.delims bytes in
    let short = reply_is_short trees me terms h bytes at icn gcn read (sized h.delims me at own) small few in
    verdict_fits h me at icn gcn (note_of_interchange terms.controls me h reading) (verdicts_of_groups terms.agreements h reading) is own at.with_century small few (interchange_note_small terms.controls me h reading) (verdicts_fit readable outline terms.agreements h bytes reading is.delims refl) (within_limits _ short)

-- a refusal of it
pub refusal_fits : HeaderIsWritable → (me : Party) (note : ℕ) (h : Header) (bytes : List ℕ) (at : Moment) (icn : ℕ) → header_of bytes ≡ Ok h → MayAnswer h me → icn ≤ 999999999 → note ≤ 999 → interchange_fits (refusal_of note h me at icn) ≡ true
unfolding refusal_of
refusal_fits header me note h bytes at icn read may small noted =
    let is = header bytes h read in
    let own = may_answer_address h me is may in
    let short = refusal_is_short me note h bytes at icn read (sized h.delims me at own) small noted in
    reply_to_fits h me at icn (ta1_segment h (codes "R") note ∷ []) [] is own at.with_century small (rejection_fits h note is noted) refl (within_limits _ short)
