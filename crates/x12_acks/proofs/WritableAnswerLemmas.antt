-- The 997 of a functional group can be written.
use Rattle.std.proofs.Common.{◌≡◌, ℕ, ◌+◌, ◌≤◌, Bool, true, false, ◌==◌, ◌&&◌, List, [], ◌∷◌, length, map, flat_map, Option, Some, None, is_some, unwrap_or, option_map, codes, decimal, refl, ◌∙◌, arith}
use Rattle.std.specs.Option.{option_to_list}
use Rattle.std.specs.List.{AllByRecursion, list_all, enumerate_from}
use Rattle.x12_envelopes.specs.declared.delimiters.Delims.{Delims}
use Rattle.x12_envelopes.specs.Delimiters.{bytes_are_delimiters}
use Rattle.x12_envelopes.specs.Row.{first_of_rows}
use Rattle.x12_envelopes.specs.Byte.{zero_padded_number}
use Rattle.x12_envelopes.specs.Segment.{Segment}
use Rattle.x12_envelopes.specs.Content.{kind_of_name}
use Rattle.x12_envelopes.specs.Outline.{is_kind}
use Rattle.x12_envelopes.specs.Envelope.{element_at}
use Rattle.x12_envelopes.specs.Element.{elements_are_st}
use Rattle.x12_envelopes.specs.Fitting.{element_is_writable, is_filled, segment_ends_filled, segment_is_writable, st_is_writable, data_is_writable, set_is_writable}
use Rattle.x12_envelopes.specs.Writable.{is_party_code}
use Rattle.std.proofs.lemmas.Bool.{and_parts}
use Rattle.x12_envelopes.proofs.ContentLemmas.{st_by_elements, data_by_elements}
use Rattle.x12_envelopes.proofs.WrittenKindLemmas.{free_element, filled_by_length}
use Rattle.x12_envelopes.proofs.WrittenLengthLemmas.{length_padded}
use Rattle.x12_judge.specs.declared.verdict.SetCode.{SetCode}
use Rattle.x12_judge.specs.declared.verdict.GroupRefusal.{GroupRefusal}
use Rattle.x12_judge.specs.Code.{set_code_number, group_refusal_number, segment_code_number, element_code_number}
use Rattle.x12_judge.specs.declared.verdict.SetResult.{SetResult}
use Rattle.x12_judge.specs.declared.verdict.SetResult.TheVariants.{Accepted, Noted, Rejected}
use Rattle.x12_judge.specs.Set.{ReportedNote, segment, element, TransactionSetVerdict}
use Rattle.x12_judge.specs.Group.{FunctionalGroupVerdict}
use Rattle.x12_acks.specs.Reply.{code_of_set, refusal_code, unless_empty, note_segment, ak5_segment, set_answer, code_of_group, ak9_segment, group_answer, code_of_result, some_are_noted}
use Rattle.x12_acks.proofs.WritableTextLemmas.{decimal_writable, decimal_filled, digits_writable, padded_digits}
use Rattle.x12_acks.proofs.WritableNoteLemmas.{joined_all, no_element, is_reported_note}
use Rattle.x12_envelopes.specs.declared.content.Kind.TheVariants.{Data}

-- A segment of data.

data_segment : (d : Delims) (s : Segment) → list_all (element_is_writable d) s ≡ true → segment_ends_filled s ≡ true → is_kind Data (kind_of_name (element_at s 0)) ≡ true → data_is_writable d s ≡ true
unfolding segment_is_writable
data_segment d s elements filled kind = data_by_elements d s ∙ rw (elements, filled, kind) refl

ak1_fits : (d : Delims) (functional number : List ℕ) → bytes_are_delimiters d ≡ true → element_is_writable d functional ≡ true → element_is_writable d number ≡ true → is_filled number ≡ true → data_is_writable d (codes "AK1" ∷ functional ∷ number ∷ []) ≡ true
unfolding kind_of_name
ak1_fits d functional number good first second filled =
    data_segment d (codes "AK1" ∷ functional ∷ number ∷ []) (rw (free_element d (codes "AK1") good refl, first, second) refl) filled refl

ak2_fits : (d : Delims) (set number : List ℕ) → bytes_are_delimiters d ≡ true → element_is_writable d set ≡ true → element_is_writable d number ≡ true → is_filled number ≡ true → data_is_writable d (codes "AK2" ∷ set ∷ number ∷ []) ≡ true
unfolding kind_of_name
ak2_fits d set number good first second filled =
    data_segment d (codes "AK2" ∷ set ∷ number ∷ []) (rw (free_element d (codes "AK2") good refl, first, second) refl) filled refl

ak3_fits : (d : Delims) (name : List ℕ) (position code : ℕ) → bytes_are_delimiters d ≡ true → element_is_writable d name ≡ true → data_is_writable d (codes "AK3" ∷ name ∷ decimal position ∷ [] ∷ decimal code ∷ []) ≡ true
unfolding kind_of_name
ak3_fits d name position code good held =
    data_segment d (codes "AK3" ∷ name ∷ decimal position ∷ [] ∷ decimal code ∷ [])
    (rw (free_element d (codes "AK3") good refl, held, decimal_writable d position good, no_element d, decimal_writable d code good) refl)
    (decimal_filled code) refl

ak4_fits : (d : Delims) (place reference code : ℕ) (copy : List ℕ) → bytes_are_delimiters d ≡ true → element_is_writable d copy ≡ true → data_is_writable d (codes "AK4" ∷ decimal place ∷ decimal reference ∷ decimal code ∷ unless_empty copy) ≡ true
unfolding kind_of_name
ak4_fits d place reference code [] good held =
    data_segment d (codes "AK4" ∷ decimal place ∷ decimal reference ∷ decimal code ∷ [])
    (rw (free_element d (codes "AK4") good refl, decimal_writable d place good, decimal_writable d reference good, decimal_writable d code good) refl)
    (decimal_filled code) refl
ak4_fits d place reference code (b ∷ bytes) good held =
    data_segment d (codes "AK4" ∷ decimal place ∷ decimal reference ∷ decimal code ∷ (b ∷ bytes) ∷ [])
    (rw (free_element d (codes "AK4") good refl, decimal_writable d place good, decimal_writable d reference good, decimal_writable d code good, held) refl)
    refl refl

note_fits : (d : Delims) (n : ReportedNote) → bytes_are_delimiters d ≡ true → is_reported_note d n ≡ true → data_is_writable d (note_segment n) ≡ true
note_fits d (segment name position code) good held = ak3_fits d name position (segment_code_number code) good held
note_fits d (element n) good held = ak4_fits d n.place n.reference (element_code_number n.code) n.copy good held

notes_fit : (d : Delims) (notes : List ReportedNote) → bytes_are_delimiters d ≡ true → list_all (is_reported_note d) notes ≡ true → list_all (data_is_writable d) (map note_segment notes) ≡ true
notes_fit d [] good held = refl
notes_fit d (n ∷ notes) good held =
    let h = and_parts (is_reported_note d n) (list_all (is_reported_note d) notes) held in
    rw (note_fits d n good h.0, notes_fit d notes good h.1) refl

codes_writable : (d : Delims) (cs : List SetCode) → bytes_are_delimiters d ≡ true → list_all (element_is_writable d) (map code_of_set cs) ≡ true
codes_writable d [] good = refl
codes_writable d (c ∷ cs) good = rw (decimal_writable d (set_code_number c) good, codes_writable d cs good) refl

codes_filled : (e : List ℕ) (cs : List SetCode) → is_filled e ≡ true → segment_ends_filled (e ∷ map code_of_set cs) ≡ true
codes_filled e [] filled = filled
codes_filled e (c ∷ cs) filled = codes_filled (code_of_set c) cs (decimal_filled (set_code_number c))

letter_writable : (d : Delims) (r : SetResult) → bytes_are_delimiters d ≡ true → element_is_writable d (code_of_result r) ≡ true
letter_writable d Accepted good = free_element d (codes "A") good refl
letter_writable d Noted good = free_element d (codes "E") good refl
letter_writable d Rejected good = free_element d (codes "R") good refl

letter_filled : (r : SetResult) → is_filled (code_of_result r) ≡ true
letter_filled Accepted = refl
letter_filled Noted = refl
letter_filled Rejected = refl

ak5_fits : (d : Delims) (r : SetResult) (cs : List SetCode) → bytes_are_delimiters d ≡ true → data_is_writable d (codes "AK5" ∷ code_of_result r ∷ map code_of_set cs) ≡ true
unfolding kind_of_name
ak5_fits d r cs good =
    data_segment d (codes "AK5" ∷ code_of_result r ∷ map code_of_set cs)
    (rw (free_element d (codes "AK5") good refl, letter_writable d r good, codes_writable d cs good) refl)
    (codes_filled (code_of_result r) cs (letter_filled r)) refl

-- what a verdict of a transaction set has, so that its answer can be written
pub record FitsSet (d : Delims) (v : TransactionSetVerdict) : Type 0 where
  pub set : element_is_writable d v.set ≡ true
  pub number : element_is_writable d v.number ≡ true
  pub filled : is_filled v.number ≡ true
  pub notes : list_all (is_reported_note d) v.notes ≡ true

set_fits : (d : Delims) (v : TransactionSetVerdict) → bytes_are_delimiters d ≡ true → FitsSet d v → list_all (data_is_writable d) (set_answer v) ≡ true
unfolding set_answer
set_fits d v good is =
    joined_all (data_is_writable d) ((codes "AK2" ∷ v.set ∷ v.number ∷ []) ∷ map note_segment v.notes) (ak5_segment v ∷ [])
    (rw (ak2_fits d v.set v.number good is.set is.number is.filled, notes_fit d v.notes good is.notes) refl)
    (rw (ak5_fits d v.result v.codes good) refl)

sets_fit : (d : Delims) (vs : List TransactionSetVerdict) → bytes_are_delimiters d ≡ true → AllByRecursion (FitsSet d) vs → list_all (data_is_writable d) (flat_map set_answer vs) ≡ true
sets_fit d [] good are = refl
sets_fit d (v ∷ vs) good are =
    joined_all (data_is_writable d) (set_answer v) (flat_map set_answer vs) (set_fits d v good are.0) (sets_fit d vs good are.1)

code_writable : (d : Delims) (refused noted all none : Bool) → bytes_are_delimiters d ≡ true → element_is_writable d (unwrap_or (first_of_rows ((refused, codes "R") ∷ (noted, codes "E") ∷ (all, codes "A") ∷ (none, codes "R") ∷ [])) (codes "P")) ≡ true
code_writable d true noted all none good = free_element d (codes "R") good refl
code_writable d false true all none good = free_element d (codes "E") good refl
code_writable d false false true none good = free_element d (codes "A") good refl
code_writable d false false false true good = free_element d (codes "R") good refl
code_writable d false false false false good = free_element d (codes "P") good refl

ak9_by : (d : Delims) (code : List ℕ) (included received accepted : ℕ) (refused : Option GroupRefusal) → bytes_are_delimiters d ≡ true → element_is_writable d code ≡ true → data_is_writable d (codes "AK9" ∷ code ∷ decimal included ∷ decimal received ∷ decimal accepted ∷ option_to_list (option_map refusal_code refused)) ≡ true
unfolding kind_of_name
ak9_by d code included received accepted None good held =
    data_segment d (codes "AK9" ∷ code ∷ decimal included ∷ decimal received ∷ decimal accepted ∷ [])
    (rw (free_element d (codes "AK9") good refl, held, decimal_writable d included good, decimal_writable d received good, decimal_writable d accepted good) refl)
    (decimal_filled accepted) refl
ak9_by d code included received accepted (Some r) good held =
    data_segment d (codes "AK9" ∷ code ∷ decimal included ∷ decimal received ∷ decimal accepted ∷ refusal_code r ∷ [])
    (rw (free_element d (codes "AK9") good refl, held, decimal_writable d included good, decimal_writable d received good, decimal_writable d accepted good, decimal_writable d (group_refusal_number r) good) refl)
    (decimal_filled (group_refusal_number r)) refl

-- what a verdict of a functional group has, so that its 997 and GS can be written
pub record FitsGroup (d : Delims) (v : FunctionalGroupVerdict) : Type 0 where
  pub functional : element_is_writable d v.functional ≡ true
  pub sender : is_party_code d v.sender ≡ true
  pub receiver : is_party_code d v.receiver ≡ true
  pub number_text : element_is_writable d v.number_text ≡ true
  pub filled : is_filled v.number_text ≡ true
  pub sets : AllByRecursion (FitsSet d) v.sets

st_fits : (d : Delims) (number : ℕ) → bytes_are_delimiters d ≡ true → number ≤ 9999 → st_is_writable d (codes "ST" ∷ codes "997" ∷ zero_padded_number 4 number ∷ []) ≡ true
unfolding kind_of_name elements_are_st segment_is_writable
st_fits d number good small =
    let four = length_padded 4 number (omega arith) (omega (arith, small)) (omega (arith, small)) in
    st_by_elements d (codes "ST" ∷ codes "997" ∷ zero_padded_number 4 number ∷ [])
    ∙ rw (free_element d (codes "ST") good refl, free_element d (codes "997") good refl, digits_writable d (zero_padded_number 4 number) good (padded_digits 4 number), filled_by_length (zero_padded_number 4 number) (omega (arith, four)), four) refl

answer_fits : (d : Delims) (number : ℕ) (v : FunctionalGroupVerdict) → bytes_are_delimiters d ≡ true → number ≤ 9999 → FitsGroup d v → set_is_writable d (group_answer number v) ≡ true
unfolding set_is_writable group_answer code_of_group
answer_fits d number v good small is =
    let ak9 = ak9_by d (code_of_group v) v.included v.received v.accepted v.refused good (code_writable d (is_some v.refused) (v.accepted == length v.sets && some_are_noted v.sets) (v.accepted == length v.sets) (v.accepted == 0) good) in
    let segments = joined_all (data_is_writable d) ((codes "AK1" ∷ v.functional ∷ v.number_text ∷ []) ∷ flat_map set_answer v.sets) (ak9_segment v ∷ [])
    (rw (ak1_fits d v.functional v.number_text good is.functional is.number_text is.filled, sets_fit d v.sets good is.sets) refl)
    (rw ak9 refl) in
    rw (st_fits d number good small, segments) refl

pub answers_fit : (d : Delims) (first : ℕ) (vs : List FunctionalGroupVerdict) → bytes_are_delimiters d ≡ true → first + length vs ≤ 9999 → AllByRecursion (FitsGroup d) vs → list_all (set_is_writable d) (map (λ place. group_answer place.0 place.1) (enumerate_from first vs)) ≡ true
answers_fit d first [] good few are = refl
answers_fit d first (v ∷ vs) good few are =
    rw (answer_fits d first v good (omega (arith, few)) are.0, answers_fit d (first + 1) vs good (omega (arith, few)) are.1) refl
