-- How many bytes the 997s of functional groups take.
use Rattle.std.proofs.Common.{◌≤◌, ◌<◌, ℕ, ◌+◌, ◌*◌, ◌==◌, ◌&&◌, Bool, true, false, List, [], ◌∷◌, ◌++◌, length, map, decimal, codes, arith, flat_map, unwrap_or, option_map, is_some}
use Rattle.std.specs.Prelude.{Option, Some, None}
use Rattle.std.specs.Option.{option_to_list}
use Rattle.std.specs.List.{AllByRecursion, sum_by, enumerate_from}
use Rattle.std.proofs.lemmas.List.Sums.{sum_by-cons}
use Rattle.x12_envelopes.specs.declared.delimiters.Delims.{Delims}
use Rattle.x12_envelopes.specs.Row.{first_of_rows}
use Rattle.x12_envelopes.specs.Byte.{zero_padded_number}
use Rattle.x12_envelopes.specs.Segment.{segment_text}
use Rattle.x12_envelopes.specs.Envelope.{set_segments}
use Rattle.x12_envelopes.proofs.WrittenLengthLemmas.{length_padded}
use Rattle.x12_judge.specs.declared.verdict.GroupRefusal.{GroupRefusal}
use Rattle.x12_judge.specs.declared.verdict.GroupRefusal.TheVariants as group
use Rattle.x12_judge.specs.Code.{group_refusal_number}
use Rattle.x12_judge.specs.Group.{FunctionalGroupVerdict}
use Rattle.x12_acks.specs.Reply.{refusal_code, set_answer, code_of_group, ak9_segment, group_answer, some_are_noted}
use Rattle.x12_acks.proofs.SizeLemmas.{sized, text_sized, text_size, size-append, size_between, segments_within, short_decimal, nine_digits}
use Rattle.x12_acks.proofs.SetSizeLemmas.{IsShortSet, sets_size}

-- the verdict of a functional group
pub record IsShortGroup (v : FunctionalGroupVerdict) : Type 0 where
  pub functional : length v.functional ≤ 2
  pub sender : length v.sender ≤ 15
  pub receiver : length v.receiver ≤ 15
  pub number : length v.number_text ≤ 9
  pub included : v.included ≤ 999999999
  pub received : v.received ≤ 999999999
  pub accepted : v.accepted ≤ 999999999
  pub sets : AllByRecursion IsShortSet v.sets

refusal_below : (r : GroupRefusal) → group_refusal_number r < 10
refusal_below group.NotSupported = omega arith
refusal_below group.VersionNotSupported = omega arith
refusal_below group.TrailerMissing = omega arith
refusal_below group.NumbersDiffer = omega arith
refusal_below group.CountWrong = omega arith

refusal_sized : (r : Option GroupRefusal) → sized (option_to_list (option_map refusal_code r)) ≤ 2
refusal_sized None = omega arith
refusal_sized (Some r) =
    let below = refusal_below r in
    let digits = short_decimal 1 (group_refusal_number r) (omega arith) (omega (arith, below)) (omega (arith, below)) in
    omega (arith, digits)

one_byte : (a b c d : Bool) → length (unwrap_or (first_of_rows ((a, codes "R") ∷ (b, codes "E") ∷ (c, codes "A") ∷ (d, codes "R") ∷ [])) (codes "P")) ≤ 1
one_byte true b c d = omega arith
one_byte false true c d = omega arith
one_byte false false true d = omega arith
one_byte false false false true = omega arith
one_byte false false false false = omega arith

code_byte : (v : FunctionalGroupVerdict) → length (code_of_group v) ≤ 1
unfolding code_of_group
code_byte v = one_byte (is_some v.refused) (v.accepted == length v.sets && some_are_noted v.sets) (v.accepted == length v.sets) (v.accepted == 0)

ak9_size : (d : Delims) (v : FunctionalGroupVerdict) → IsShortGroup v → length (segment_text d (ak9_segment v)) ≤ 50
ak9_size d v short =
    let whole = text_sized d (codes "AK9") (code_of_group v ∷ decimal v.included ∷ decimal v.received ∷ decimal v.accepted ∷ option_to_list (option_map refusal_code v.refused)) in
    omega (arith, whole, code_byte v, nine_digits v.included short.included, nine_digits v.received short.received, nine_digits v.accepted short.accepted, refusal_sized v.refused)

-- ST and SE of a 997 with so many bytes between them
st_size : (d : Delims) (number : ℕ) → number ≤ 9999 → length (segment_text d (codes "ST" ∷ codes "997" ∷ zero_padded_number 4 number ∷ [])) ≤ 12
st_size d number few =
    omega (arith, text_sized d (codes "ST") (codes "997" ∷ zero_padded_number 4 number ∷ []), length_padded 4 number (omega arith) (omega (arith, few)) (omega (arith, few)))

se_size : (d : Delims) (count : ℕ) (number : ℕ) → count ≤ 999999999 → number ≤ 9999 → length (segment_text d (codes "SE" ∷ decimal count ∷ zero_padded_number 4 number ∷ [])) ≤ 18
se_size d count number small few =
    omega (arith, text_sized d (codes "SE") (decimal count ∷ zero_padded_number 4 number ∷ []), nine_digits count small, length_padded 4 number (omega arith) (omega (arith, few)) (omega (arith, few)))

body_size : (d : Delims) (v : FunctionalGroupVerdict) → IsShortGroup v → text_size d ((codes "AK1" ∷ v.functional ∷ v.number_text ∷ []) ∷ flat_map set_answer v.sets ++ ak9_segment v ∷ []) ≤ 100 + 975 * length v.sets
body_size d v short =
    let whole = size_between d (codes "AK1" ∷ v.functional ∷ v.number_text ∷ []) (ak9_segment v) (flat_map set_answer v.sets) in
    let ak1 = text_sized d (codes "AK1") (v.functional ∷ v.number_text ∷ []) in
    omega (arith, whole, ak1, ak9_size d v short, sets_size d v.sets short.sets, short.functional, short.number)

-- a 997
answer_size : (d : Delims) (number : ℕ) (v : FunctionalGroupVerdict) → number ≤ 9999 → length v.sets ≤ 400 → IsShortGroup v → text_size d (set_segments (group_answer number v)) ≤ 200 + 975 * length v.sets
unfolding group_answer
answer_size d number v few sets short =
    let body = (codes "AK1" ∷ v.functional ∷ v.number_text ∷ []) ∷ flat_map set_answer v.sets ++ ak9_segment v ∷ [] in
    let st = codes "ST" ∷ codes "997" ∷ zero_padded_number 4 number ∷ [] in
    let se = codes "SE" ∷ decimal (length body + 2) ∷ zero_padded_number 4 number ∷ [] in
    let whole = size_between d st se body in
    let between = body_size d v short in
    let count : length body + 2 ≤ 999999999 = omega (arith, segments_within d body, between, sets) in
    omega (arith, whole, between, st_size d number few, se_size d (length body + 2) number count few)

abbrev pub sets_in : List FunctionalGroupVerdict → ℕ
sets_in vs = sum_by (λ (v : FunctionalGroupVerdict). length v.sets) vs

-- the 997s of functional groups
pub answers_size : (d : Delims) (number : ℕ) (vs : List FunctionalGroupVerdict) → AllByRecursion IsShortGroup vs → number + length vs ≤ 9999 → sets_in vs ≤ 400 → text_size d (flat_map set_segments (map (λ place. group_answer place.0 place.1) (enumerate_from number vs))) ≤ 200 * length vs + 975 * sets_in vs
answers_size d number [] short few sets = omega arith
answers_size d number (v ∷ vs) short few sets =
    let more = sum_by-cons (λ (v : FunctionalGroupVerdict). length v.sets) v vs in
    let rest = answers_size d (number + 1) vs short.1 (omega (arith, few)) (omega (arith, sets, more)) in
    let here = answer_size d number v (omega (arith, few)) (omega (arith, sets, more)) short.0 in
    let both = size-append d (set_segments (group_answer number v)) (flat_map set_segments (map (λ place. group_answer place.0 place.1) (enumerate_from (number + 1) vs))) in
    omega (arith, more, rest, here, both)
