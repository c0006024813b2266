-- The length of a written interchange.
use Rattle.std.proofs.Common.{◌≡◌, ◌≤◌, ◌<◌, ◌^◌, ℕ, ◌+◌, ◌-◌, true, min, List, [], ◌∷◌, ◌++◌, length, replicate, codes, decimal, flat_map, refl, ap, ap₂, ◌∙◌, append_assoc, append-nil, arith, length-append, length-drop}
use Rattle.std.specs.List.{sum_by}
use Rattle.std.proofs.lemmas.Bool.{eqb-true, and_parts}
use Rattle.std.proofs.lemmas.List.{length-replicate}
use Rattle.std.proofs.lemmas.List.Concat.{flat_map-append}
use Rattle.std.proofs.lemmas.List.Sums.{sum_by-cons}
use Rattle.std.proofs.lemmas.Fmt.{length-decimal-le}
use Rattle.x12_envelopes.specs.declared.delimiters.Delims.{Delims}
use Rattle.x12_envelopes.specs.declared.moment.Moment.{Moment}
use Rattle.x12_envelopes.specs.Byte.{zero_padded_number}
use Rattle.x12_envelopes.specs.Moment.{text_is_time}
use Rattle.x12_envelopes.specs.Segment.{Segment, segment_text, text_of}
use Rattle.x12_envelopes.specs.Envelope.{WrittenInterchange, isa_segment, iea_segment, group_segments, written}
use Rattle.x12_envelopes.specs.Fitting.{has_sizes}

elements_length : (d : Delims) (es : Segment) → length (flat_map (λ e. d.element ∷ e) es) ≡ sum_by (λ (e : List ℕ). length e + 1) es
elements_length d [] = refl
elements_length d (e ∷ es) =
    length-append (d.element ∷ e) (flat_map (λ e. d.element ∷ e) es) ∙ omega (arith, elements_length d es, sum_by-cons (λ (e : List ℕ). length e + 1) e es)

text_length : (d : Delims) (e : List ℕ) (es : Segment) → length (segment_text d (e ∷ es)) ≡ sum_by (λ (e : List ℕ). length e + 1) (e ∷ es)
unfolding segment_text
text_length d e es =
    length-append (e ++ flat_map (λ e. d.element ∷ e) es) (d.terminator ∷ [])
    ∙ omega (arith, length-append e (flat_map (λ e. d.element ∷ e) es), elements_length d es, sum_by-cons (λ (e : List ℕ). length e + 1) e es)

pub length_padded : (k n : ℕ) → 0 < k → n < 10 ^ k → n < 2 ^ 32 → length (zero_padded_number k n) ≡ k
unfolding zero_padded_number
length_padded k n some fits small =
    length-append (replicate {A = ℕ} (k - length (decimal n)) 48) (decimal n) ∙ omega (arith, length-replicate {A = ℕ} (k - length (decimal n)) 48, length-decimal-le k n some fits (omega (arith, small)))

-- the sizes, one by one
pub record Sizes (x : WrittenInterchange) : Type 0 where
  pub sender_qualifier : length x.sender.qualifier ≡ 2
  pub sender_id : length x.sender.id ≡ 15
  pub receiver_qualifier : length x.receiver.qualifier ≡ 2
  pub receiver_id : length x.receiver.id ≡ 15
  pub date : length x.date ≡ 8
  pub time : length x.time ≡ 4

time_length : (text : List ℕ) → text_is_time text ≡ true → length text ≡ 4
unfolding text_is_time
time_length text is = eqb-true (length text) 4 (and_parts _ _ (and_parts _ _ (and_parts _ _ is).0).0).1

pub length_of_time : (at : Moment) → length at.time ≡ 4
length_of_time at = time_length at.time at.in_a_day

pub sizes_of : (x : WrittenInterchange) → has_sizes x ≡ true → Sizes x
unfolding has_sizes
sizes_of x held =
    let f = and_parts _ _ held in
    let e = and_parts _ _ f.0 in
    let d = and_parts _ _ e.0 in
    let c = and_parts _ _ d.0 in
    let b = and_parts _ _ c.0 in
    record {
      sender_qualifier = eqb-true _ 2 b.0;
      sender_id = eqb-true _ 15 b.1;
      receiver_qualifier = eqb-true _ 2 c.1;
      receiver_id = eqb-true _ 15 d.1;
      date = eqb-true _ 8 e.1;
      time = eqb-true _ 4 f.1;
    }

pub sizes_are : (x : WrittenInterchange) → Sizes x → has_sizes x ≡ true
unfolding has_sizes
sizes_are x s = rw (s.sender_qualifier, s.sender_id, s.receiver_qualifier, s.receiver_id, s.date, s.time) refl

pub header_length : (x : WrittenInterchange) → Sizes x → x.icn ≤ 999999999 → length (segment_text x.delims (isa_segment x)) ≡ 106
header_length x s number =
    text_length x.delims (codes "ISA") _
    ∙ omega (arith, s.sender_qualifier, s.sender_id, s.receiver_qualifier, s.receiver_id, s.date, s.time, length-drop 2 x.date, length_padded 9 x.icn (omega arith) (omega (arith, number)) (omega (arith, number)))

pub written_is : (x : WrittenInterchange) → written x ≡ segment_text x.delims (isa_segment x) ++ (text_of x.delims x.tas ++ (text_of x.delims (flat_map group_segments x.groups) ++ segment_text x.delims (iea_segment x)))
unfolding written
written_is x =
    let d = x.delims in
    let groups = flat_map group_segments x.groups in
    flat_map-append (segment_text d) ((isa_segment x ∷ x.tas) ++ groups) (iea_segment x ∷ [])
    ∙ ap₂ ◌++◌ (flat_map-append (segment_text d) (isa_segment x ∷ x.tas) groups) (append-nil (segment_text d (iea_segment x)))
    ∙ append_assoc (segment_text d (isa_segment x) ++ text_of d x.tas) (text_of d groups) (segment_text d (iea_segment x))
    ∙ append_assoc (segment_text d (isa_segment x)) (text_of d x.tas) (text_of d groups ++ segment_text d (iea_segment x))

pub written_length : (x : WrittenInterchange) → Sizes x → x.icn ≤ 999999999 → length (written x) ≡ 106 + length (text_of x.delims x.tas) + length (text_of x.delims (flat_map group_segments x.groups)) + length (segment_text x.delims (iea_segment x))
written_length x s number =
    let d = x.delims in
    let groups = text_of d (flat_map group_segments x.groups) in
    let iea = segment_text d (iea_segment x) in
    ap length (written_is x) ∙ omega (arith, header_length x s number, length-append (segment_text d (isa_segment x)) (text_of d x.tas ++ (groups ++ iea)), length-append (text_of d x.tas) (groups ++ iea), length-append groups iea)

pub total : (whole tas groups iea t g i r s u : ℕ) → whole ≡ 106 + tas + groups + iea → t ≡ min tas 18446744073709551615 → g ≡ min groups 18446744073709551615 → i ≡ min iea 18446744073709551615 → r ≡ min (106 + t) 18446744073709551615 → s ≡ min (r + g) 18446744073709551615 → u ≡ min (s + i) 18446744073709551615 → u ≡ min whole 18446744073709551615
total whole tas groups iea t g i r s u is a b c d e f = omega (arith, is, a, b, c, d, e, f)

pub iea_same : (x : WrittenInterchange) (n : ℕ) (number : List ℕ) → n ≡ length x.groups → number ≡ zero_padded_number 9 x.icn → segment_text x.delims (codes "IEA" ∷ decimal n ∷ number ∷ []) ≡ segment_text x.delims (iea_segment x)
iea_same x n number count is = rw (count, is) refl
