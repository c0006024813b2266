-- The segments of an interchange that fits: their kinds, and that they can be written.
use Rattle.std.proofs.Common.{rules, ◌≡◌, ℕ, zero, suc, ◌+◌, ◌<◌, ◌≤◌, true, not, nat_lt, nat_le, List, [], ◌∷◌, length, codes, decimal, is_some, refl, sym, ◌∙◌, arith}
use Rattle.std.specs.List.{list_all}
use Rattle.std.proofs.lemmas.Bool.{leb-true, and_parts}
use Rattle.x12_envelopes.specs.declared.delimiters.Delims.{Delims}
use Rattle.x12_envelopes.specs.declared.content.Kind.{Kind}
use Rattle.x12_envelopes.specs.declared.content.Kind.TheVariants.{Empty, Isa, Ta1, Gs, St, Data, Se, Ge, Iea}
use Rattle.x12_envelopes.specs.Byte.{zero_padded_number, number_of_digits}
use Rattle.x12_envelopes.specs.Delimiters.{bytes_are_delimiters}
use Rattle.x12_envelopes.specs.Segment.{Segment}
use Rattle.x12_envelopes.specs.Content.{kind_of_name, kind_of_segment, segment_is_ta1, segment_is_gs, segment_is_st}
use Rattle.x12_envelopes.specs.Outline.{is_kind}
use Rattle.x12_envelopes.specs.Envelope.{WrittenSet, WrittenGroup, WrittenInterchange, element_at, se_segment, ge_segment, iea_segment}
use Rattle.x12_envelopes.specs.Element.{elements_are_gs, elements_are_st}
use Rattle.x12_envelopes.specs.Fitting.{byte_is_writable, element_is_writable, is_filled, segment_is_writable, joined, ta1_is_writable, gs_is_writable, st_is_writable, data_is_writable}
use Rattle.x12_envelopes.proofs.ContentLemmas.{kind_joined, gs_joined, st_joined}
use Rattle.x12_envelopes.proofs.HeaderTextLemmas.{free, differs, digits_free}
use Rattle.x12_envelopes.proofs.NumberLemmas.{decimal_digits, padded_digits}
use Rattle.x12_envelopes.proofs.WrittenLengthLemmas.{length_padded}
use Rattle.x12_envelopes.proofs.KindLemmas.{kind_is}

-- a segment that can be written, of a kind
pub record Written (d : Delims) (s : Segment) (k : Kind) : Type 0 where
  pub segment : segment_is_writable d s ≡ true
  pub kind : kind_of_segment d (joined d s) ≡ k

pub ta1_written : (d : Delims) (s : Segment) → ta1_is_writable d s ≡ true → Written d s Ta1 × (segment_is_ta1 d (joined d s) ≡ true)
unfolding ta1_is_writable
ta1_written d s held =
    let b = and_parts _ _ held in
    let a = and_parts _ _ b.0 in
    (record { segment = a.0; kind = kind_is Ta1 _ a.1 }, b.1)

pub gs_written : (d : Delims) (s : Segment) → gs_is_writable d s ≡ true → Written d s Gs × (segment_is_gs d (joined d s) ≡ true)
unfolding gs_is_writable
gs_written d s held =
    let b = and_parts _ _ held in
    let a = and_parts _ _ b.0 in
    (record { segment = a.0; kind = kind_is Gs _ a.1 }, b.1)

pub st_written : (d : Delims) (s : Segment) → st_is_writable d s ≡ true → Written d s St × (segment_is_st d (joined d s) ≡ true)
unfolding st_is_writable
st_written d s held =
    let b = and_parts _ _ held in
    let a = and_parts _ _ b.0 in
    (record { segment = a.0; kind = kind_is St _ a.1 }, b.1)

pub data_written : (d : Delims) (s : Segment) → data_is_writable d s ≡ true → Written d s Data
unfolding data_is_writable
data_written d s held = let a = and_parts _ _ held in record { segment = a.0; kind = kind_is Data _ a.1 }

-- Trailers.

writable : (d : Delims) (b : ℕ) → bytes_are_delimiters d ≡ true → free b ≡ true → byte_is_writable d b ≡ true
unfolding bytes_are_delimiters
writable d b good held =
    let h = and_parts _ _ held in
    let three = and_parts _ _ (and_parts _ _ (and_parts _ _ (and_parts _ _ (and_parts _ _ (and_parts _ _ good).0).0).0).0).0 in
    let two = and_parts _ _ three.0 in
    rw (differs b d.element h.0 two.0, differs b d.terminator h.0 three.1, high b h.1) refl
  where
    high : (b : ℕ) → not (nat_lt b 32) ≡ true → nat_le 32 b ≡ true
    high b is = search (rules, arith)

pub free_element : (d : Delims) (text : List ℕ) → bytes_are_delimiters d ≡ true → list_all free text ≡ true → element_is_writable d text ≡ true
unfolding element_is_writable
free_element d [] good held = refl
free_element d (b ∷ bytes) good held = let h = and_parts _ _ held in rw (writable d b good h.0, free_element d bytes good h.1) refl

pub nth_writable : (d : Delims) (s : Segment) (n : ℕ) → list_all (element_is_writable d) s ≡ true → element_is_writable d (element_at s n) ≡ true
unfolding element_is_writable
nth_writable d [] n held = refl
nth_writable d (e ∷ es) zero held = (and_parts _ _ held).0
nth_writable d (e ∷ es) (suc n) held = nth_writable d es n (and_parts _ _ held).1

-- a trailer: its identifier, a count, and a number that isn't empty
trailer_segment : (d : Delims) (identifier number : List ℕ) (count : ℕ) → bytes_are_delimiters d ≡ true → count ≤ 999999999 → list_all free identifier ≡ true → element_is_writable d number ≡ true → is_filled number ≡ true → segment_is_writable d (identifier ∷ decimal count ∷ number ∷ []) ≡ true
unfolding segment_is_writable
trailer_segment d identifier number count good small text element filled =
    rw (free_element d identifier good text, free_element d (decimal count) good (digits_free (decimal count) (decimal_digits count small)), element, filled) refl

pub filled_by_length : (text : List ℕ) → 0 < length text → is_filled text ≡ true
filled_by_length [] some = absurd (omega (arith, some))
filled_by_length (b ∷ bytes) some = refl

pub filled_number : (text : List ℕ) → is_some (number_of_digits text) ≡ true → is_filled text ≡ true
unfolding number_of_digits
filled_number [] is = absurd cc
filled_number (b ∷ bytes) is = refl

st_number : (s : Segment) → elements_are_st s ≡ true → is_filled (element_at s 2) ≡ true
unfolding elements_are_st
st_number s held = filled_by_length (element_at s 2) (omega (arith, leb-true 4 (length (element_at s 2)) (and_parts _ _ (and_parts _ _ held).1).0))

pub gs_number : (s : Segment) → elements_are_gs s ≡ true → is_some (number_of_digits (element_at s 6)) ≡ true
unfolding elements_are_gs
gs_number s held = (and_parts _ _ (and_parts _ _ (and_parts _ _ held).0).0).1

pub elements_writable : (d : Delims) (s : Segment) → segment_is_writable d s ≡ true → list_all (element_is_writable d) s ≡ true
unfolding segment_is_writable
elements_writable d s held = (and_parts _ _ held).0

pub se_written : (d : Delims) (s : WrittenSet) → bytes_are_delimiters d ≡ true → st_is_writable d s.header ≡ true → length s.segments + 2 ≤ 999999999 → Written d (se_segment s) Se
unfolding kind_of_name
se_written d s good held small =
    let st = st_written d s.header held in
    let number = st_number s.header (sym (st_joined d s.header st.0.segment) ∙ st.1) in
    let segment = trailer_segment d (codes "SE") (element_at s.header 2) (length s.segments + 2) good small refl (nth_writable d s.header 2 (elements_writable d s.header st.0.segment)) number in
    record { segment = segment; kind = kind_joined d (se_segment s) segment }

pub ge_written : (d : Delims) (g : WrittenGroup) → bytes_are_delimiters d ≡ true → gs_is_writable d g.header ≡ true → length g.sets ≤ 999999999 → Written d (ge_segment g) Ge
unfolding kind_of_name
ge_written d g good held small =
    let gs = gs_written d g.header held in
    let number = filled_number (element_at g.header 6) (gs_number g.header (sym (gs_joined d g.header gs.0.segment) ∙ gs.1)) in
    let segment = trailer_segment d (codes "GE") (element_at g.header 6) (length g.sets) good small refl (nth_writable d g.header 6 (elements_writable d g.header gs.0.segment)) number in
    record { segment = segment; kind = kind_joined d (ge_segment g) segment }

pub iea_written : (x : WrittenInterchange) → bytes_are_delimiters x.delims ≡ true → x.icn ≤ 999999999 → length x.groups ≤ 999999999 → Written x.delims (iea_segment x) Iea
unfolding kind_of_name
iea_written x good number small =
    let nine = length_padded 9 x.icn (omega arith) (omega (arith, number)) (omega (arith, number)) in
    let segment = trailer_segment x.delims (codes "IEA") (zero_padded_number 9 x.icn) (length x.groups) good small refl (free_element x.delims (zero_padded_number 9 x.icn) good (digits_free (zero_padded_number 9 x.icn) (padded_digits 9 x.icn number))) (filled_by_length (zero_padded_number 9 x.icn) (omega (arith, nine))) in
    record { segment = segment; kind = kind_joined x.delims (iea_segment x) segment }
