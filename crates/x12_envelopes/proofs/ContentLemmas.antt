-- What reading tells of a written segment, by its elements.
use Rattle.std.proofs.Common.{◌≡◌, ℕ, Bool, true, false, ◌&&◌, List, refl, ap, ◌∙◌, inl, inr}
use Rattle.x12_envelopes.specs.declared.delimiters.Delims.{Delims}
use Rattle.x12_envelopes.specs.Segment.{Segment, elements_of, element_of, count_of_elements}
use Rattle.x12_envelopes.specs.Content.{kind_of_name, kind_of_segment, segment_is_ta1, segment_is_gs, segment_is_st}
use Rattle.x12_envelopes.specs.Outline.{is_kind}
use Rattle.x12_envelopes.specs.Envelope.{element_at}
use Rattle.x12_envelopes.specs.Element.{elements_are_ta1, elements_are_gs, elements_are_st}
use Rattle.x12_envelopes.specs.Fitting.{segment_is_writable, joined, ta1_is_writable, gs_is_writable, st_is_writable, data_is_writable}
use Rattle.x12_envelopes.proofs.JoinedLemmas.{elements_joined}
use Rattle.x12_envelopes.specs.declared.content.Kind.TheVariants.{Data, Gs, St, Ta1}
use Rattle.std.proofs.lemmas.Bool.{cases_Bool}

-- the tests of a TA1, GS and ST, by elements, are those of reading
ta1_is : (d : Delims) (part : List ℕ) → segment_is_ta1 d part ≡ elements_are_ta1 (elements_of d part)
unfolding segment_is_ta1 elements_are_ta1 element_of count_of_elements
ta1_is d part = refl

gs_is : (d : Delims) (part : List ℕ) → segment_is_gs d part ≡ elements_are_gs (elements_of d part)
unfolding segment_is_gs elements_are_gs element_of count_of_elements
gs_is d part = refl

st_is : (d : Delims) (part : List ℕ) → segment_is_st d part ≡ elements_are_st (elements_of d part)
unfolding segment_is_st elements_are_st element_of count_of_elements
st_is d part = refl

pub nth_joined : (d : Delims) (s : Segment) → segment_is_writable d s ≡ true → (n : ℕ) → element_of d (joined d s) n ≡ element_at s n
unfolding element_of
nth_joined d s held n = ap (λ es. element_at es n) (elements_joined d s held)

pub kind_joined : (d : Delims) (s : Segment) → segment_is_writable d s ≡ true → kind_of_segment d (joined d s) ≡ kind_of_name (element_at s 0)
unfolding kind_of_segment
kind_joined d s held = ap kind_of_name (nth_joined d s held 0)

pub ta1_joined : (d : Delims) (s : Segment) → segment_is_writable d s ≡ true → segment_is_ta1 d (joined d s) ≡ elements_are_ta1 s
ta1_joined d s held = ta1_is d (joined d s) ∙ ap elements_are_ta1 (elements_joined d s held)

pub gs_joined : (d : Delims) (s : Segment) → segment_is_writable d s ≡ true → segment_is_gs d (joined d s) ≡ elements_are_gs s
gs_joined d s held = gs_is d (joined d s) ∙ ap elements_are_gs (elements_joined d s held)

pub st_joined : (d : Delims) (s : Segment) → segment_is_writable d s ≡ true → segment_is_st d (joined d s) ≡ elements_are_st s
st_joined d s held = st_is d (joined d s) ∙ ap elements_are_st (elements_joined d s held)

-- what is asked of a segment that can be written, as code asks it
under : (b x y : Bool) → (b ≡ true → x ≡ y) → (b && x) ≡ (b && y)
under true x y same = same refl
under false x y same = refl

pub ta1_by_elements : (d : Delims) (s : Segment) → ta1_is_writable d s ≡ (segment_is_writable d s && is_kind Ta1 (kind_of_name (element_at s 0)) && elements_are_ta1 s)
unfolding ta1_is_writable
ta1_by_elements d s =
    elim (cases_Bool (segment_is_writable d s)) [ inl e ↦ rw (kind_joined d s e, ta1_joined d s e) refl | inr e ↦ rw e refl ]

pub gs_by_elements : (d : Delims) (s : Segment) → gs_is_writable d s ≡ (segment_is_writable d s && is_kind Gs (kind_of_name (element_at s 0)) && elements_are_gs s)
unfolding gs_is_writable
gs_by_elements d s =
    elim (cases_Bool (segment_is_writable d s)) [ inl e ↦ rw (kind_joined d s e, gs_joined d s e) refl | inr e ↦ rw e refl ]

pub st_by_elements : (d : Delims) (s : Segment) → st_is_writable d s ≡ (segment_is_writable d s && is_kind St (kind_of_name (element_at s 0)) && elements_are_st s)
unfolding st_is_writable
st_by_elements d s =
    elim (cases_Bool (segment_is_writable d s)) [ inl e ↦ rw (kind_joined d s e, st_joined d s e) refl | inr e ↦ rw e refl ]

pub data_by_elements : (d : Delims) (s : Segment) → data_is_writable d s ≡ (segment_is_writable d s && is_kind Data (kind_of_name (element_at s 0)))
unfolding data_is_writable
data_by_elements d s =
    elim (cases_Bool (segment_is_writable d s)) [ inl e ↦ rw (kind_joined d s e) refl | inr e ↦ rw e refl ]
