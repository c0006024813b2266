-- An open transaction set, as far as it was read.
use Rattle.std.proofs.Common.{◌≡◌, ℕ, ◌+◌, ◌≤◌, false, Option, None, Some, List, [], ◌∷◌, ◌++◌, length, drop, slice_range, option_map, refl, sym, ap, ap₂, subst, ◌∙◌, arith, append-nil}
use Rattle.std.proofs.lemmas.List.{append_assoc, length-append}
use Rattle.x12_envelopes.specs.declared.delimiters.Delims.{Delims}
use Rattle.x12_envelopes.specs.declared.content.Kind.{Kind}
use Rattle.x12_envelopes.specs.declared.content.Kind.TheVariants.{Empty, Isa, Ta1, Gs, St, Data, Se, Ge, Iea}
use Rattle.x12_envelopes.specs.declared.content.Level.{Level}
use Rattle.x12_envelopes.specs.declared.content.Level.TheVariants.{InGroup, InSet}
use Rattle.x12_envelopes.specs.Segment.{PlacedSegment, segments_from}
use Rattle.x12_envelopes.specs.Shape.{TransactionSetTrailer}
use Rattle.x12_envelopes.specs.Content.{kind_of_segment, set_trailer_of}
use Rattle.x12_envelopes.specs.Outline.{offset_behind, SetRest, set_rest, transaction_set_of, with_part, kind_is_misplaced, fault_of_segment, first_fault, is_kind}
use Rattle.x12_envelopes.specs.Reading.{AreParts, IsNext, set_up_to}
use Rattle.x12_envelopes.proofs.SegmentLemmas.{AreParts-append, AreParts-parts, slice_join}

abbrev pub from_place : Delims → List ℕ → ℕ → List PlacedSegment
from_place d input at = segments_from d at (drop at input)

abbrev pub with_parts : List (List ℕ) → SetRest → SetRest
with_parts parts r = record r { parts = parts ++ r.parts }

-- what was read: the segments behind ST up to a place
pub record SetSoFar (d : Delims) (input : List ℕ) (st : PlacedSegment) (place segments : ℕ) : Type 0 where
  pub parts : List (List ℕ)
  pub whole : set_rest d (offset_behind st) (from_place d input (offset_behind st)) ≡ with_parts parts (set_rest d place (from_place d input place))
  pub text : AreParts d (slice_range input st.at place) (st.bytes ∷ parts)
  pub count : segments ≡ 1 + length parts
  pub above : offset_behind st ≤ place
  pub within : place ≤ length input

pub set_begins : (d : Delims) (input : List ℕ) (st : PlacedSegment) → AreParts d (slice_range input st.at (offset_behind st)) (st.bytes ∷ []) → offset_behind st ≤ length input → SetSoFar d input st (offset_behind st) 1
set_begins d input st own fits = record { parts = []; whole = refl; text = own; count = refl; above = omega arith; within = fits }

longer : (d : Delims) (input : List ℕ) (st : PlacedSegment) (place n : ℕ) (so_far : SetSoFar d input st place n) (s : PlacedSegment) → IsNext d input place s → AreParts d (slice_range input st.at (offset_behind s)) (st.bytes ∷ (so_far.parts ++ s.bytes ∷ []))
longer d input st place n so_far s next =
    let joined = slice_join input st.at place (offset_behind s) (omega (arith, so_far.above)) (omega (arith, next.low)) so_far.within in
    subst (λ b. AreParts d b (st.bytes ∷ (so_far.parts ++ s.bytes ∷ []))) joined (AreParts-append d _ _ (st.bytes ∷ so_far.parts) (s.bytes ∷ []) so_far.text next.text)

pub rest_data : (d : Delims) (place : ℕ) (s : PlacedSegment) (ss : List PlacedSegment) → kind_of_segment d s.bytes ≡ Data → set_rest d place (s ∷ ss) ≡ with_part s.bytes (set_rest d (offset_behind s) ss)
unfolding set_rest
rest_data d place s ss is = rw is

pub rest_se : (d : Delims) (place : ℕ) (s : PlacedSegment) (ss : List PlacedSegment) → kind_of_segment d s.bytes ≡ Se → set_rest d place (s ∷ ss) ≡ record { parts = s.bytes ∷ []; place = offset_behind s; trailer = Some s.bytes; rest = ss }
unfolding set_rest
rest_se d place s ss is = rw is

pub rest_other : (d : Delims) (place : ℕ) (s : PlacedSegment) (ss : List PlacedSegment) (k : Kind) → kind_of_segment d s.bytes ≡ k → is_kind Data k ≡ false → is_kind Se k ≡ false → set_rest d place (s ∷ ss) ≡ record { parts = []; place = place; trailer = None; rest = s ∷ ss }
unfolding set_rest
rest_other d place s ss k is data' se = rw (is, data', se)

with_parts-with_part : (ps : List (List ℕ)) (part : List ℕ) (r : SetRest) → with_parts ps (with_part part r) ≡ with_parts (ps ++ part ∷ []) r
with_parts-with_part ps part r = ap (λ (l : List (List ℕ)). record r { parts = l }) (sym (append_assoc ps (part ∷ []) r.parts))

-- one segment of data more
pub one_data : (d : Delims) (input : List ℕ) (st : PlacedSegment) (place n : ℕ) → SetSoFar d input st place n → (s : PlacedSegment) → IsNext d input place s → kind_of_segment d s.bytes ≡ Data → SetSoFar d input st (offset_behind s) (n + 1)
one_data d input st place n so_far s next is = record {
  parts = so_far.parts ++ s.bytes ∷ [];
  whole = so_far.whole ∙ ap (λ ss. with_parts so_far.parts (set_rest d place ss)) next.rest ∙ ap (with_parts so_far.parts) (rest_data d place s _ is) ∙ with_parts-with_part so_far.parts s.bytes _;
  text = longer d input st place n so_far s next;
  count = omega (arith, length-append so_far.parts (s.bytes ∷ []), so_far.count);
  above = omega (arith, so_far.above, next.low);
  within = next.high;
}

-- a transaction set that has ended
pub record SetEnds (d : Delims) (input : List ℕ) (st : PlacedSegment) (place segments : ℕ) (trailer : Option (List ℕ)) (rest : List PlacedSegment) : Type 0 where
  pub parts : List (List ℕ)
  pub is : set_rest d (offset_behind st) (from_place d input (offset_behind st)) ≡ record { parts = parts; place = place; trailer = trailer; rest = rest }
  pub text : AreParts d (slice_range input st.at place) (st.bytes ∷ parts)
  pub count : segments ≡ 1 + length parts

pub ends_by_se : (d : Delims) (input : List ℕ) (st : PlacedSegment) (place n : ℕ) → SetSoFar d input st place n → (s : PlacedSegment) → IsNext d input place s → kind_of_segment d s.bytes ≡ Se → SetEnds d input st (offset_behind s) (n + 1) (Some s.bytes) (from_place d input (offset_behind s))
ends_by_se d input st place n so_far s next is = record {
  parts = so_far.parts ++ s.bytes ∷ [];
  is = so_far.whole ∙ ap (λ ss. with_parts so_far.parts (set_rest d place ss)) next.rest ∙ ap (with_parts so_far.parts) (rest_se d place s _ is);
  text = longer d input st place n so_far s next;
  count = omega (arith, length-append so_far.parts (s.bytes ∷ []), so_far.count);
}

pub ends_before : (d : Delims) (input : List ℕ) (st : PlacedSegment) (place n : ℕ) → SetSoFar d input st place n → (s : PlacedSegment) → IsNext d input place s → (k : Kind) → kind_of_segment d s.bytes ≡ k → is_kind Data k ≡ false → is_kind Se k ≡ false → SetEnds d input st place n None (from_place d input place)
ends_before d input st place n so_far s next k is data' se = record {
  parts = so_far.parts;
  is = so_far.whole ∙ ap (λ ss. with_parts so_far.parts (set_rest d place ss)) next.rest ∙ ap (with_parts so_far.parts) (rest_other d place s _ k is data' se) ∙ ap₂ (λ (l : List (List ℕ)) (ss : List PlacedSegment). record { parts = l; place = place; trailer = None; rest = ss }) (append-nil so_far.parts) (sym next.rest);
  text = so_far.text;
  count = so_far.count;
}

-- the set that was read is the one that the segments make up
pub set_is : (d : Delims) (input : List ℕ) (st : PlacedSegment) (place n : ℕ) (trailer : Option (List ℕ)) (rest : List PlacedSegment) → SetEnds d input st place n trailer rest → (t : Option TransactionSetTrailer) → t ≡ option_map (set_trailer_of d) trailer → set_up_to d input st place n t ≡ transaction_set_of d input st (set_rest d (offset_behind st) (from_place d input (offset_behind st)))
unfolding transaction_set_of
set_is d input st place n trailer rest ends t is_trailer =
    rw (ends.is) (rw (is_trailer, ends.count, AreParts-parts d _ _ ends.text))

-- the kinds that end a set that has no SE
pub set_over : (k : Kind) → (k ≡ Data → ⊥) → (k ≡ Se → ⊥) → (is_kind Data k ≡ false) × (is_kind Se k ≡ false) × (kind_is_misplaced InSet k ≡ kind_is_misplaced InGroup k)
set_over Empty a b = (refl, refl, refl)
set_over Isa a b = (refl, refl, refl)
set_over Ta1 a b = (refl, refl, refl)
set_over Gs a b = (refl, refl, refl)
set_over St a b = (refl, refl, refl)
set_over Data a b = absurd (a refl)
set_over Se a b = absurd (b refl)
set_over Ge a b = (refl, refl, refl)
set_over Iea a b = (refl, refl, refl)

-- the fault of a segment that is misplaced at neither level, or at both, is the same at both
pub same_fault : (d : Delims) (l m : Level) (groups sets : ℕ) (s : PlacedSegment) (ss : List PlacedSegment) → kind_is_misplaced l (kind_of_segment d s.bytes) ≡ kind_is_misplaced m (kind_of_segment d s.bytes) → first_fault d l groups sets (s ∷ ss) ≡ first_fault d m groups sets (s ∷ ss)
unfolding first_fault fault_of_segment
same_fault d l m groups sets s [] same = refl
same_fault d l m groups sets s (next ∷ ss) same = rw same
