-- An interchange, as far as it was read.
use Rattle.std.proofs.Common.{◌≡◌, ℕ, ◌+◌, ◌<◌, Bool, true, false, None, Some, List, [], ◌∷◌, ◌++◌, length, map, refl, sym, ap, ap₂, ◌∙◌, arith, append-nil, vec_len, eqb}
use Rattle.std.specs.List.{prefix_len, sum_by}
use Rattle.std.proofs.lemmas.List.Sums.{sum_by-append}
use Rattle.std.proofs.lemmas.Bool.{ne_eqb, not-false}
use Rattle.std.proofs.lemmas.List.{append_assoc, map_push, length-drop}
use Rattle.x12_envelopes.specs.declared.delimiters.Delims.{Delims}
use Rattle.x12_envelopes.specs.declared.content.Kind.{Kind}
use Rattle.x12_envelopes.specs.declared.content.Kind.TheVariants.{Empty, Isa, Ta1 as Ta1Kind, Gs, St, Data, Se, Ge, Iea}
use Rattle.x12_envelopes.specs.declared.content.Level.{Level}
use Rattle.x12_envelopes.specs.declared.content.Level.TheVariants.{Front, Between, InGroup, InSet}
use Rattle.x12_envelopes.specs.declared.shape.Ta1.{Ta1}
use Rattle.x12_envelopes.specs.declared.shape.GroupView.{GroupView}
use Rattle.x12_envelopes.specs.Byte.{number_of_digits, byte_is_line_end}
use Rattle.x12_envelopes.specs.Segment.{PlacedSegment, place_piece, place_pieces, segments_from, behind_line_ends, element_of}
use Rattle.x12_envelopes.specs.Shape.{FunctionalGroup, Interchange, group_view}
use Rattle.x12_envelopes.specs.Content.{kind_of_segment, segment_is_ta1, ta1_of}
use Rattle.x12_envelopes.specs.Outline.{group_rest, functional_group_of, with_ta1, with_group, interchange_of, kind_is_misplaced, fault_of_segment, first_fault, fault_behind_trailer, level_behind, groups_behind, sets_behind, is_kind}
use Rattle.x12_envelopes.specs.declared.shape.OutlineFault.TheVariants.{Structure}
use Rattle.x12_envelopes.specs.Reading.{IsCut}
use Rattle.x12_envelopes.proofs.CuttingLemmas.{pieces, pieces_more, cut_split}
use Rattle.x12_envelopes.proofs.SegmentLemmas.{last_segment}
use Rattle.x12_envelopes.proofs.FirstFaultLemmas.{goes_on, closes}
use Rattle.x12_envelopes.proofs.GroupLemmas.{sound_parts}

abbrev pub with_front : List Ta1 → List FunctionalGroup → Interchange → Interchange
with_front tas groups x = record x { tas = tas ++ x.tas; groups = groups ++ x.groups }

-- outside groups and sets
abbrev pub is_outside : Level → Bool
is_outside Front = true
is_outside Between = true
is_outside level = false

-- TA1 may stand in front alone
pub front_is : (level : Level) → kind_is_misplaced level Ta1Kind ≡ false → level ≡ Front
front_is Front h = refl
front_is Between h = cc
front_is InGroup h = cc
front_is InSet h = cc

-- outside groups and sets only TA1, GS and IEA may stand
only_these_at : (k : Kind) → (k ≡ Ta1Kind → ⊥) → (k ≡ Gs → ⊥) → (k ≡ Iea → ⊥) → kind_is_misplaced Front k ≡ false → ⊥
only_these_at Empty a b e m = cc
only_these_at Isa a b e m = cc
only_these_at Ta1Kind a b e m = a refl
only_these_at Gs a b e m = b refl
only_these_at St a b e m = cc
only_these_at Data a b e m = cc
only_these_at Se a b e m = cc
only_these_at Ge a b e m = cc
only_these_at Iea a b e m = e refl

only_these_between : (k : Kind) → (k ≡ Gs → ⊥) → (k ≡ Iea → ⊥) → kind_is_misplaced Between k ≡ false → ⊥
only_these_between Empty b e m = cc
only_these_between Isa b e m = cc
only_these_between Ta1Kind b e m = cc
only_these_between Gs b e m = b refl
only_these_between St b e m = cc
only_these_between Data b e m = cc
only_these_between Se b e m = cc
only_these_between Ge b e m = cc
only_these_between Iea b e m = e refl

pub only_these : (level : Level) (k : Kind) → is_outside level ≡ true → (k ≡ Ta1Kind → ⊥) → (k ≡ Gs → ⊥) → (k ≡ Iea → ⊥) → kind_is_misplaced level k ≡ false → ⊥
only_these Front k o a b e m = only_these_at k a b e m
only_these Between k o a b e m = only_these_between k b e m
only_these InGroup k o a b e m = cc
only_these InSet k o a b e m = cc

pub sound_ta1 : (d : Delims) (level : Level) (groups sets : ℕ) (s : PlacedSegment) → fault_of_segment d level groups sets s ≡ None → kind_of_segment d s.bytes ≡ Ta1Kind → (segment_is_ta1 d s.bytes ≡ true) × (level ≡ Front)
sound_ta1 d level groups sets s none is =
    let parts = sound_parts d level groups sets s Ta1Kind none is in
    (not-false (segment_is_ta1 d s.bytes) parts.1, front_is level parts.0)

-- a group's segments are no TA1s, no groups and no IEA
skip_group_at : (d : Delims) (input : List ℕ) (s : PlacedSegment) (more : List PlacedSegment) → interchange_of d input more ≡ interchange_of d input (group_rest d input more).rest → (k : Kind) → kind_of_segment d s.bytes ≡ k → interchange_of d input (s ∷ more) ≡ interchange_of d input (group_rest d input (s ∷ more)).rest
unfolding interchange_of group_rest
skip_group_at d input s more ih St is = rw is ih
skip_group_at d input s more ih Data is = rw is ih
skip_group_at d input s more ih Se is = rw is ih
skip_group_at d input s more ih Ge is = rw is
skip_group_at d input s more ih Empty is = let at : (group_rest d input (s ∷ more)).rest ≡ s ∷ more = rw is in sym (ap (interchange_of d input) at)
skip_group_at d input s more ih Isa is = let at : (group_rest d input (s ∷ more)).rest ≡ s ∷ more = rw is in sym (ap (interchange_of d input) at)
skip_group_at d input s more ih Ta1Kind is = let at : (group_rest d input (s ∷ more)).rest ≡ s ∷ more = rw is in sym (ap (interchange_of d input) at)
skip_group_at d input s more ih Gs is = let at : (group_rest d input (s ∷ more)).rest ≡ s ∷ more = rw is in sym (ap (interchange_of d input) at)
skip_group_at d input s more ih Iea is = let at : (group_rest d input (s ∷ more)).rest ≡ s ∷ more = rw is in sym (ap (interchange_of d input) at)

pub skip_group : (d : Delims) (input : List ℕ) (ss : List PlacedSegment) → interchange_of d input ss ≡ interchange_of d input (group_rest d input ss).rest
unfolding group_rest
skip_group d input [] = refl
skip_group d input (s ∷ more) = skip_group_at d input s more (skip_group d input more) (kind_of_segment d s.bytes) refl

pub rest_ta1 : (d : Delims) (input : List ℕ) (s : PlacedSegment) (more : List PlacedSegment) → kind_of_segment d s.bytes ≡ Ta1Kind → interchange_of d input (s ∷ more) ≡ with_ta1 s.bytes d (interchange_of d input more)
unfolding interchange_of
rest_ta1 d input s more is = rw is

pub rest_gs : (d : Delims) (input : List ℕ) (s : PlacedSegment) (more : List PlacedSegment) → kind_of_segment d s.bytes ≡ Gs → interchange_of d input (s ∷ more) ≡ with_group (functional_group_of d s (group_rest d input more)) (interchange_of d input more)
unfolding interchange_of
rest_gs d input s more is = rw is

pub rest_iea : (d : Delims) (input : List ℕ) (s : PlacedSegment) (more : List PlacedSegment) → kind_of_segment d s.bytes ≡ Iea → interchange_of d input (s ∷ more) ≡ record { tas = []; groups = []; count = number_of_digits (element_of d s.bytes 1); trailer = number_of_digits (element_of d s.bytes 2) }
unfolding interchange_of
rest_iea d input s more is = rw is

-- one TA1 more
pub one_ta1 : (d : Delims) (input : List ℕ) (s : PlacedSegment) (all more : List PlacedSegment) (us vs : List Ta1) (u : Ta1) (gs : List FunctionalGroup) → all ≡ s ∷ more → kind_of_segment d s.bytes ≡ Ta1Kind → u ≡ ta1_of d s.bytes → vs ≡ us ++ u ∷ [] → with_front us gs (interchange_of d input all) ≡ with_front vs gs (interchange_of d input more)
one_ta1 d input s all more us vs u gs are is view pushed =
    ap (λ l. with_front us gs (interchange_of d input l)) are
    ∙ ap (with_front us gs) (rest_ta1 d input s more is)
    ∙ ap (λ (l : List Ta1). record { tas = l; groups = gs ++ (interchange_of d input more).groups; count = (interchange_of d input more).count; trailer = (interchange_of d input more).trailer }) (sym (append_assoc us (ta1_of d s.bytes ∷ []) (interchange_of d input more).tas) ∙ ap (λ (x : Ta1). us ++ x ∷ [] ++ (interchange_of d input more).tas) (sym view) ∙ ap (λ l. l ++ (interchange_of d input more).tas) (sym pushed))

-- one group more
pub one_group : (d : Delims) (input : List ℕ) (s : PlacedSegment) (all more after : List PlacedSegment) (us : List Ta1) (vs ws : List GroupView) (v : GroupView) → all ≡ s ∷ more → kind_of_segment d s.bytes ≡ Gs → group_view d v ≡ functional_group_of d s (group_rest d input more) → after ≡ (group_rest d input more).rest → ws ≡ vs ++ v ∷ [] → with_front us (map (group_view d) vs) (interchange_of d input all) ≡ with_front us (map (group_view d) ws) (interchange_of d input after)
one_group d input s all more after us vs ws v are is view rest pushed =
    let x = interchange_of d input after in
    ap (λ l. with_front us (map (group_view d) vs) (interchange_of d input l)) are
    ∙ ap (with_front us (map (group_view d) vs)) (rest_gs d input s more is)
    ∙ ap₂ (λ (g : FunctionalGroup) (y : Interchange). with_front us (map (group_view d) vs) (with_group g y)) (sym view) (skip_group d input more ∙ ap (interchange_of d input) (sym rest))
    ∙ ap (λ (l : List FunctionalGroup). record { tas = us ++ x.tas; groups = l; count = x.count; trailer = x.trailer }) (sym (append_assoc (map (group_view d) vs) (group_view d v ∷ []) x.groups) ∙ ap (λ l. l ++ x.groups) (sym (map_push (group_view d) vs v) ∙ ap (map (group_view d)) (sym pushed)))

-- IEA ends the interchange
pub ends_by_iea : (d : Delims) (input : List ℕ) (s : PlacedSegment) (all more : List PlacedSegment) (us : List Ta1) (gs : List FunctionalGroup) → all ≡ s ∷ more → kind_of_segment d s.bytes ≡ Iea → with_front us gs (interchange_of d input all) ≡ record { tas = us; groups = gs; count = number_of_digits (element_of d s.bytes 1); trailer = number_of_digits (element_of d s.bytes 2) }
ends_by_iea d input s all more us gs are is =
    ap (λ l. with_front us gs (interchange_of d input l)) are
    ∙ ap (with_front us gs) (rest_iea d input s more is)
    ∙ ap₂ (λ (l : List Ta1) (m : List FunctionalGroup). record { tas = l; groups = m; count = number_of_digits (element_of d s.bytes 1); trailer = number_of_digits (element_of d s.bytes 2) }) (append-nil us) (append-nil gs)

-- one segment on, where the number of groups has other names
pub steps_groups : (d : Delims) (level : Level) (a g h n : ℕ) (s : PlacedSegment) (all more : List PlacedSegment) (k : Kind) → a ≡ g → h ≡ groups_behind g k → all ≡ s ∷ more → 0 < length more → fault_of_segment d level a n s ≡ None → kind_of_segment d s.bytes ≡ k → is_kind Iea k ≡ false → first_fault d level g n all ≡ first_fault d (level_behind k) h (sets_behind n k) more
steps_groups d level a g h n s all more k same count are some sound is on =
    ap₂ (λ (x : ℕ) (l : List PlacedSegment). first_fault d level x n l) (sym same) are
    ∙ goes_on d level a n s more some sound k is on
    ∙ ap (λ (x : ℕ). first_fault d (level_behind k) x (sets_behind n k) more) (ap (λ x. groups_behind x k) same ∙ sym count)

pub closes_groups : (d : Delims) (level : Level) (a g n : ℕ) (s : PlacedSegment) (all more : List PlacedSegment) → a ≡ g → all ≡ s ∷ more → 0 < length more → fault_of_segment d level a n s ≡ None → kind_of_segment d s.bytes ≡ Iea → first_fault d level g n all ≡ fault_behind_trailer more
closes_groups d level a g n s all more same are some sound is =
    ap₂ (λ (x : ℕ) (l : List PlacedSegment). first_fault d level x n l) (sym same) are
    ∙ closes d level a n s more some sound is

-- behind IEA
behind_more : (at n : ℕ) (piece : List ℕ) (ps : List (List ℕ)) → 0 < length ps → fault_behind_trailer (place_piece at piece ∷ place_pieces n ps) ≡ Some (Structure (at + prefix_len byte_is_line_end piece))
behind_more at n piece [] some = absurd (omega arith)
behind_more at n piece (p ∷ ps) some = refl

pub behind_cut : (d : Delims) (at : ℕ) (bytes piece back : List ℕ) → IsCut d.terminator bytes piece back → fault_behind_trailer (segments_from d at bytes) ≡ Some (Structure (at + prefix_len byte_is_line_end piece))
unfolding segments_from
behind_cut d at bytes piece back cut =
    ap (λ ps. fault_behind_trailer (place_pieces at ps)) (cut_split d.terminator bytes piece back cut) ∙ behind_more at (at + length piece + 1) piece (pieces d back) (pieces_more d back)

pub behind_none : (d : Delims) (at : ℕ) (bytes : List ℕ) → pieces d bytes ≡ bytes ∷ [] → prefix_len byte_is_line_end bytes ≡ length bytes → fault_behind_trailer (segments_from d at bytes) ≡ None
behind_none d at bytes alone all =
    let short : length (behind_line_ends bytes) ≡ 0 = omega (arith, length-drop (prefix_len byte_is_line_end bytes) bytes) in
    ap fault_behind_trailer (last_segment d at bytes alone) ∙ rw short

pub behind_some : (d : Delims) (at : ℕ) (bytes : List ℕ) → pieces d bytes ≡ bytes ∷ [] → prefix_len byte_is_line_end bytes < length bytes → fault_behind_trailer (segments_from d at bytes) ≡ Some (Structure (at + prefix_len byte_is_line_end bytes))
behind_some d at bytes alone fewer =
    let long : eqb (length (behind_line_ends bytes)) 0 ≡ false = ne_eqb _ 0 (λ none. omega (arith, length-drop (prefix_len byte_is_line_end bytes) bytes)) in
    ap fault_behind_trailer (last_segment d at bytes alone) ∙ rw long

pub group_count : (gs hs : List GroupView) (g : GroupView) (n m : ℕ) → sum_by (λ (x : GroupView). vec_len x.sets) gs ≡ n → hs ≡ gs ++ g ∷ [] → m ≡ vec_len g.sets → sum_by (λ (x : GroupView). vec_len x.sets) hs ≡ n + m
group_count gs hs g n m so_far pushed is =
    ap (sum_by (λ (x : GroupView). vec_len x.sets)) pushed ∙ sum_by-append (λ (x : GroupView). vec_len x.sets) gs (g ∷ []) ∙ omega (arith, so_far, is)
