-- An open functional group, as far as it was read.
use Rattle.std.proofs.Common.{◌≡◌, ℕ, ◌<◌, Bool, true, false, not, ◌||◌, ◌&&◌, nat_le, unwrap_or, Option, None, Some, List, [], ◌∷◌, ◌++◌, length, map, option_map, refl, sym, ap, ap₂, ◌∙◌, append-nil}
use Rattle.std.specs.Option.{option_or}
use Rattle.std.proofs.lemmas.Bool.{leb-false, lt-leb}
use Rattle.std.proofs.lemmas.List.{append_assoc, map_push}
use Rattle.x12_envelopes.specs.Row.{first_of_rows}
use Rattle.x12_envelopes.specs.declared.delimiters.Delims.{Delims}
use Rattle.x12_envelopes.specs.declared.content.Kind.{Kind}
use Rattle.x12_envelopes.specs.declared.content.Kind.TheVariants.{Empty, Isa, Ta1, Gs, St, Data, Se, Ge, Iea}
use Rattle.x12_envelopes.specs.declared.content.Level.{Level}
use Rattle.x12_envelopes.specs.declared.content.Level.TheVariants.{Between, InGroup}
use Rattle.x12_envelopes.specs.declared.shape.OutlineFault.{OutlineFault}
use Rattle.x12_envelopes.specs.declared.shape.OutlineFault.TheVariants.{Structure, Content}
use Rattle.x12_envelopes.specs.declared.shape.SetView.{SetView}
use Rattle.x12_envelopes.specs.declared.remaining.GroupHeader.{GroupHeader}
use Rattle.x12_envelopes.specs.Byte.{number_of_digits}
use Rattle.x12_envelopes.specs.Envelope.{element_at}
use Rattle.x12_envelopes.specs.Remaining.{AreOfGs, elements_of_gs}
use Rattle.x12_envelopes.specs.Segment.{PlacedSegment}
use Rattle.x12_envelopes.specs.Shape.{TransactionSet, FunctionalGroupTrailer, set_view}
use Rattle.x12_envelopes.specs.Content.{kind_of_segment, segment_is_gs, segment_is_st, group_trailer_of, group_of_gs}
use Rattle.x12_envelopes.specs.Outline.{offset_behind, set_rest, transaction_set_of, GroupRest, group_rest, functional_group_of, with_sets, ends_group, kind_is_misplaced, segment_is_unreadable, control_fault, fault_of_segment, first_fault, level_behind, groups_behind, sets_behind, is_kind}
use Rattle.x12_envelopes.proofs.FirstFaultLemmas.{goes_on}
use Rattle.x12_envelopes.proofs.SetLemmas.{same_fault}
use Rattle.x12_envelopes.specs.Reading.{group_with, fault_but_in_gs}

-- where a segment has no fault, it may stand there and can be read
none_parts : (o : Option OutlineFault) (m u : Bool) (x y : OutlineFault) → option_or o (first_of_rows ((m, x) ∷ (u, y) ∷ [])) ≡ None → (m ≡ false) × (u ≡ false)
none_parts (Some fault) m u x y none = cc
none_parts None true u x y none = cc
none_parts None false true x y none = cc
none_parts None false false x y none = (refl, refl)

pub sound_parts : (d : Delims) (level : Level) (groups sets : ℕ) (s : PlacedSegment) (k : Kind) → fault_of_segment d level groups sets s ≡ None → kind_of_segment d s.bytes ≡ k → (kind_is_misplaced level k ≡ false) × (segment_is_unreadable d groups sets k s.bytes ≡ false)
unfolding fault_of_segment
sound_parts d level groups sets s k none is = none_parts _ _ _ _ _ (rw is at none)

not_or : (a b : Bool) → (not a || b) ≡ false → (a ≡ true) × (b ≡ false)
not_or true false h = (refl, refl)
not_or true true h = cc
not_or false b h = cc

pub sound_st : (d : Delims) (level : Level) (groups sets : ℕ) (s : PlacedSegment) → fault_of_segment d level groups sets s ≡ None → kind_of_segment d s.bytes ≡ St → (segment_is_st d s.bytes ≡ true) × (sets < 400)
sound_st d level groups sets s none is =
    let parts = not_or (segment_is_st d s.bytes) (nat_le 400 sets) (sound_parts d level groups sets s St none is).1 in
    (parts.0, leb-false 400 sets parts.1)

pub sound_gs : (d : Delims) (level : Level) (groups sets : ℕ) (s : PlacedSegment) → fault_of_segment d level groups sets s ≡ None → kind_of_segment d s.bytes ≡ Gs → (segment_is_gs d s.bytes ≡ true) × (groups < 32)
sound_gs d level groups sets s none is =
    let parts = not_or (segment_is_gs d s.bytes) (nat_le 32 groups) (sound_parts d level groups sets s Gs none is).1 in
    (parts.0, leb-false 32 groups parts.1)

-- a segment that has no fault, but perhaps that of a GS which can't be read, may stand there
right_rows : (o : Option OutlineFault) (m u : Bool) (x y : OutlineFault) → option_or o (first_of_rows ((m, x) ∷ (u, y) ∷ [])) ≡ None → m ≡ false
right_rows o m u x y none = (none_parts o m u x y none).0

pub right_place : (d : Delims) (level : Level) (groups sets : ℕ) (s : PlacedSegment) (k : Kind) → fault_but_in_gs d level groups sets s ≡ None → kind_of_segment d s.bytes ≡ k → kind_is_misplaced level k ≡ false
right_place d level groups sets s k none is = right_rows _ _ _ _ _ (rw is at none)

-- of a segment that is no GS, it is the fault
same_but : (d : Delims) (level : Level) (groups sets : ℕ) (s : PlacedSegment) (k : Kind) → kind_of_segment d s.bytes ≡ k → is_kind Gs k ≡ false → fault_but_in_gs d level groups sets s ≡ fault_of_segment d level groups sets s
unfolding fault_of_segment
same_but d level groups sets s k is other = rw (is, other) refl

pub sound_others : (d : Delims) (level : Level) (groups sets : ℕ) (s : PlacedSegment) (k : Kind) → fault_but_in_gs d level groups sets s ≡ None → kind_of_segment d s.bytes ≡ k → is_kind Gs k ≡ false → fault_of_segment d level groups sets s ≡ None
sound_others d level groups sets s k none is other = sym (same_but d level groups sets s k is other) ∙ none

wrong_rows : (o : Option OutlineFault) (m g u : Bool) (x y f : OutlineFault) → option_or o (first_of_rows ((m, x) ∷ (not g && u, y) ∷ [])) ≡ Some f → option_or o (first_of_rows ((m, x) ∷ (u, y) ∷ [])) ≡ Some f
wrong_rows (Some fault) m g u x y f is = is
wrong_rows None true g u x y f is = is
wrong_rows None false true u x y f is = cc
wrong_rows None false false u x y f is = is

pub wrong_but : (d : Delims) (level : Level) (groups sets : ℕ) (s : PlacedSegment) (f : OutlineFault) → fault_but_in_gs d level groups sets s ≡ Some f → fault_of_segment d level groups sets s ≡ Some f
unfolding fault_of_segment
wrong_but d level groups sets s f is =
    wrong_rows (control_fault d s) (kind_is_misplaced level (kind_of_segment d s.bytes)) (is_kind Gs (kind_of_segment d s.bytes)) (segment_is_unreadable d groups sets (kind_of_segment d s.bytes) s.bytes) (Structure s.at) (Content s.at) f is

-- a GS has no fault just where it can be read and isn't the 33rd
header_rows : (o : Option OutlineFault) (m u : Bool) (x y : OutlineFault) → option_or o (first_of_rows ((m, x) ∷ (false, y) ∷ [])) ≡ None → option_or o (first_of_rows ((m, x) ∷ (u, y) ∷ [])) ≡ first_of_rows ((u, y) ∷ [])
header_rows (Some fault) m u x y none = cc
header_rows None true u x y none = cc
header_rows None false u x y none = refl

header_fault : (d : Delims) (level : Level) (groups sets : ℕ) (s : PlacedSegment) → fault_but_in_gs d level groups sets s ≡ None → kind_of_segment d s.bytes ≡ Gs → fault_of_segment d level groups sets s ≡ first_of_rows ((not (segment_is_gs d s.bytes) || nat_le 32 groups, Content s.at) ∷ [])
unfolding fault_of_segment
header_fault d level groups sets s none is =
    rw is (header_rows (control_fault d s) (kind_is_misplaced level Gs) (not (segment_is_gs d s.bytes) || nat_le 32 groups) (Structure s.at) (Content s.at) (rw is at none))

pub sound_header : (d : Delims) (level : Level) (groups sets : ℕ) (s : PlacedSegment) → fault_but_in_gs d level groups sets s ≡ None → kind_of_segment d s.bytes ≡ Gs → segment_is_gs d s.bytes ≡ true → groups < 32 → fault_of_segment d level groups sets s ≡ None
sound_header d level groups sets s none is readable few =
    header_fault d level groups sets s none is ∙ rw (readable, lt-leb 32 groups few) refl

pub unreadable_header : (d : Delims) (level : Level) (groups sets : ℕ) (s : PlacedSegment) → fault_but_in_gs d level groups sets s ≡ None → kind_of_segment d s.bytes ≡ Gs → (not (segment_is_gs d s.bytes) || nat_le 32 groups) ≡ true → fault_of_segment d level groups sets s ≡ Some (Content s.at)
unreadable_header d level groups sets s none is unreadable =
    header_fault d level groups sets s none is ∙ rw unreadable refl

-- a group with the elements that were taken of its GS
pub group_of_header : (d : Delims) (gs : PlacedSegment) (header : GroupHeader) (sets : List TransactionSet) (trailer : Option FunctionalGroupTrailer) → AreOfGs d gs.bytes header → group_of_gs (element_at (elements_of_gs header)) sets trailer ≡ group_with d gs sets trailer
group_of_header d gs header sets trailer are = λ i. record {
  functional = are.functional i;
  sender = are.sender i;
  receiver = are.receiver i;
  number_text = are.number i;
  number = unwrap_or (number_of_digits (are.number i)) 0;
  version = are.version i;
  sets = sets;
  trailer = trailer;
}

-- a set's segments of data, and its SE, are no sets
skip_set_at : (d : Delims) (input : List ℕ) (p : ℕ) (s : PlacedSegment) (more : List PlacedSegment) → ((q : ℕ) → group_rest d input more ≡ group_rest d input (set_rest d q more).rest) → (k : Kind) → kind_of_segment d s.bytes ≡ k → group_rest d input (s ∷ more) ≡ group_rest d input (set_rest d p (s ∷ more)).rest
unfolding group_rest set_rest
skip_set_at d input p s more ih Data is = rw is (ih (offset_behind s))
skip_set_at d input p s more ih Se is = rw is
skip_set_at d input p s more ih Empty is = let at : (set_rest d p (s ∷ more)).rest ≡ s ∷ more = rw is in sym (ap (group_rest d input) at)
skip_set_at d input p s more ih Isa is = let at : (set_rest d p (s ∷ more)).rest ≡ s ∷ more = rw is in sym (ap (group_rest d input) at)
skip_set_at d input p s more ih Ta1 is = let at : (set_rest d p (s ∷ more)).rest ≡ s ∷ more = rw is in sym (ap (group_rest d input) at)
skip_set_at d input p s more ih Gs is = let at : (set_rest d p (s ∷ more)).rest ≡ s ∷ more = rw is in sym (ap (group_rest d input) at)
skip_set_at d input p s more ih St is = let at : (set_rest d p (s ∷ more)).rest ≡ s ∷ more = rw is in sym (ap (group_rest d input) at)
skip_set_at d input p s more ih Ge is = let at : (set_rest d p (s ∷ more)).rest ≡ s ∷ more = rw is in sym (ap (group_rest d input) at)
skip_set_at d input p s more ih Iea is = let at : (set_rest d p (s ∷ more)).rest ≡ s ∷ more = rw is in sym (ap (group_rest d input) at)

pub skip_set : (d : Delims) (input : List ℕ) (p : ℕ) (ss : List PlacedSegment) → group_rest d input ss ≡ group_rest d input (set_rest d p ss).rest
unfolding set_rest
skip_set d input p [] = refl
skip_set d input p (s ∷ more) = skip_set_at d input p s more (λ q. skip_set d input q more) (kind_of_segment d s.bytes) refl

pub rest_st : (d : Delims) (input : List ℕ) (s : PlacedSegment) (more : List PlacedSegment) → kind_of_segment d s.bytes ≡ St → group_rest d input (s ∷ more) ≡ with_sets (transaction_set_of d input s (set_rest d (offset_behind s) more) ∷ []) (group_rest d input more)
unfolding group_rest
rest_st d input s more is = rw is

pub rest_ge : (d : Delims) (input : List ℕ) (s : PlacedSegment) (more : List PlacedSegment) → kind_of_segment d s.bytes ≡ Ge → group_rest d input (s ∷ more) ≡ record { sets = []; trailer = Some s.bytes; rest = more }
unfolding group_rest
rest_ge d input s more is = rw is

pub rest_end : (d : Delims) (input : List ℕ) (s : PlacedSegment) (more : List PlacedSegment) (k : Kind) → kind_of_segment d s.bytes ≡ k → is_kind St k ≡ false → is_kind Ge k ≡ false → ends_group k ≡ true → group_rest d input (s ∷ more) ≡ record { sets = []; trailer = None; rest = s ∷ more }
unfolding group_rest
rest_end d input s more k is st ge ends = rw (is, st, ge, ends)

with_sets-with_sets : (vs : List TransactionSet) (v : TransactionSet) (r : GroupRest) → with_sets vs (with_sets (v ∷ []) r) ≡ with_sets (vs ++ v ∷ []) r
with_sets-with_sets vs v r = ap (λ (l : List TransactionSet). record r { sets = l }) (sym (append_assoc vs (v ∷ []) r.sets))

-- one set more
pub one_set : (d : Delims) (input : List ℕ) (s : PlacedSegment) (all more after : List PlacedSegment) (vs ws : List SetView) (v : SetView) → all ≡ s ∷ more → kind_of_segment d s.bytes ≡ St → set_view d v ≡ transaction_set_of d input s (set_rest d (offset_behind s) more) → after ≡ (set_rest d (offset_behind s) more).rest → ws ≡ vs ++ v ∷ [] → with_sets (map (set_view d) vs) (group_rest d input all) ≡ with_sets (map (set_view d) ws) (group_rest d input after)
one_set d input s all more after vs ws v are is view rest pushed =
    ap (λ l. with_sets (map (set_view d) vs) (group_rest d input l)) are
    ∙ ap (with_sets (map (set_view d) vs)) (rest_st d input s more is)
    ∙ ap₂ (λ (x : TransactionSet) (r : GroupRest). with_sets (map (set_view d) vs) (with_sets (x ∷ []) r)) (sym view) (skip_set d input (offset_behind s) more ∙ ap (group_rest d input) (sym rest))
    ∙ with_sets-with_sets (map (set_view d) vs) (set_view d v) (group_rest d input after)
    ∙ ap (λ l. with_sets l (group_rest d input after)) (sym (map_push (set_view d) vs v) ∙ ap (map (set_view d)) (sym pushed))

-- a functional group that has ended
pub record GroupEnds (d : Delims) (input : List ℕ) (start : List PlacedSegment) (sets : List TransactionSet) (trailer : Option (List ℕ)) (rest : List PlacedSegment) : Type 0 where
  pub is : group_rest d input start ≡ record { sets = sets; trailer = trailer; rest = rest }

pub ends_by_ge : (d : Delims) (input : List ℕ) (start all more : List PlacedSegment) (sets : List TransactionSet) (s : PlacedSegment) → group_rest d input start ≡ with_sets sets (group_rest d input all) → all ≡ s ∷ more → kind_of_segment d s.bytes ≡ Ge → GroupEnds d input start sets (Some s.bytes) more
ends_by_ge d input start all more sets s whole are is = record {
  is = whole ∙ ap (λ l. with_sets sets (group_rest d input l)) are ∙ ap (with_sets sets) (rest_ge d input s more is) ∙ ap (λ (l : List TransactionSet). record { sets = l; trailer = Some s.bytes; rest = more }) (append-nil sets);
}

pub ends_group_before : (d : Delims) (input : List ℕ) (start all more : List PlacedSegment) (sets : List TransactionSet) (s : PlacedSegment) (k : Kind) → group_rest d input start ≡ with_sets sets (group_rest d input all) → all ≡ s ∷ more → kind_of_segment d s.bytes ≡ k → is_kind St k ≡ false → is_kind Ge k ≡ false → ends_group k ≡ true → GroupEnds d input start sets None all
ends_group_before d input start all more sets s k whole are is st ge ends = record {
  is = whole ∙ ap (λ l. with_sets sets (group_rest d input l)) are ∙ ap (with_sets sets) (rest_end d input s more k is st ge ends) ∙ ap₂ (λ (l : List TransactionSet) (ss : List PlacedSegment). record { sets = l; trailer = None; rest = ss }) (append-nil sets) (sym are);
}

pub group_is : (d : Delims) (input : List ℕ) (gs : PlacedSegment) (start : List PlacedSegment) (sets : List TransactionSet) (trailer : Option (List ℕ)) (rest : List PlacedSegment) → GroupEnds d input start sets trailer rest → (t : Option FunctionalGroupTrailer) → t ≡ option_map (group_trailer_of d) trailer → group_with d gs sets t ≡ functional_group_of d gs (group_rest d input start)
unfolding functional_group_of
group_is d input gs start sets trailer rest ends t is_trailer = rw (ends.is) (rw is_trailer)

-- the kinds that end a group that has no GE: only GS and IEA may stand there
pub group_over : (k : Kind) → (k ≡ St → ⊥) → (k ≡ Ge → ⊥) → kind_is_misplaced InGroup k ≡ false → (is_kind St k ≡ false) × (is_kind Ge k ≡ false) × (ends_group k ≡ true) × (kind_is_misplaced InGroup k ≡ kind_is_misplaced Between k)
group_over Empty a b m = cc
group_over Isa a b m = cc
group_over Ta1 a b m = cc
group_over Gs a b m = (refl, refl, refl, refl)
group_over St a b m = absurd (a refl)
group_over Data a b m = cc
group_over Se a b m = cc
group_over Ge a b m = absurd (b refl)
group_over Iea a b m = (refl, refl, refl, refl)

-- one segment on, where the counts have other names
pub steps_on : (d : Delims) (level : Level) (g m n p : ℕ) (s : PlacedSegment) (all more : List PlacedSegment) (k : Kind) → m ≡ n → p ≡ sets_behind n k → all ≡ s ∷ more → 0 < length more → fault_of_segment d level g m s ≡ None → kind_of_segment d s.bytes ≡ k → is_kind Iea k ≡ false → first_fault d level g n all ≡ first_fault d (level_behind k) (groups_behind g k) p more
steps_on d level g m n p s all more k same count are some sound is on =
    ap₂ (λ (x : ℕ) (l : List PlacedSegment). first_fault d level g x l) (sym same) are
    ∙ goes_on d level g m s more some sound k is on
    ∙ ap (λ (x : ℕ). first_fault d (level_behind k) (groups_behind g k) x more) (ap (λ x. sets_behind x k) same ∙ sym count)

-- the same at another level, where the counts have other names
pub level_on : (d : Delims) (l m : Level) (g n p : ℕ) (s : PlacedSegment) (all more : List PlacedSegment) → p ≡ n → all ≡ s ∷ more → kind_is_misplaced l (kind_of_segment d s.bytes) ≡ kind_is_misplaced m (kind_of_segment d s.bytes) → first_fault d l g n all ≡ first_fault d m g p all
level_on d l m g n p s all more count are same =
    ap (first_fault d l g n) are ∙ same_fault d l m g n s more same
    ∙ ap₂ (λ (x : ℕ) (ss : List PlacedSegment). first_fault d m g x ss) (sym count) (sym are)
