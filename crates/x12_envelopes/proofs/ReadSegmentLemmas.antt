-- The segments of an interchange that was read can be read.
use Rattle.std.proofs.Common.{◌≡◌, ◌∷◌, [], List, ℕ, Bool, true, false, not, unwrap_or, if◌then◌else◌, ◌&&◌, ◌||◌, ◌==◌, length, refl, subst, is_some, drop}
use Rattle.std.proofs.lemmas.Bool.Decides.{Decides-eqb}
use Rattle.std.specs.Prelude.{Option, Some, None, Ok, nat_le}
use Rattle.std.specs.Option.{option_or}
use Rattle.std.specs.List.{AllByRecursion}
use Rattle.x12_envelopes.specs.declared.delimiters.Delims.{Delims}
use Rattle.x12_envelopes.specs.declared.content.Kind.{Kind}
use Rattle.x12_envelopes.specs.declared.content.Kind.TheVariants.{Empty, Isa, Ta1, Gs, St, Data, Se, Ge, Iea}
use Rattle.x12_envelopes.specs.declared.content.Level.{Level}
use Rattle.x12_envelopes.specs.declared.content.Level.TheVariants.{Front}
use Rattle.x12_envelopes.specs.declared.shape.OutlineFault.{OutlineFault}
use Rattle.x12_envelopes.specs.declared.shape.OutlineFault.TheVariants.{Structure, Content}
use Rattle.x12_envelopes.specs.Row.{first_of_rows, ok_unless}
use Rattle.x12_envelopes.specs.Byte.{number_of_digits, bytes_are_digits, text_has_length}
use Rattle.x12_envelopes.specs.Segment.{PlacedSegment, segments_from, element_of, count_of_elements}
use Rattle.x12_envelopes.specs.Content.{kind_of_segment, segment_is_gs, segment_is_st, is_group_date, is_agency}
use Rattle.x12_envelopes.specs.Shape.{Interchange}
use Rattle.x12_envelopes.specs.Outline.{kind_is_misplaced, segment_is_unreadable, control_fault, fault_of_segment, level_behind, groups_behind, sets_behind, first_fault, transaction_set_of, group_rest, functional_group_of, interchange_of, outline_of, GroupRest, is_kind}
use Rattle.x12_envelopes.specs.Readable.{IsReadable, ReadIsReadable}
use Rattle.std.proofs.lemmas.Bool.{and_parts}

or_none : (a b : Option OutlineFault) → option_or a b ≡ None → (a ≡ None) × (b ≡ None)
or_none None b e = (refl, e)
or_none (Some x) b e = absurd (cc)

-- no fault of a segment: its content can be read
pub record IsClear (d : Delims) (s : PlacedSegment) : Type 0 where
  pub gs : kind_of_segment d s.bytes ≡ Gs → segment_is_gs d s.bytes ≡ true
  pub st : kind_of_segment d s.bytes ≡ St → segment_is_st d s.bytes ≡ true

rows_none : (a b : Bool) (f g : OutlineFault) → first_of_rows ((a, f) ∷ (b, g) ∷ []) ≡ None → b ≡ false
rows_none true b f g e = absurd (cc)
rows_none false true f g e = absurd (cc)
rows_none false false f g e = refl

readable : (a b : Bool) → (not a || b) ≡ false → a ≡ true
readable true b e = refl
readable false b e = absurd (cc)

no_row : (d : Delims) (level : Level) (groups sets : ℕ) (s : PlacedSegment) → fault_of_segment d level groups sets s ≡ None → segment_is_unreadable d groups sets (kind_of_segment d s.bytes) s.bytes ≡ false
unfolding fault_of_segment
no_row d level groups sets s e =
    rows_none (kind_is_misplaced level (kind_of_segment d s.bytes)) (segment_is_unreadable d groups sets (kind_of_segment d s.bytes) s.bytes) (Structure s.at) (Content s.at)
    (or_none (control_fault d s) _ e).1

clear : (d : Delims) (level : Level) (groups sets : ℕ) (s : PlacedSegment) → fault_of_segment d level groups sets s ≡ None → IsClear d s
clear d level groups sets s e = record {
  gs = λ is. readable (segment_is_gs d s.bytes) (nat_le 32 groups) (rw is at (no_row d level groups sets s e));
  st = λ is. readable (segment_is_st d s.bytes) (nat_le 400 sets) (rw is at (no_row d level groups sets s e));
}

-- the segments up to IEA are clear
abbrev pub AreClear : Delims → List PlacedSegment → Type 0
AreClear d [] = Unit {0}
AreClear d (s ∷ more) = IsClear d s × (is_kind Iea (kind_of_segment d s.bytes) ≡ false → AreClear d more)

unless_iea : (b : Bool) (f g : Option OutlineFault) → (if b then f else g) ≡ None → b ≡ false → g ≡ None
unless_iea true f g e is = absurd (cc)
unless_iea false f g e is = e

no_last : (a : Option OutlineFault) (f : OutlineFault) → option_or a (Some f) ≡ None → ⊥
no_last None f e = absurd (cc)
no_last (Some g) f e = absurd (cc)

are_clear : (d : Delims) (level : Level) (groups sets : ℕ) (ss : List PlacedSegment) → first_fault d level groups sets ss ≡ None → AreClear d ss
unfolding first_fault
are_clear d level groups sets [] e = tt
are_clear d level groups sets (s ∷ []) e = absurd (no_last (control_fault d s) _ e)
are_clear d level groups sets (s ∷ t ∷ more) e =
    let split = or_none (fault_of_segment d level groups sets s) _ e in
    (clear d level groups sets s split.0, λ is. are_clear d (level_behind (kind_of_segment d s.bytes)) (groups_behind groups (kind_of_segment d s.bytes)) (sets_behind sets (kind_of_segment d s.bytes)) (t ∷ more) (unless_iea (is_kind Iea (kind_of_segment d s.bytes)) _ _ split.1 is))

third : (a b c : Bool) → (a && b && c) ≡ true → c ≡ true
third a b c is = (and_parts (a && b) c is).1

second : (a b c d e f g h i j : Bool) → (a && b && c && d && e && f && g && h && i && j) ≡ true → b ≡ true
second a b c d e f g h i j is = (and_parts a b (and_parts (a && b) c (and_parts (a && b && c) d (and_parts (a && b && c && d) e (and_parts (a && b && c && d && e) f (and_parts (a && b && c && d && e && f) g (and_parts (a && b && c && d && e && f && g) h (and_parts (a && b && c && d && e && f && g && h) i (and_parts (a && b && c && d && e && f && g && h && i) j is).0).0).0).0).0).0).0).0).1

eighth : (a b c d e f g h i j : Bool) → (a && b && c && d && e && f && g && h && i && j) ≡ true → h ≡ true
eighth a b c d e f g h i j is = (and_parts (a && b && c && d && e && f && g) h (and_parts (a && b && c && d && e && f && g && h) i (and_parts (a && b && c && d && e && f && g && h && i) j is).0).0).1

-- ST02
st_number : (d : Delims) (part : List ℕ) → segment_is_st d part ≡ true → text_has_length 4 9 (element_of d part 2) ≡ true
unfolding segment_is_st
st_number d part is = third (nat_le 2 (count_of_elements d part)) (length (element_of d part 1) == 3) (text_has_length 4 9 (element_of d part 2)) is

spelled : (n : Option ℕ) → is_some n ≡ true → n ≡ Some (unwrap_or n 0)
spelled None is = absurd (cc)
spelled (Some n) is = refl

-- GS01 and GS06
gs_readable : (d : Delims) (gs : PlacedSegment) (r : GroupRest) → segment_is_gs d gs.bytes ≡ true → AllByRecursion (λ s. text_has_length 4 9 s.number ≡ true) r.sets → IsReadable (functional_group_of d gs r)
unfolding segment_is_gs functional_group_of
gs_readable d gs r is sets = record {
  functional = (Decides-eqb (length (element_of d gs.bytes 1)) 2).0 (second (count_of_elements d gs.bytes == 8) (length (element_of d gs.bytes 1) == 2) (text_has_length 2 15 (element_of d gs.bytes 2)) (text_has_length 2 15 (element_of d gs.bytes 3)) (is_group_date (element_of d gs.bytes 4)) (text_has_length 4 8 (element_of d gs.bytes 5)) (bytes_are_digits (element_of d gs.bytes 5)) (is_some (number_of_digits (element_of d gs.bytes 6))) (is_agency (element_of d gs.bytes 7)) (text_has_length 1 12 (element_of d gs.bytes 8)) is);
  number = spelled (number_of_digits (element_of d gs.bytes 6)) (eighth (count_of_elements d gs.bytes == 8) (length (element_of d gs.bytes 1) == 2) (text_has_length 2 15 (element_of d gs.bytes 2)) (text_has_length 2 15 (element_of d gs.bytes 3)) (is_group_date (element_of d gs.bytes 4)) (text_has_length 4 8 (element_of d gs.bytes 5)) (bytes_are_digits (element_of d gs.bytes 5)) (is_some (number_of_digits (element_of d gs.bytes 6))) (is_agency (element_of d gs.bytes 7)) (text_has_length 1 12 (element_of d gs.bytes 8)) is);
  sets = sets;
}

-- by kind, as a group's and an interchange's segments are taken
abbrev pub SetsFit : GroupRest → Type 0
SetsFit r = AllByRecursion (λ s. text_has_length 4 9 s.number ≡ true) r.sets

sets_by : (d : Delims) (input : List ℕ) (s : PlacedSegment) (more : List PlacedSegment) (kind : Kind) → kind_of_segment d s.bytes ≡ kind → IsClear d s → (is_kind Iea kind ≡ false → SetsFit (group_rest d input more)) → SetsFit (group_rest d input (s ∷ more))
unfolding group_rest transaction_set_of
sets_by d input s more Empty is c rest = rw is tt
sets_by d input s more Isa is c rest = rw is tt
sets_by d input s more Ta1 is c rest = rw is tt
sets_by d input s more Gs is c rest = rw is tt
sets_by d input s more St is c rest = rw is (st_number d s.bytes (c.st is), rest refl)
sets_by d input s more Data is c rest = rw is (rest refl)
sets_by d input s more Se is c rest = rw is (rest refl)
sets_by d input s more Ge is c rest = rw is tt
sets_by d input s more Iea is c rest = rw is tt

sets_fit : (d : Delims) (input : List ℕ) (ss : List PlacedSegment) → AreClear d ss → SetsFit (group_rest d input ss)
unfolding group_rest
sets_fit d input [] clear = tt
sets_fit d input (s ∷ more) clear = sets_by d input s more (kind_of_segment d s.bytes) refl clear.0 (λ is. sets_fit d input more (clear.1 is))

groups_by : (d : Delims) (input : List ℕ) (s : PlacedSegment) (more : List PlacedSegment) (kind : Kind) → kind_of_segment d s.bytes ≡ kind → IsClear d s → (is_kind Iea kind ≡ false → AreClear d more) → (is_kind Iea kind ≡ false → AllByRecursion IsReadable (interchange_of d input more).groups) → AllByRecursion IsReadable (interchange_of d input (s ∷ more)).groups
unfolding interchange_of
groups_by d input s more Empty is c clear rest = rw is (rest refl)
groups_by d input s more Isa is c clear rest = rw is (rest refl)
groups_by d input s more Ta1 is c clear rest = rw is (rest refl)
groups_by d input s more Gs is c clear rest = rw is (gs_readable d s (group_rest d input more) (c.gs is) (sets_fit d input more (clear refl)), rest refl)
groups_by d input s more St is c clear rest = rw is (rest refl)
groups_by d input s more Data is c clear rest = rw is (rest refl)
groups_by d input s more Se is c clear rest = rw is (rest refl)
groups_by d input s more Ge is c clear rest = rw is (rest refl)
groups_by d input s more Iea is c clear rest = rw is tt

groups_fit : (d : Delims) (input : List ℕ) (ss : List PlacedSegment) → AreClear d ss → AllByRecursion IsReadable (interchange_of d input ss).groups
unfolding interchange_of
groups_fit d input [] clear = tt
groups_fit d input (s ∷ more) clear =
    groups_by d input s more (kind_of_segment d s.bytes) refl clear.0 clear.1 (λ is. groups_fit d input more (clear.1 is))

read_by : (fault : Option OutlineFault) (made x : Interchange) → ok_unless fault made ≡ Ok x → (fault ≡ None → AllByRecursion IsReadable made.groups) → AllByRecursion IsReadable x.groups
read_by None made x e all =
    let same : made ≡ x = cc in
    subst (λ (y : Interchange). AllByRecursion IsReadable y.groups) same (all refl)
read_by (Some f) made x e all = absurd (cc)

pub read_is_readable : ReadIsReadable
unfolding outline_of
read_is_readable d bytes x e =
    let ss : List PlacedSegment = segments_from d 106 (drop 106 bytes) in
    read_by (first_fault d Front 0 0 ss) (interchange_of d bytes ss) x e (λ none. groups_fit d bytes ss (are_clear d Front 0 0 ss none))
