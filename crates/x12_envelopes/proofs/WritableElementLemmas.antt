-- The elements of an interchange that was read can be written.
use Rattle.std.proofs.Common.{◌≡◌, ℕ, ◌+◌, Bool, true, false, not, ◌&&◌, ◌||◌, ◌==◌, nat_lt, nat_le, cond, List, [], ◌∷◌, ◌++◌, length, map, flat_map, take, drop, position, Option, None, Some, IfSome, refl, sym, ap, subst, ◌∙◌, arith, rules}
use Rattle.std.specs.List.{AllByRecursion, list_all, slice_split, onto_first, position_or_len}
use Rattle.std.specs.Option.{option_to_list}
use Rattle.std.proofs.lemmas.Bool.{ltb-false, and_parts}
use Rattle.std.proofs.lemmas.List.{take-append-drop}
use Rattle.std.proofs.lemmas.List.Folds.{list_all-append}
use Rattle.x12_envelopes.specs.declared.delimiters.Delims.{Delims}
use Rattle.x12_envelopes.specs.declared.content.Kind.{Kind}
use Rattle.x12_envelopes.specs.declared.content.Kind.TheVariants.{Data, Se}
use Rattle.x12_envelopes.specs.Delimiters.{is_control}
use Rattle.x12_envelopes.specs.Segment.{PlacedSegment, place_pieces, segments_from, trimmed_segment, elements_of, element_of}
use Rattle.x12_envelopes.specs.Content.{segment_is_gs}
use Rattle.x12_envelopes.specs.Byte.{text_has_length}
use Rattle.x12_envelopes.specs.Fitting.{byte_is_writable, element_is_writable}
use Rattle.x12_envelopes.specs.Shape.{Interchange}
use Rattle.x12_envelopes.specs.Grammar.{SetTree, GroupTree, InterchangeTree, set_tree_segments, group_tree_segments, interchange_tree_segments, IsSegment, IsSet, IsGroup, bytes_of, set_meant, group_meant, interchange_meant, HoldsTree}
use Rattle.x12_envelopes.specs.Writable.{has_writable_elements, IsWritableSet, IsWritableGroup, OutlineIsWritable}
use Rattle.x12_envelopes.proofs.WrittenKindLemmas.{nth_writable}
use Rattle.x12_envelopes.proofs.FoundTreeLemmas.{trees_alone}

-- Texts.

weaker : {X : Type 0} (p q : X → Bool) → ((x : X) → p x ≡ true → q x ≡ true) → (xs : List X) → list_all p xs ≡ true → list_all q xs ≡ true
weaker p q each [] all = refl
weaker p q each (x ∷ xs) all = let h = and_parts _ _ all in rw (each x h.0, weaker p q each xs h.1) refl

parted : (p : ℕ → Bool) (n : ℕ) (xs : List ℕ) → list_all p xs ≡ true → (list_all p (take n xs) ≡ true) × (list_all p (drop n xs) ≡ true)
parted p n xs all =
    and_parts _ _ (sym (list_all-append p (take n xs) (drop n xs)) ∙ ap (list_all p) (take-append-drop n xs) ∙ all)

-- cut where a test passes, the pieces hold only bytes where it doesn't
cut_step : (p q : ℕ → Bool) (b : ℕ) (pieces : List (List ℕ)) (c : Bool) → p b ≡ c → q b ≡ true → list_all (list_all (λ x. not (p x) && q x)) pieces ≡ true → list_all (list_all (λ x. not (p x) && q x)) (cond c ([] ∷ pieces) (onto_first b pieces)) ≡ true
cut_step p q b pieces true is held all = all
cut_step p q b [] false is held all = rw (is, held) refl
cut_step p q b (piece ∷ pieces) false is held all =
    let h = and_parts (list_all (λ x. not (p x) && q x) piece) (list_all (list_all (λ x. not (p x) && q x)) pieces) all in
    rw (is, held, h.0, h.1) refl

cut_all : (p q : ℕ → Bool) (bytes : List ℕ) → list_all q bytes ≡ true → list_all (list_all (λ x. not (p x) && q x)) (slice_split p bytes) ≡ true
cut_all p q [] all = refl
cut_all p q (b ∷ bytes) all =
    let h = and_parts _ _ all in
    cut_step p q b (slice_split p bytes) (p b) refl h.0 (cut_all p q bytes h.1)

-- A segment: no terminator, and no control byte.

abbrev has_no_terminator : Delims → List ℕ → Bool
has_no_terminator d bytes = list_all (λ b. not (b == d.terminator)) bytes

no_byte : (p : ℕ → Bool) (b : ℕ) (bytes : List ℕ) (c : Bool) → p b ≡ c → nat_lt (cond (not c) (1 + position_or_len p bytes) 0) (length (b ∷ bytes)) ≡ false → (c ≡ false) × (nat_lt (position_or_len p bytes) (length bytes) ≡ false)
no_byte p b bytes true is none = absurd (omega (arith, ltb-false 0 (length (b ∷ bytes)) none))
no_byte p b bytes false is none = (refl, search (rules, arith, none))

none_passes : (p : ℕ → Bool) (bytes : List ℕ) → nat_lt (position_or_len p bytes) (length bytes) ≡ false → list_all (λ b. not (p b)) bytes ≡ true
none_passes p [] none = refl
none_passes p (b ∷ bytes) none =
    let h = no_byte p b bytes (p b) refl none in
    rw (h.0, none_passes p bytes h.1) refl

found_none : (c : Bool) (n : ℕ) → cond c (Some n) None ≡ None → c ≡ false
found_none true n none = absurd (cc)
found_none false n none = refl

both_all : (p q : ℕ → Bool) (bytes : List ℕ) → list_all p bytes ≡ true → list_all q bytes ≡ true → list_all (λ b. p b && q b) bytes ≡ true
both_all p q [] first second = refl
both_all p q (b ∷ bytes) first second =
    let f = and_parts (p b) (list_all p bytes) first in
    let s = and_parts (q b) (list_all q bytes) second in
    rw (f.0, s.0, both_all p q bytes f.1 s.1) refl

byte_by : (separator component terminator low high : Bool) → (low ≡ false → high ≡ true) → (not separator && (not terminator && not (low && not (separator || component || terminator)))) ≡ true → (not separator && not terminator && (high || component)) ≡ true
byte_by true component terminator low high is held = absurd (cc)
byte_by false component true low high is held = absurd (cc)
byte_by false true false low high is held = top high
  where
    top : (b : Bool) → (b || true) ≡ true
    top true = refl
    top false = refl
byte_by false false false true high is held = absurd (cc)
byte_by false false false false high is held = rw (is refl) refl

pub not_low : (b : ℕ) → nat_lt b 32 ≡ false → nat_le 32 b ≡ true
not_low b is = search (rules, arith)

byte_writable : (d : Delims) (b : ℕ) → (not (b == d.element) && (not (b == d.terminator) && not (is_control d b))) ≡ true → byte_is_writable d b ≡ true
byte_writable d b held =
    byte_by (b == d.element) (b == d.component) (b == d.terminator) (nat_lt b 32) (nat_le 32 b) (not_low b) held

part_writable : (d : Delims) (part : List ℕ) → has_no_terminator d part ≡ true → position (is_control d) part ≡ None → has_writable_elements d part ≡ true
unfolding elements_of trimmed_segment element_is_writable
part_writable d part ended plain =
    let plain' = none_passes (is_control d) part (found_none _ _ plain) in
    let both' = both_all (λ b. not (b == d.terminator)) (λ b. not (is_control d b)) part ended plain' in
    weaker (list_all (λ b. not (b == d.element) && (not (b == d.terminator) && not (is_control d b)))) (list_all (byte_is_writable d)) (weaker _ _ (byte_writable d)) (slice_split (λ b. b == d.element) (trimmed_segment d part))
    (cut_all (λ b. b == d.element) (λ b. not (b == d.terminator) && not (is_control d b)) (trimmed_segment d part) (parted _ _ part both').0)

pub element_writable : (d : Delims) (part : List ℕ) (n : ℕ) → has_writable_elements d part ≡ true → element_is_writable d (element_of d part n) ≡ true
unfolding element_of
element_writable d part n held = nth_writable d (elements_of d part) n held

-- The segments of an interchange.

abbrev are_ended : Delims → List PlacedSegment → Bool
are_ended d ss = list_all (λ s. has_no_terminator d s.bytes) ss

pieces_ended : (d : Delims) (at : ℕ) (pieces : List (List ℕ)) → list_all (list_all (λ b. not (b == d.terminator) && true)) pieces ≡ true → are_ended d (place_pieces at pieces) ≡ true
pieces_ended d at [] all = refl
pieces_ended d at (piece ∷ pieces) all =
    let h = and_parts _ _ all in
    let piece' = weaker (λ b. not (b == d.terminator) && true) (λ b. not (b == d.terminator)) (λ b e. (and_parts _ _ e).0) piece h.0 in
    rw ((parted _ _ piece piece').1, pieces_ended d (at + length piece + 1) pieces h.1) refl

segments_ended : (d : Delims) (at : ℕ) (bytes : List ℕ) → are_ended d (segments_from d at bytes) ≡ true
unfolding segments_from
segments_ended d at bytes =
    pieces_ended d at (slice_split (λ b. b == d.terminator) bytes) (cut_all (λ b. b == d.terminator) (λ b. true) bytes (always bytes))
  where
    always : (bytes : List ℕ) → list_all (λ b. true) bytes ≡ true
    always [] = refl
    always (b ∷ bytes) = always bytes

ended_apart : (d : Delims) (front back : List PlacedSegment) → are_ended d (front ++ back) ≡ true → (are_ended d front ≡ true) × (are_ended d back ≡ true)
ended_apart d front back all =
    and_parts _ _ (sym (list_all-append (λ s. has_no_terminator d s.bytes) front back) ∙ all)

segment_writable : (d : Delims) (kind : Kind) (s : PlacedSegment) → IsSegment d kind s → has_no_terminator d s.bytes ≡ true → has_writable_elements d s.bytes ≡ true
segment_writable d kind s is ended = part_writable d s.bytes ended is.plain

trailer_writable : (d : Delims) (se : Option PlacedSegment) → IfSome se (IsSegment d Se) → are_ended d (option_to_list se) ≡ true → list_all (has_writable_elements d) (map bytes_of (option_to_list se)) ≡ true
trailer_writable d None is ended = refl
trailer_writable d (Some s) is ended = rw (segment_writable d Se s is (and_parts _ _ ended).0) refl

tail_writable : (d : Delims) (body : List PlacedSegment) (se : Option PlacedSegment) → AllByRecursion (IsSegment d Data) body → IfSome se (IsSegment d Se) → are_ended d (body ++ option_to_list se) ≡ true → list_all (has_writable_elements d) (map bytes_of (body ++ option_to_list se)) ≡ true
tail_writable d [] se are is ended = trailer_writable d se is ended
tail_writable d (s ∷ body) se are is ended =
    let h = and_parts _ _ ended in
    rw (segment_writable d Data s are.0 h.0, tail_writable d body se are.1 is h.1) refl

set_writable : (d : Delims) (input : List ℕ) (t : SetTree) → IsSet d t → are_ended d (set_tree_segments t) ≡ true → IsWritableSet d (set_meant d input t)
set_writable d input t is ended =
    let h = and_parts _ _ ended in
    let st = segment_writable d _ t.st is.st h.0 in
    record {
      set = element_writable d t.st.bytes 1 st;
      number = element_writable d t.st.bytes 2 st;
      parts = rw (st, tail_writable d t.body t.se is.body is.se h.1) refl;
    }

sets_writable : (d : Delims) (input : List ℕ) (sets : List SetTree) → AllByRecursion (IsSet d) sets → are_ended d (flat_map set_tree_segments sets) ≡ true → AllByRecursion (IsWritableSet d) (map (set_meant d input) sets)
sets_writable d input [] are ended = tt
sets_writable d input (t ∷ sets) are ended =
    let h = ended_apart d (set_tree_segments t) (flat_map set_tree_segments sets) ended in
    (set_writable d input t are.0 h.0, sets_writable d input sets are.1 h.1)

-- GS02 and GS03
parties_length : (d : Delims) (part : List ℕ) → segment_is_gs d part ≡ true → (text_has_length 2 15 (element_of d part 2) ≡ true) × (text_has_length 2 15 (element_of d part 3) ≡ true)
unfolding segment_is_gs
parties_length d part is =
    let through_six = (and_parts _ _ (and_parts _ _ (and_parts _ _ (and_parts _ _ is).0).0).0).0 in
    let through_four = (and_parts _ _ (and_parts _ _ through_six).0).0 in
    let three = and_parts _ _ through_four in
    ((and_parts _ _ three.0).1, three.1)

group_writable : (d : Delims) (input : List ℕ) (t : GroupTree) → IsGroup d t → are_ended d (group_tree_segments t) ≡ true → IsWritableGroup d (group_meant d input t)
group_writable d input t is ended =
    let h = and_parts _ _ ended in
    let gs = segment_writable d _ t.gs is.gs h.0 in
    let long = parties_length d t.gs.bytes is.readable in
    record {
      functional = element_writable d t.gs.bytes 1 gs;
      sender = rw (element_writable d t.gs.bytes 2 gs, long.0) refl;
      receiver = rw (element_writable d t.gs.bytes 3 gs, long.1) refl;
      number_text = element_writable d t.gs.bytes 6 gs;
      sets = sets_writable d input t.sets is.sets (ended_apart d (flat_map set_tree_segments t.sets) (option_to_list t.ge) h.1).0;
    }

groups_writable : (d : Delims) (input : List ℕ) (groups : List GroupTree) → AllByRecursion (IsGroup d) groups → are_ended d (flat_map group_tree_segments groups) ≡ true → AllByRecursion (IsWritableGroup d) (map (group_meant d input) groups)
groups_writable d input [] are ended = tt
groups_writable d input (t ∷ groups) are ended =
    let h = ended_apart d (group_tree_segments t) (flat_map group_tree_segments groups) ended in
    (group_writable d input t are.0 h.0, groups_writable d input groups are.1 h.1)

tree_writable : (d : Delims) (input : List ℕ) (t : InterchangeTree) → HoldsTree d input t → AllByRecursion (IsWritableGroup d) (interchange_meant d input t).groups
tree_writable d input t holds =
    let groups = flat_map group_tree_segments t.groups in
    let all = sym (ap (are_ended d) holds.segments) ∙ segments_ended d 106 (drop 106 input) in
    let tree = (ended_apart d (interchange_tree_segments t) (holds.last ∷ []) all).0 in
    let behind = (ended_apart d t.tas (groups ++ t.iea ∷ []) tree).1 in
    groups_writable d input t.groups holds.tree.groups (ended_apart d groups (t.iea ∷ []) behind).0

pub outline_writable : OutlineIsWritable
outline_writable d bytes x read =
    let found = trees_alone d bytes x read in
    subst (λ (y : Interchange). AllByRecursion (IsWritableGroup d) y.groups) (sym found.2) (tree_writable d bytes found.0 found.1)
