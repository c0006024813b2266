-- Each tree that bytes hold is read.
use Rattle.std.proofs.Common.{◌≡◌, ℕ, ◌+◌, ◌<◌, ◌≤◌, true, false, Option, None, Some, IfSome, Ok, List, [], ◌∷◌, ◌++◌, length, map, flat_map, drop, option_map, refl, sym, ap, ap₂, ◌∙◌, arith, append-nil, inl, inr, ◌⊎◌}
use Rattle.std.specs.List.{AllByRecursion}
use Rattle.std.specs.Option.{option_to_list}
use Rattle.std.proofs.lemmas.Bool.{lt-leb}
use Rattle.std.proofs.lemmas.List.{append_assoc, length-append}
use Rattle.std.proofs.lemmas.List.Sums.{sum_by-cons}
use Rattle.x12_envelopes.specs.declared.delimiters.Delims.{Delims}
use Rattle.x12_envelopes.specs.declared.content.Kind.{Kind}
use Rattle.x12_envelopes.specs.declared.content.Kind.TheVariants.{Ta1 as Ta1Kind, Gs, St, Data, Se, Ge, Iea}
use Rattle.x12_envelopes.specs.declared.content.Level.{Level}
use Rattle.x12_envelopes.specs.declared.content.Level.TheVariants.{Front, Between, InGroup, InSet}
use Rattle.x12_envelopes.specs.Segment.{PlacedSegment, segments_from}
use Rattle.x12_envelopes.specs.Shape.{TransactionSet, FunctionalGroup, Interchange}
use Rattle.x12_envelopes.specs.Content.{kind_of_segment, segment_is_gs, segment_is_st, set_trailer_of, group_trailer_of}
use Rattle.x12_envelopes.specs.Outline.{offset_behind, SetRest, set_rest, transaction_set_of, GroupRest, group_rest, functional_group_of, with_sets, with_group, with_ta1, interchange_of, outline_of, kind_is_misplaced, segment_is_unreadable, fault_of_segment, first_fault, is_kind}
use Rattle.x12_envelopes.specs.Grammar.{SetTree, GroupTree, InterchangeTree, set_tail, set_tree_segments, group_tail, group_tree_segments, IsSegment, IsTa1, IsSet, IsGroup, sets_in, place_behind, bytes_of, set_meant, group_meant, interchange_meant, HoldsTree}
use Rattle.x12_envelopes.proofs.FirstFaultLemmas.{goes_on, closes}
use Rattle.x12_envelopes.proofs.SetLemmas.{with_parts, rest_data, rest_se, rest_other, same_fault}
use Rattle.x12_envelopes.proofs.GroupLemmas.{skip_set, rest_st, rest_ge, rest_end}
use Rattle.x12_envelopes.proofs.OutlineLemmas.{skip_group, rest_ta1, rest_gs, rest_iea}
use Rattle.x12_envelopes.proofs.KindLemmas.{gs_stands, iea_stands}

-- a segment that may stand there and can be read has no fault
pub sound_from : (d : Delims) (level : Level) (g n : ℕ) (s : PlacedSegment) (k : Kind) → IsSegment d k s → kind_is_misplaced level k ≡ false → segment_is_unreadable d g n k s.bytes ≡ false → fault_of_segment d level g n s ≡ None
unfolding fault_of_segment
sound_from d level g n s k is placed readable = rw (is.plain, is.is, placed, readable)

-- the segment that stands first ends a transaction set that has no SE
pub record EndsSet (d : Delims) (ss : List PlacedSegment) : Type 0 where
  pub first : PlacedSegment
  pub more : List PlacedSegment
  pub are : ss ≡ first ∷ more
  pub kind : Kind
  pub is : kind_of_segment d first.bytes ≡ kind
  pub data' : is_kind Data kind ≡ false
  pub se' : is_kind Se kind ≡ false
  pub same : kind_is_misplaced InSet kind ≡ kind_is_misplaced InGroup kind

some_of : (d : Delims) (ss : List PlacedSegment) → EndsSet d ss → 0 < length ss
some_of d ss ends = omega (arith, ap length ends.are)

-- faults of a transaction set
body_goes_on : (d : Delims) (g n : ℕ) (body ss : List PlacedSegment) → 0 < length ss → AllByRecursion (IsSegment d Data) body → first_fault d InSet g n (body ++ ss) ≡ first_fault d InSet g n ss
body_goes_on d g n [] ss some are = refl
body_goes_on d g n (s ∷ body) ss some are =
    goes_on d InSet g n s (body ++ ss) (omega (arith, length-append body ss)) (sound_from d InSet g n s Data are.0 refl refl) Data are.0.is refl
    ∙ body_goes_on d g n body ss some are.1

end_goes_on : (d : Delims) (g n : ℕ) (se : Option PlacedSegment) (ss : List PlacedSegment) → EndsSet d ss → IfSome se (IsSegment d Se) → first_fault d InSet g n (option_to_list se ++ ss) ≡ first_fault d InGroup g n ss
end_goes_on d g n None ss ends is =
    ap (first_fault d InSet g n) ends.are ∙ same_fault d InSet InGroup g n ends.first ends.more (rw (ends.is) ends.same) ∙ sym (ap (first_fault d InGroup g n) ends.are)
end_goes_on d g n (Some s) ss ends is =
    goes_on d InSet g n s ss (some_of d ss ends) (sound_from d InSet g n s Se is refl refl) Se is.is refl

st_reads : (d : Delims) (g n : ℕ) (part : List ℕ) → segment_is_st d part ≡ true → n < 400 → segment_is_unreadable d g n St part ≡ false
st_reads d g n part readable few = rw (readable, lt-leb 400 n few)

gs_reads : (d : Delims) (g n : ℕ) (part : List ℕ) → segment_is_gs d part ≡ true → g < 32 → segment_is_unreadable d g n Gs part ≡ false
gs_reads d g n part readable few = rw (readable, lt-leb 32 g few)

set_goes_on : (d : Delims) (g n : ℕ) (t : SetTree) (ss : List PlacedSegment) → EndsSet d ss → IsSet d t → n < 400 → first_fault d InGroup g n (set_tree_segments t ++ ss) ≡ first_fault d InGroup g (n + 1) ss
set_goes_on d g n t ss ends is few =
    let some = some_of d ss ends in
    let long : 0 < length (set_tail t ++ ss) = omega (arith, length-append (set_tail t) ss) in
    goes_on d InGroup g n t.st (set_tail t ++ ss) long (sound_from d InGroup g n t.st St is.st refl (st_reads d g n t.st.bytes is.readable few)) St is.st.is refl
    ∙ ap (first_fault d InSet g (n + 1)) (append_assoc t.body (option_to_list t.se) ss)
    ∙ body_goes_on d g (n + 1) t.body (option_to_list t.se ++ ss) (omega (arith, length-append (option_to_list t.se) ss)) is.body
    ∙ end_goes_on d g (n + 1) t.se ss ends is.se

-- behind a set stand the next sets, and then what ends the group
sets_end : (d : Delims) (sets : List SetTree) (ss : List PlacedSegment) → EndsSet d ss → AllByRecursion (IsSet d) sets → EndsSet d (flat_map set_tree_segments sets ++ ss)
sets_end d [] ss ends are = ends
sets_end d (t ∷ sets) ss ends are = record {
  first = t.st;
  more = set_tail t ++ flat_map set_tree_segments sets ++ ss;
  are = refl;
  kind = St;
  is = are.0.st.is;
  data' = refl;
  se' = refl;
  same = refl;
}

sets_go_on : (d : Delims) (g n : ℕ) (sets : List SetTree) (ss : List PlacedSegment) → EndsSet d ss → AllByRecursion (IsSet d) sets → n + length sets ≤ 400 → first_fault d InGroup g n (flat_map set_tree_segments sets ++ ss) ≡ first_fault d InGroup g (n + length sets) ss
sets_go_on d g n [] ss ends are few = ap (λ (x : ℕ). first_fault d InGroup g x ss) (omega arith)
sets_go_on d g n (t ∷ sets) ss ends are few =
    ap (first_fault d InGroup g n) (append_assoc (set_tree_segments t) (flat_map set_tree_segments sets) ss)
    ∙ set_goes_on d g n t (flat_map set_tree_segments sets ++ ss) (sets_end d sets ss ends are.1) are.0 (omega arith)
    ∙ sets_go_on d g (n + 1) sets ss ends are.1 (omega arith)
    ∙ ap (λ (x : ℕ). first_fault d InGroup g x ss) (omega arith)

-- what a transaction set's segments make up
body_rest : (d : Delims) (place : ℕ) (body ss : List PlacedSegment) → AllByRecursion (IsSegment d Data) body → set_rest d place (body ++ ss) ≡ with_parts (map bytes_of body) (set_rest d (place_behind place body) ss)
body_rest d place [] ss are = refl
body_rest d place (s ∷ body) ss are =
    rest_data d place s (body ++ ss) are.0.is ∙ ap (λ (r : SetRest). record r { parts = s.bytes ∷ r.parts }) (body_rest d (offset_behind s) body ss are.1)

end_rest : (d : Delims) (place : ℕ) (se : Option PlacedSegment) (ss : List PlacedSegment) → EndsSet d ss → IfSome se (IsSegment d Se) → set_rest d place (option_to_list se ++ ss) ≡ record { parts = map bytes_of (option_to_list se); place = place_behind place (option_to_list se); trailer = option_map bytes_of se; rest = ss }
end_rest d place None ss ends is =
    ap (set_rest d place) ends.are ∙ rest_other d place ends.first ends.more ends.kind ends.is ends.data' ends.se' ∙ ap (λ (l : List PlacedSegment). record { parts = []; place = place; trailer = None; rest = l }) (sym ends.are)
end_rest d place (Some s) ss ends is = rest_se d place s ss is.is

place_behind-append : (place : ℕ) (xs ys : List PlacedSegment) → place_behind place (xs ++ ys) ≡ place_behind (place_behind place xs) ys
place_behind-append place [] ys = refl
place_behind-append place (x ∷ xs) ys = place_behind-append (offset_behind x) xs ys

map-append : (xs ys : List PlacedSegment) → map bytes_of (xs ++ ys) ≡ map bytes_of xs ++ map bytes_of ys
map-append [] ys = refl
map-append (x ∷ xs) ys = ap (λ l. x.bytes ∷ l) (map-append xs ys)

tail_rest : (d : Delims) (t : SetTree) (ss : List PlacedSegment) → EndsSet d ss → IsSet d t → set_rest d (offset_behind t.st) (set_tail t ++ ss) ≡ record { parts = map bytes_of (set_tail t); place = place_behind (offset_behind t.st) (set_tail t); trailer = option_map bytes_of t.se; rest = ss }
tail_rest d t ss ends is =
    let place = place_behind (offset_behind t.st) t.body in
    ap (set_rest d (offset_behind t.st)) (append_assoc t.body (option_to_list t.se) ss)
    ∙ body_rest d (offset_behind t.st) t.body (option_to_list t.se ++ ss) is.body
    ∙ ap (with_parts (map bytes_of t.body)) (end_rest d place t.se ss ends is.se)
    ∙ ap₂ (λ (l : List (List ℕ)) (p : ℕ). record { parts = l; place = p; trailer = option_map bytes_of t.se; rest = ss }) (sym (map-append t.body (option_to_list t.se))) (sym (place_behind-append (offset_behind t.st) t.body (option_to_list t.se)))

trailer_same : (d : Delims) (se : Option PlacedSegment) → option_map (set_trailer_of d) (option_map bytes_of se) ≡ option_map (λ (s : PlacedSegment). set_trailer_of d s.bytes) se
trailer_same d None = refl
trailer_same d (Some s) = refl

group_trailer_same : (d : Delims) (ge : Option PlacedSegment) → option_map (group_trailer_of d) (option_map bytes_of ge) ≡ option_map (λ (s : PlacedSegment). group_trailer_of d s.bytes) ge
group_trailer_same d None = refl
group_trailer_same d (Some s) = refl

set_says : (d : Delims) (input : List ℕ) (t : SetTree) (ss : List PlacedSegment) → EndsSet d ss → IsSet d t → transaction_set_of d input t.st (set_rest d (offset_behind t.st) (set_tail t ++ ss)) ≡ set_meant d input t
unfolding transaction_set_of
set_says d input t ss ends is = rw (tail_rest d t ss ends is) (rw (trailer_same d t.se))

one_tree : (d : Delims) (input : List ℕ) (t : SetTree) (ss : List PlacedSegment) → EndsSet d ss → IsSet d t → group_rest d input (set_tree_segments t ++ ss) ≡ with_sets (set_meant d input t ∷ []) (group_rest d input ss)
one_tree d input t ss ends is =
    let rest : (set_rest d (offset_behind t.st) (set_tail t ++ ss)).rest ≡ ss = ap (λ (r : SetRest). r.rest) (tail_rest d t ss ends is) in
    rest_st d input t.st (set_tail t ++ ss) is.st.is
    ∙ ap₂ (λ (x : TransactionSet) (r : GroupRest). with_sets (x ∷ []) r) (set_says d input t ss ends is) (skip_set d input (offset_behind t.st) (set_tail t ++ ss) ∙ ap (group_rest d input) rest)

sets_rest : (d : Delims) (input : List ℕ) (sets : List SetTree) (ss : List PlacedSegment) → EndsSet d ss → AllByRecursion (IsSet d) sets → group_rest d input (flat_map set_tree_segments sets ++ ss) ≡ with_sets (map (set_meant d input) sets) (group_rest d input ss)
sets_rest d input [] ss ends are = refl
sets_rest d input (t ∷ sets) ss ends are =
    ap (group_rest d input) (append_assoc (set_tree_segments t) (flat_map set_tree_segments sets) ss)
    ∙ one_tree d input t (flat_map set_tree_segments sets ++ ss) (sets_end d sets ss ends are.1) are.0
    ∙ ap (with_sets (set_meant d input t ∷ [])) (sets_rest d input sets ss ends are.1)

-- the segment that stands first ends a functional group: GS or IEA
pub record EndsGroup (d : Delims) (ss : List PlacedSegment) : Type 0 where
  pub first : PlacedSegment
  pub more : List PlacedSegment
  pub are : ss ≡ first ∷ more
  pub kind : Kind
  pub is : kind_of_segment d first.bytes ≡ kind
  pub head : (kind ≡ Gs) ⊎ (kind ≡ Iea)

ends_set : (d : Delims) (ss : List PlacedSegment) → EndsGroup d ss → EndsSet d ss
ends_set d ss ends = elim ends.head [
  | inl gs ↦ record { first = ends.first; more = ends.more; are = ends.are; kind = Gs; is = ends.is ∙ gs; data' = refl; se' = refl; same = refl }
  | inr iea ↦ record { first = ends.first; more = ends.more; are = ends.are; kind = Iea; is = ends.is ∙ iea; data' = refl; se' = refl; same = refl }
]

-- behind the sets of a group stands GE, or what ends the group
ge_ends : (d : Delims) (ge : Option PlacedSegment) (ss : List PlacedSegment) → EndsGroup d ss → IfSome ge (IsSegment d Ge) → EndsSet d (option_to_list ge ++ ss)
ge_ends d None ss ends is = ends_set d ss ends
ge_ends d (Some s) ss ends is = record { first = s; more = ss; are = refl; kind = Ge; is = is.is; data' = refl; se' = refl; same = refl }

group_level : (d : Delims) (g n : ℕ) (ss : List PlacedSegment) → EndsGroup d ss → first_fault d InGroup g n ss ≡ first_fault d Between g n ss
group_level d g n ss ends =
    let same : kind_is_misplaced InGroup (kind_of_segment d ends.first.bytes) ≡ kind_is_misplaced Between (kind_of_segment d ends.first.bytes) =
    elim ends.head [ inl gs ↦ rw (ends.is, gs) | inr iea ↦ rw (ends.is, iea) ] in
    ap (first_fault d InGroup g n) ends.are ∙ same_fault d InGroup Between g n ends.first ends.more same ∙ sym (ap (first_fault d Between g n) ends.are)

some_more : (d : Delims) (ss : List PlacedSegment) → EndsGroup d ss → 0 < length ss
some_more d ss ends = omega (arith, ap length ends.are)

ge_goes_on : (d : Delims) (g n : ℕ) (ge : Option PlacedSegment) (ss : List PlacedSegment) → EndsGroup d ss → IfSome ge (IsSegment d Ge) → first_fault d InGroup g n (option_to_list ge ++ ss) ≡ first_fault d Between g n ss
ge_goes_on d g n None ss ends is = group_level d g n ss ends
ge_goes_on d g n (Some s) ss ends is =
    goes_on d InGroup g n s ss (some_more d ss ends) (sound_from d InGroup g n s Ge is refl refl) Ge is.is refl

group_goes_on : (d : Delims) (level : Level) (g n : ℕ) (t : GroupTree) (ss : List PlacedSegment) → EndsGroup d ss → IsGroup d t → g < 32 → n + length t.sets ≤ 400 → first_fault d level g n (group_tree_segments t ++ ss) ≡ first_fault d Between (g + 1) (n + length t.sets) ss
group_goes_on d level g n t ss ends is few_groups few_sets =
    let some = some_more d ss ends in
    goes_on d level g n t.gs (group_tail t ++ ss) (omega (arith, length-append (group_tail t) ss)) (sound_from d level g n t.gs Gs is.gs (gs_stands level) (gs_reads d g n t.gs.bytes is.readable few_groups)) Gs is.gs.is refl
    ∙ ap (first_fault d InGroup (g + 1) n) (append_assoc (flat_map set_tree_segments t.sets) (option_to_list t.ge) ss)
    ∙ sets_go_on d (g + 1) n t.sets (option_to_list t.ge ++ ss) (ge_ends d t.ge ss ends is.ge) is.sets few_sets
    ∙ ge_goes_on d (g + 1) (n + length t.sets) t.ge ss ends is.ge

-- behind a group stand the next groups, and then IEA
groups_end : (d : Delims) (groups : List GroupTree) (iea : PlacedSegment) (ss : List PlacedSegment) → IsSegment d Iea iea → AllByRecursion (IsGroup d) groups → EndsGroup d (flat_map group_tree_segments groups ++ iea ∷ ss)
groups_end d [] iea ss is are = record { first = iea; more = ss; are = refl; kind = Iea; is = is.is; head = inr refl }
groups_end d (t ∷ groups) iea ss is are = record {
  first = t.gs;
  more = group_tail t ++ flat_map group_tree_segments groups ++ iea ∷ ss;
  are = refl;
  kind = Gs;
  is = are.0.gs.is;
  head = inl refl;
}

groups_sound : (d : Delims) (level : Level) (g n : ℕ) (groups : List GroupTree) (iea last : PlacedSegment) → IsSegment d Iea iea → length last.bytes ≡ 0 → AllByRecursion (IsGroup d) groups → g + length groups ≤ 32 → n + sets_in groups ≤ 400 → first_fault d level g n (flat_map group_tree_segments groups ++ iea ∷ last ∷ []) ≡ None
groups_sound d level g n [] iea last is nothing are few_groups few_sets =
    closes d level g n iea (last ∷ []) (omega arith) (sound_from d level g n iea Iea is (iea_stands level) refl) is.is ∙ rw nothing
groups_sound d level g n (t ∷ groups) iea last is nothing are few_groups few_sets =
    let split = sum_by-cons (λ (x : GroupTree). length x.sets) t groups in
    ap (first_fault d level g n) (append_assoc (group_tree_segments t) (flat_map group_tree_segments groups) (iea ∷ last ∷ []))
    ∙ group_goes_on d level g n t (flat_map group_tree_segments groups ++ iea ∷ last ∷ []) (groups_end d groups iea (last ∷ []) is are.1) are.0 (omega arith) (omega (arith, split))
    ∙ groups_sound d Between (g + 1) (n + length t.sets) groups iea last is nothing are.1 (omega arith) (omega (arith, split))

tas_go_on : (d : Delims) (tas ss : List PlacedSegment) → 0 < length ss → AllByRecursion (IsTa1 d) tas → first_fault d Front 0 0 (tas ++ ss) ≡ first_fault d Front 0 0 ss
tas_go_on d [] ss some are = refl
tas_go_on d (s ∷ tas) ss some are =
    goes_on d Front 0 0 s (tas ++ ss) (omega (arith, length-append tas ss)) (sound_from d Front 0 0 s Ta1Kind are.0.segment refl (rw are.0.readable)) Ta1Kind are.0.segment.is refl
    ∙ tas_go_on d tas ss some are.1

-- what a group's segments make up
ge_rest : (d : Delims) (input : List ℕ) (ge : Option PlacedSegment) (ss : List PlacedSegment) → EndsGroup d ss → IfSome ge (IsSegment d Ge) → group_rest d input (option_to_list ge ++ ss) ≡ record { sets = []; trailer = option_map bytes_of ge; rest = ss }
ge_rest d input None ss ends is =
    let at : group_rest d input (ends.first ∷ ends.more) ≡ record { sets = []; trailer = None; rest = ends.first ∷ ends.more } =
    elim ends.head [ inl gs ↦ rest_end d input ends.first ends.more Gs (ends.is ∙ gs) refl refl refl | inr iea ↦ rest_end d input ends.first ends.more Iea (ends.is ∙ iea) refl refl refl ] in
    ap (group_rest d input) ends.are ∙ at ∙ ap (λ (l : List PlacedSegment). record { sets = []; trailer = None; rest = l }) (sym ends.are)
ge_rest d input (Some s) ss ends is = rest_ge d input s ss is.is

group_tail_rest : (d : Delims) (input : List ℕ) (t : GroupTree) (ss : List PlacedSegment) → EndsGroup d ss → IsGroup d t → group_rest d input (group_tail t ++ ss) ≡ record { sets = map (set_meant d input) t.sets; trailer = option_map bytes_of t.ge; rest = ss }
group_tail_rest d input t ss ends is =
    ap (group_rest d input) (append_assoc (flat_map set_tree_segments t.sets) (option_to_list t.ge) ss)
    ∙ sets_rest d input t.sets (option_to_list t.ge ++ ss) (ge_ends d t.ge ss ends is.ge) is.sets
    ∙ ap (with_sets (map (set_meant d input) t.sets)) (ge_rest d input t.ge ss ends is.ge)
    ∙ ap (λ (l : List TransactionSet). record { sets = l; trailer = option_map bytes_of t.ge; rest = ss }) (append-nil (map (set_meant d input) t.sets))

group_says : (d : Delims) (input : List ℕ) (t : GroupTree) (ss : List PlacedSegment) → EndsGroup d ss → IsGroup d t → functional_group_of d t.gs (group_rest d input (group_tail t ++ ss)) ≡ group_meant d input t
unfolding functional_group_of
group_says d input t ss ends is = rw (group_tail_rest d input t ss ends is) (rw (group_trailer_same d t.ge))

one_group_tree : (d : Delims) (input : List ℕ) (t : GroupTree) (ss : List PlacedSegment) → EndsGroup d ss → IsGroup d t → interchange_of d input (group_tree_segments t ++ ss) ≡ with_group (group_meant d input t) (interchange_of d input ss)
one_group_tree d input t ss ends is =
    let rest : (group_rest d input (group_tail t ++ ss)).rest ≡ ss = ap (λ (r : GroupRest). r.rest) (group_tail_rest d input t ss ends is) in
    rest_gs d input t.gs (group_tail t ++ ss) is.gs.is
    ∙ ap₂ (λ (x : FunctionalGroup) (y : Interchange). with_group x y) (group_says d input t ss ends is) (skip_group d input (group_tail t ++ ss) ∙ ap (interchange_of d input) rest)

groups_rest : (d : Delims) (input : List ℕ) (groups : List GroupTree) (iea : PlacedSegment) (ss : List PlacedSegment) → IsSegment d Iea iea → AllByRecursion (IsGroup d) groups → interchange_of d input (flat_map group_tree_segments groups ++ iea ∷ ss) ≡ interchange_meant d input (record { tas = []; groups = groups; iea = iea })
groups_rest d input [] iea ss is are = rest_iea d input iea ss is.is
groups_rest d input (t ∷ groups) iea ss is are =
    ap (interchange_of d input) (append_assoc (group_tree_segments t) (flat_map group_tree_segments groups) (iea ∷ ss))
    ∙ one_group_tree d input t (flat_map group_tree_segments groups ++ iea ∷ ss) (groups_end d groups iea ss is are.1) are.0
    ∙ ap (with_group (group_meant d input t)) (groups_rest d input groups iea ss is are.1)

tas_rest : (d : Delims) (input : List ℕ) (tas : List PlacedSegment) (groups : List GroupTree) (iea : PlacedSegment) (ss : List PlacedSegment) → AllByRecursion (IsTa1 d) tas → interchange_of d input ss ≡ interchange_meant d input (record { tas = []; groups = groups; iea = iea }) → interchange_of d input (tas ++ ss) ≡ interchange_meant d input (record { tas = tas; groups = groups; iea = iea })
tas_rest d input [] groups iea ss are is = is
tas_rest d input (s ∷ tas) groups iea ss are is =
    rest_ta1 d input s (tas ++ ss) are.0.segment.is ∙ ap (with_ta1 s.bytes d) (tas_rest d input tas groups iea ss are.1 is)

pub each_tree : (d : Delims) (input : List ℕ) (t : InterchangeTree) → HoldsTree d input t → outline_of d input ≡ Ok (interchange_meant d input t)
unfolding outline_of
each_tree d input t holds =
    let ends = t.iea ∷ holds.last ∷ [] in
    let groups = flat_map group_tree_segments t.groups ++ ends in
    let segments : segments_from d 106 (drop 106 input) ≡ t.tas ++ groups =
    holds.segments ∙ append_assoc t.tas (flat_map group_tree_segments t.groups ++ t.iea ∷ []) (holds.last ∷ []) ∙ ap (λ l. t.tas ++ l) (append_assoc (flat_map group_tree_segments t.groups) (t.iea ∷ []) (holds.last ∷ [])) in
    let sound : first_fault d Front 0 0 (segments_from d 106 (drop 106 input)) ≡ None =
    ap (first_fault d Front 0 0) segments
    ∙ tas_go_on d t.tas groups (omega (arith, length-append (flat_map group_tree_segments t.groups) ends)) holds.tree.tas
    ∙ groups_sound d Front 0 0 t.groups t.iea holds.last holds.tree.iea holds.nothing holds.tree.groups (omega (arith, holds.tree.few_groups)) (omega (arith, holds.tree.few_sets)) in
    let says : interchange_of d input (segments_from d 106 (drop 106 input)) ≡ interchange_meant d input t =
    ap (interchange_of d input) segments ∙ tas_rest d input t.tas t.groups t.iea groups holds.tree.tas (groups_rest d input t.groups t.iea (holds.last ∷ []) holds.tree.iea holds.tree.groups) in
    rw sound (ap Ok says)
