-- Where an outline is read, the bytes hold a tree.
use Rattle.std.proofs.Common.{◌≡◌, ℕ, ◌+◌, ◌<◌, ◌≤◌, Bool, true, false, cond, Option, None, Some, IfSome, Result, Ok, List, [], ◌∷◌, ◌++◌, length, flat_map, drop, option_map, refl, sym, ap, subst, ◌∙◌, arith}
use Rattle.std.specs.List.{AllByRecursion}
use Rattle.std.specs.Option.{option_to_list, option_or}
use Rattle.std.proofs.lemmas.Bool.{eqb-true}
use Rattle.std.proofs.lemmas.List.{append_assoc}
use Rattle.std.proofs.lemmas.List.Sums.{sum_by-cons}
use Rattle.x12_envelopes.specs.Row.{ok_unless}
use Rattle.x12_envelopes.specs.declared.delimiters.Delims.{Delims}
use Rattle.x12_envelopes.specs.declared.content.Kind.{Kind}
use Rattle.x12_envelopes.specs.declared.content.Kind.TheVariants.{Empty, Isa, Ta1 as Ta1Kind, Gs, St, Data, Se, Ge, Iea}
use Rattle.x12_envelopes.specs.declared.content.Level.{Level}
use Rattle.x12_envelopes.specs.declared.content.Level.TheVariants.{Front, Between, InGroup, InSet}
use Rattle.x12_envelopes.specs.declared.shape.OutlineFault.{OutlineFault}
use Rattle.x12_envelopes.specs.declared.shape.OutlineFault.TheVariants.{Premature}
use Rattle.x12_envelopes.specs.Segment.{PlacedSegment, segments_from}
use Rattle.x12_envelopes.specs.Shape.{Interchange}
use Rattle.x12_envelopes.specs.Content.{kind_of_segment, segment_is_gs, segment_is_st}
use Rattle.x12_envelopes.specs.Outline.{control_fault, outline_of, kind_is_misplaced, level_behind, groups_behind, sets_behind, fault_of_segment, first_fault, fault_behind_trailer, is_kind}
use Rattle.x12_envelopes.specs.Grammar.{SetTree, GroupTree, InterchangeTree, set_tree_segments, group_tree_segments, IsSegment, IsTa1, IsSet, IsGroup, sets_in, interchange_meant, HoldsTree}
use Rattle.x12_envelopes.proofs.SegmentLemmas.{segments_more}
use Rattle.x12_envelopes.proofs.GroupLemmas.{sound_parts, sound_st, sound_gs}
use Rattle.x12_envelopes.proofs.OutlineLemmas.{sound_ta1}
use Rattle.x12_envelopes.proofs.TreeLemmas.{each_tree}

-- outside groups: groups, and IEA
record OpenBetween (d : Delims) (g n : ℕ) (ss : List PlacedSegment) : Type 0 where
  groups : List GroupTree
  iea : PlacedSegment
  last : PlacedSegment
  are : ss ≡ flat_map group_tree_segments groups ++ iea ∷ last ∷ []
  valid : AllByRecursion (IsGroup d) groups
  ends : IsSegment d Iea iea
  nothing : length last.bytes ≡ 0
  few_groups : g + length groups ≤ 32
  few_sets : n + sets_in groups ≤ 400

-- in a group: transaction sets, GE if it was sent, and what stands behind the group
record OpenGroup (d : Delims) (g n : ℕ) (ss : List PlacedSegment) : Type 0 where
  sets : List SetTree
  ge : Option PlacedSegment
  after : List PlacedSegment
  are : ss ≡ flat_map set_tree_segments sets ++ (option_to_list ge ++ after)
  valid : AllByRecursion (IsSet d) sets
  ends : IfSome ge (IsSegment d Ge)
  next : OpenBetween d g (n + length sets) after

-- in a transaction set: data, SE if it was sent, and what stands behind the set
record OpenSet (d : Delims) (g n : ℕ) (ss : List PlacedSegment) : Type 0 where
  body : List PlacedSegment
  se : Option PlacedSegment
  after : List PlacedSegment
  are : ss ≡ body ++ (option_to_list se ++ after)
  valid : AllByRecursion (IsSegment d Data) body
  ends : IfSome se (IsSegment d Se)
  next : OpenGroup d g n after

-- in front: TA1s, and what stands behind them
record OpenFront (d : Delims) (g n : ℕ) (ss : List PlacedSegment) : Type 0 where
  tas : List PlacedSegment
  after : List PlacedSegment
  are : ss ≡ tas ++ after
  valid : AllByRecursion (IsTa1 d) tas
  next : OpenBetween d g n after

abbrev Open : Delims → Level → ℕ → ℕ → List PlacedSegment → Type 0
Open d Front g n ss = OpenFront d g n ss
Open d Between g n ss = OpenBetween d g n ss
Open d InGroup g n ss = OpenGroup d g n ss
Open d InSet g n ss = OpenSet d g n ss

-- nothing more of the inner part
front_of : (d : Delims) (g n : ℕ) (ss : List PlacedSegment) → OpenBetween d g n ss → OpenFront d g n ss
front_of d g n ss open' = record { tas = []; after = ss; are = refl; valid = tt; next = open' }

group_of_none : (d : Delims) (g n : ℕ) (ss : List PlacedSegment) → OpenBetween d g n ss → OpenGroup d g n ss
group_of_none d g n ss open' =
    let same : n ≡ n + 0 = omega arith in
    record { sets = []; ge = None; after = ss; are = refl; valid = tt; ends = tt; next = subst (λ (m : ℕ). OpenBetween d g m ss) same open' }

set_of_none : (d : Delims) (g n : ℕ) (ss : List PlacedSegment) → OpenGroup d g n ss → OpenSet d g n ss
set_of_none d g n ss open' = record { body = []; se = None; after = ss; are = refl; valid = tt; ends = tt; next = open' }

-- one segment in front
one_data : (d : Delims) (g n : ℕ) (s : PlacedSegment) (ss : List PlacedSegment) → IsSegment d Data s → OpenSet d g n ss → OpenSet d g n (s ∷ ss)
one_data d g n s ss is o = record { body = s ∷ o.body; se = o.se; after = o.after; are = ap (λ l. s ∷ l) o.are; valid = (is, o.valid); ends = o.ends; next = o.next }

one_se : (d : Delims) (g n : ℕ) (s : PlacedSegment) (ss : List PlacedSegment) → IsSegment d Se s → OpenGroup d g n ss → OpenSet d g n (s ∷ ss)
one_se d g n s ss is o = record { body = []; se = Some s; after = ss; are = refl; valid = tt; ends = is; next = o }

one_st : (d : Delims) (g n : ℕ) (s : PlacedSegment) (ss : List PlacedSegment) → IsSegment d St s → segment_is_st d s.bytes ≡ true → OpenSet d g (n + 1) ss → OpenGroup d g n (s ∷ ss)
one_st d g n s ss is readable o =
    let t : SetTree = record { st = s; body = o.body; se = o.se } in
    let count : n + 1 + length o.next.sets ≡ n + length (t ∷ o.next.sets) = omega arith in
    record {
      sets = t ∷ o.next.sets;
      ge = o.next.ge;
      after = o.next.after;
      are = ap (λ l. s ∷ l) (o.are ∙ sym (append_assoc o.body (option_to_list o.se) o.after) ∙ ap (λ l. (o.body ++ option_to_list o.se) ++ l) o.next.are) ∙ sym (append_assoc (set_tree_segments t) (flat_map set_tree_segments o.next.sets) (option_to_list o.next.ge ++ o.next.after));
      valid = (record { st = is; readable = readable; body = o.valid; se = o.ends }, o.next.valid);
      ends = o.next.ends;
      next = subst (λ (m : ℕ). OpenBetween d g m o.next.after) count o.next.next;
    }

one_ge : (d : Delims) (g n : ℕ) (s : PlacedSegment) (ss : List PlacedSegment) → IsSegment d Ge s → OpenBetween d g n ss → OpenGroup d g n (s ∷ ss)
one_ge d g n s ss is o =
    let same : n ≡ n + 0 = omega arith in
    record { sets = []; ge = Some s; after = ss; are = refl; valid = tt; ends = is; next = subst (λ (m : ℕ). OpenBetween d g m ss) same o }

one_gs : (d : Delims) (g n : ℕ) (s : PlacedSegment) (ss : List PlacedSegment) → IsSegment d Gs s → segment_is_gs d s.bytes ≡ true → OpenGroup d (g + 1) n ss → OpenBetween d g n (s ∷ ss)
one_gs d g n s ss is readable o =
    let t : GroupTree = record { gs = s; sets = o.sets; ge = o.ge } in
    let split = sum_by-cons (λ (x : GroupTree). length x.sets) t o.next.groups in
    let front = flat_map set_tree_segments o.sets in
    record {
      groups = t ∷ o.next.groups;
      iea = o.next.iea;
      last = o.next.last;
      are = ap (λ l. s ∷ l) (o.are ∙ sym (append_assoc front (option_to_list o.ge) o.after) ∙ ap (λ l. (front ++ option_to_list o.ge) ++ l) o.next.are) ∙ sym (append_assoc (group_tree_segments t) (flat_map group_tree_segments o.next.groups) (o.next.iea ∷ o.next.last ∷ []));
      valid = (record { gs = is; readable = readable; sets = o.valid; ge = o.ends }, o.next.valid);
      ends = o.next.ends;
      nothing = o.next.nothing;
      few_groups = omega (arith, o.next.few_groups);
      few_sets = omega (arith, split, o.next.few_sets);
    }

zero_of : (b : Bool) (fault : OutlineFault) → cond b None (Some fault) ≡ None → b ≡ true
zero_of true fault h = refl
zero_of false fault h = cc

one_iea : (d : Delims) (g n : ℕ) (s : PlacedSegment) (ss : List PlacedSegment) → IsSegment d Iea s → g ≤ 32 → n ≤ 400 → 0 < length ss → fault_behind_trailer ss ≡ None → OpenBetween d g n (s ∷ ss)
one_iea d g n s [] is low few some none = absurd (omega arith)
one_iea d g n s (last ∷ []) is low few some none = record {
  groups = [];
  iea = s;
  last = last;
  are = refl;
  valid = tt;
  ends = is;
  nothing = eqb-true (length last.bytes) 0 (zero_of _ _ none);
  few_groups = omega arith;
  few_sets = omega arith;
}
one_iea d g n s (last ∷ more ∷ rest) is low few some none = cc

one_ta1 : (d : Delims) (g n : ℕ) (s : PlacedSegment) (ss : List PlacedSegment) → IsTa1 d s → OpenFront d g n ss → OpenFront d g n (s ∷ ss)
one_ta1 d g n s ss is o = record { tas = s ∷ o.tas; after = o.after; are = ap (λ l. s ∷ l) o.are; valid = (is, o.valid); next = o.next }

-- the same at each level where the segment may stand
at_between : (d : Delims) (level : Level) (g n : ℕ) (ss : List PlacedSegment) → OpenBetween d g n ss → Open d level g n ss
at_between d Front g n ss o = front_of d g n ss o
at_between d Between g n ss o = o
at_between d InGroup g n ss o = group_of_none d g n ss o
at_between d InSet g n ss o = set_of_none d g n ss (group_of_none d g n ss o)

at_group : (d : Delims) (level : Level) (g n : ℕ) (ss : List PlacedSegment) → kind_is_misplaced level St ≡ false → OpenGroup d g n ss → Open d level g n ss
at_group d Front g n ss placed o = cc
at_group d Between g n ss placed o = cc
at_group d InGroup g n ss placed o = o
at_group d InSet g n ss placed o = set_of_none d g n ss o

at_group_end : (d : Delims) (level : Level) (g n : ℕ) (ss : List PlacedSegment) → kind_is_misplaced level Ge ≡ false → OpenGroup d g n ss → Open d level g n ss
at_group_end d Front g n ss placed o = cc
at_group_end d Between g n ss placed o = cc
at_group_end d InGroup g n ss placed o = o
at_group_end d InSet g n ss placed o = set_of_none d g n ss o

at_set : (d : Delims) (level : Level) (g n : ℕ) (ss : List PlacedSegment) → kind_is_misplaced level Data ≡ false → OpenSet d g n ss → Open d level g n ss
at_set d Front g n ss placed o = cc
at_set d Between g n ss placed o = cc
at_set d InGroup g n ss placed o = cc
at_set d InSet g n ss placed o = o

at_set_end : (d : Delims) (level : Level) (g n : ℕ) (ss : List PlacedSegment) → kind_is_misplaced level Se ≡ false → OpenSet d g n ss → Open d level g n ss
at_set_end d Front g n ss placed o = cc
at_set_end d Between g n ss placed o = cc
at_set_end d InGroup g n ss placed o = cc
at_set_end d InSet g n ss placed o = o

at_front : (d : Delims) (level : Level) (g n : ℕ) (ss : List PlacedSegment) → kind_is_misplaced level Ta1Kind ≡ false → OpenFront d g n ss → Open d level g n ss
at_front d Front g n ss placed o = o
at_front d Between g n ss placed o = cc
at_front d InGroup g n ss placed o = cc
at_front d InSet g n ss placed o = cc

-- a segment without a fault has no control byte
first_none : (o p : Option OutlineFault) → option_or o p ≡ None → o ≡ None
first_none None p h = refl
first_none (Some fault) p h = cc

second_none : (o p : Option OutlineFault) → option_or o p ≡ None → p ≡ None
second_none None p h = h
second_none (Some fault) p h = cc

place_none : (f : ℕ → OutlineFault) (o : Option ℕ) → option_map f o ≡ None → o ≡ None
place_none f None h = refl
place_none f (Some k) h = cc

segment_is : (d : Delims) (level : Level) (g n : ℕ) (s : PlacedSegment) (k : Kind) → fault_of_segment d level g n s ≡ None → kind_of_segment d s.bytes ≡ k → IsSegment d k s
unfolding fault_of_segment
segment_is d level g n s k none is = record { is = is; plain = place_none _ _ (first_none _ _ none) }

-- one segment more, whatever its kind
step : (d : Delims) (level : Level) (g n : ℕ) (s : PlacedSegment) (ss : List PlacedSegment) (k : Kind) → kind_of_segment d s.bytes ≡ k → fault_of_segment d level g n s ≡ None → 0 < length ss → g ≤ 32 → n ≤ 400 → cond (is_kind Iea k) (fault_behind_trailer ss) (first_fault d (level_behind k) (groups_behind g k) (sets_behind n k) ss) ≡ None → (groups_behind g k ≤ 32 → sets_behind n k ≤ 400 → first_fault d (level_behind k) (groups_behind g k) (sets_behind n k) ss ≡ None → Open d (level_behind k) (groups_behind g k) (sets_behind n k) ss) → Open d level g n (s ∷ ss)
step d level g n s ss Empty is sound some low few none ih = let placed = (sound_parts d level g n s Empty sound is).0 in cc placed
step d level g n s ss Isa is sound some low few none ih = let placed = (sound_parts d level g n s Isa sound is).0 in cc placed
step d level g n s ss Ta1Kind is sound some low few none ih =
    at_front d level g n (s ∷ ss) (sound_parts d level g n s Ta1Kind sound is).0 (one_ta1 d g n s ss (record { segment = segment_is d level g n s Ta1Kind sound is; readable = (sound_ta1 d level g n s sound is).0 }) (ih low few none))
step d level g n s ss Gs is sound some low few none ih =
    let read = sound_gs d level g n s sound is in
    at_between d level g n (s ∷ ss) (one_gs d g n s ss (segment_is d level g n s Gs sound is) read.0 (ih (omega (arith, read.1)) few none))
step d level g n s ss St is sound some low few none ih =
    let read = sound_st d level g n s sound is in
    at_group d level g n (s ∷ ss) (sound_parts d level g n s St sound is).0 (one_st d g n s ss (segment_is d level g n s St sound is) read.0 (ih low (omega (arith, read.1)) none))
step d level g n s ss Data is sound some low few none ih =
    at_set d level g n (s ∷ ss) (sound_parts d level g n s Data sound is).0 (one_data d g n s ss (segment_is d level g n s Data sound is) (ih low few none))
step d level g n s ss Se is sound some low few none ih =
    at_set_end d level g n (s ∷ ss) (sound_parts d level g n s Se sound is).0 (one_se d g n s ss (segment_is d level g n s Se sound is) (ih low few none))
step d level g n s ss Ge is sound some low few none ih =
    at_group_end d level g n (s ∷ ss) (sound_parts d level g n s Ge sound is).0 (one_ge d g n s ss (segment_is d level g n s Ge sound is) (ih low few none))
step d level g n s ss Iea is sound some low few none ih =
    at_between d level g n (s ∷ ss) (one_iea d g n s ss (segment_is d level g n s Iea sound is) low few some none)

found : (d : Delims) (ss : List PlacedSegment) (level : Level) (g n : ℕ) → 0 < length ss → g ≤ 32 → n ≤ 400 → first_fault d level g n ss ≡ None → Open d level g n ss
unfolding first_fault
found d [] level g n some low few none = absurd (omega arith)
found d (s ∷ []) level g n some low few none =
    let short = second_none (control_fault d s) (Some (Premature (s.at + length s.bytes))) none in cc short
found d (s ∷ next ∷ more) level g n some low few none =
    step d level g n s (next ∷ more) (kind_of_segment d s.bytes) refl (first_none _ _ none) (omega arith) low few (second_none _ _ none) (λ a b h. found d (next ∷ more) (level_behind (kind_of_segment d s.bytes)) (groups_behind g (kind_of_segment d s.bytes)) (sets_behind n (kind_of_segment d s.bytes)) (omega arith) a b h)

ok_none : (o : Option OutlineFault) (x y : Interchange) → ok_unless o x ≡ Ok y → o ≡ None
ok_none None x y h = refl
ok_none (Some fault) x y h = cc

ok_same : (x y : Interchange) (r : Result Interchange OutlineFault) → r ≡ Ok x → r ≡ Ok y → x ≡ y
ok_same x y r a b = cc

pub trees_alone : (d : Delims) (input : List ℕ) (x : Interchange) → outline_of d input ≡ Ok x → (t : InterchangeTree) × HoldsTree d input t × (x ≡ interchange_meant d input t)
unfolding outline_of
trees_alone d input x is =
    let ss = segments_from d 106 (drop 106 input) in
    let none = ok_none _ _ x is in
    let o : OpenFront d 0 0 ss = found d ss Front 0 0 (segments_more d 106 (drop 106 input)) (omega arith) (omega arith) none in
    let t : InterchangeTree = record { tas = o.tas; groups = o.next.groups; iea = o.next.iea } in
    let front = flat_map group_tree_segments o.next.groups in
    let holds : HoldsTree d input t = record {
      tree = record { tas = o.valid; groups = o.next.valid; iea = o.next.ends; few_groups = omega (arith, o.next.few_groups); few_sets = omega (arith, o.next.few_sets) };
      last = o.next.last;
      segments = o.are ∙ ap (λ l. o.tas ++ l) (o.next.are ∙ sym (append_assoc front (o.next.iea ∷ []) (o.next.last ∷ []))) ∙ sym (append_assoc o.tas (front ++ o.next.iea ∷ []) (o.next.last ∷ []));
      nothing = o.next.nothing;
    } in
    (t, holds, ok_same x (interchange_meant d input t) _ is (each_tree d input t holds))
