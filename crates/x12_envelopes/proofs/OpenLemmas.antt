-- Segments of which each may stand where it stands begin an interchange.
use Rattle.std.proofs.Common.{◌≡◌, ℕ, ◌+◌, false, Option, None, Some, IfSome, List, [], ◌∷◌, ◌++◌, length, flat_map, refl, sym, ap, subst, ◌∙◌, arith}
use Rattle.std.specs.List.{AllByRecursion}
use Rattle.std.specs.Option.{option_to_list}
use Rattle.std.proofs.lemmas.List.{append_assoc}
use Rattle.std.proofs.lemmas.List.Sums.{sum_by-cons}
use Rattle.x12_envelopes.specs.declared.delimiters.Delims.{Delims}
use Rattle.x12_envelopes.specs.declared.content.Kind.{Kind}
use Rattle.x12_envelopes.specs.declared.content.Kind.TheVariants.{Empty, Isa, Ta1 as Ta1Kind, Gs, St, Data, Se, Ge, Iea}
use Rattle.x12_envelopes.specs.declared.content.Level.{Level}
use Rattle.x12_envelopes.specs.declared.content.Level.TheVariants.{Front, Between, InGroup, InSet}
use Rattle.x12_envelopes.specs.Segment.{PlacedSegment}
use Rattle.x12_envelopes.specs.Content.{kind_of_segment}
use Rattle.x12_envelopes.specs.Outline.{kind_is_misplaced, level_behind, groups_behind, sets_behind, is_kind}
use Rattle.x12_envelopes.specs.Grammar.{SetTree, GroupTree, set_tree_segments, group_tree_segments, IsSegment, sets_in}

-- where the next segment stands behind some, and how many groups and sets they opened
abbrev pub level_after : Delims → Level → List PlacedSegment → Level
level_after d level [] = level
level_after d level (s ∷ ss) = level_after d (level_behind (kind_of_segment d s.bytes)) ss

abbrev pub groups_after : Delims → ℕ → List PlacedSegment → ℕ
groups_after d g [] = g
groups_after d g (s ∷ ss) = groups_after d (groups_behind g (kind_of_segment d s.bytes)) ss

abbrev pub sets_after : Delims → ℕ → List PlacedSegment → ℕ
sets_after d n [] = n
sets_after d n (s ∷ ss) = sets_after d (sets_behind n (kind_of_segment d s.bytes)) ss

-- a segment may stand there: it has no control byte, isn't IEA, and its header can be read
pub record Passes (d : Delims) (Read : PlacedSegment → Type 0) (level : Level) (s : PlacedSegment) : Type 0 where
  pub is : IsSegment d (kind_of_segment d s.bytes) s
  pub placed : kind_is_misplaced level (kind_of_segment d s.bytes) ≡ false
  pub read : Read s
  pub open' : is_kind Iea (kind_of_segment d s.bytes) ≡ false

abbrev pub AllPass : Delims → (PlacedSegment → Type 0) → Level → List PlacedSegment → Type 0
AllPass d Read level [] = Unit {0}
AllPass d Read level (s ∷ ss) = Passes d Read level s × AllPass d Read (level_behind (kind_of_segment d s.bytes)) ss

-- what TA1s, sets and groups are, made of their segments; and how many groups and sets there are in all
module _ (d : Delims) (Read : PlacedSegment → Type 0) (IsFrontTa1 : PlacedSegment → Type 0) (IsOneSet : SetTree → Type 0) (IsOneGroup : GroupTree → Type 0)
    (ta1 : (s : PlacedSegment) → IsSegment d Ta1Kind s → Read s → IsFrontTa1 s)
    (set : (t : SetTree) → IsSegment d St t.st → Read t.st → AllByRecursion (IsSegment d Data) t.body → IfSome t.se (IsSegment d Se) → IsOneSet t)
    (group : (t : GroupTree) → IsSegment d Gs t.gs → Read t.gs → AllByRecursion IsOneSet t.sets → IfSome t.ge (IsSegment d Ge) → IsOneGroup t)
    (G N : ℕ) where
  -- outside groups: groups
  record OpenBetween (g n : ℕ) (ss : List PlacedSegment) : Type 0 where
    groups : List GroupTree
    are : ss ≡ flat_map group_tree_segments groups
    valid : AllByRecursion IsOneGroup groups
    all_groups : g + length groups ≡ G
    all_sets : n + sets_in groups ≡ N

  -- in a group: transaction sets, GE if it was sent, and what stands behind the group
  record OpenGroup (g n : ℕ) (ss : List PlacedSegment) : Type 0 where
    sets : List SetTree
    ge : Option PlacedSegment
    after : List PlacedSegment
    are : ss ≡ flat_map set_tree_segments sets ++ (option_to_list ge ++ after)
    valid : AllByRecursion IsOneSet sets
    ends : IfSome ge (IsSegment d Ge)
    next : OpenBetween g (n + length sets) after

  -- in a transaction set: data, SE if it was sent, and what stands behind the set
  record OpenSet (g n : ℕ) (ss : List PlacedSegment) : Type 0 where
    body : List PlacedSegment
    se : Option PlacedSegment
    after : List PlacedSegment
    are : ss ≡ body ++ (option_to_list se ++ after)
    valid : AllByRecursion (IsSegment d Data) body
    ends : IfSome se (IsSegment d Se)
    next : OpenGroup g n after

  -- in front: TA1s, and what stands behind them
  record OpenFront (g n : ℕ) (ss : List PlacedSegment) : Type 0 where
    tas : List PlacedSegment
    after : List PlacedSegment
    are : ss ≡ tas ++ after
    valid : AllByRecursion IsFrontTa1 tas
    next : OpenBetween g n after

  abbrev Open : Level → ℕ → ℕ → List PlacedSegment → Type 0
  Open Front g n ss = OpenFront g n ss
  Open Between g n ss = OpenBetween g n ss
  Open InGroup g n ss = OpenGroup g n ss
  Open InSet g n ss = OpenSet g n ss

  -- nothing more of the inner part
  front_of : (g n : ℕ) (ss : List PlacedSegment) → OpenBetween g n ss → OpenFront g n ss
  front_of g n ss open' = record { tas = []; after = ss; are = refl; valid = tt; next = open' }

  group_of_none : (g n : ℕ) (ss : List PlacedSegment) → OpenBetween g n ss → OpenGroup g n ss
  group_of_none g n ss open' =
      let same : n ≡ n + 0 = omega arith in
      record { sets = []; ge = None; after = ss; are = refl; valid = tt; ends = tt; next = subst (λ (m : ℕ). OpenBetween g m ss) same open' }

  set_of_none : (g n : ℕ) (ss : List PlacedSegment) → OpenGroup g n ss → OpenSet g n ss
  set_of_none g n ss open' = record { body = []; se = None; after = ss; are = refl; valid = tt; ends = tt; next = open' }

  -- one segment in front
  one_data : (g n : ℕ) (s : PlacedSegment) (ss : List PlacedSegment) → IsSegment d Data s → OpenSet g n ss → OpenSet g n (s ∷ ss)
  one_data g n s ss is o = record { body = s ∷ o.body; se = o.se; after = o.after; are = ap (λ l. s ∷ l) o.are; valid = (is, o.valid); ends = o.ends; next = o.next }

  one_se : (g n : ℕ) (s : PlacedSegment) (ss : List PlacedSegment) → IsSegment d Se s → OpenGroup g n ss → OpenSet g n (s ∷ ss)
  one_se g n s ss is o = record { body = []; se = Some s; after = ss; are = refl; valid = tt; ends = is; next = o }

  one_st : (g n : ℕ) (s : PlacedSegment) (ss : List PlacedSegment) → IsSegment d St s → Read s → OpenSet g (n + 1) ss → OpenGroup g n (s ∷ ss)
  one_st g n s ss is read o =
      let t : SetTree = record { st = s; body = o.body; se = o.se } in
      let count : n + 1 + length o.next.sets ≡ n + length (t ∷ o.next.sets) = omega arith in
      record {
        sets = t ∷ o.next.sets;
        ge = o.next.ge;
        after = o.next.after;
        are = ap (λ l. s ∷ l) (o.are ∙ sym (append_assoc o.body (option_to_list o.se) o.after) ∙ ap (λ l. (o.body ++ option_to_list o.se) ++ l) o.next.are) ∙ sym (append_assoc (set_tree_segments t) (flat_map set_tree_segments o.next.sets) (option_to_list o.next.ge ++ o.next.after));
        valid = (set t is read o.valid o.ends, o.next.valid);
        ends = o.next.ends;
        next = subst (λ (m : ℕ). OpenBetween g m o.next.after) count o.next.next;
      }

  one_ge : (g n : ℕ) (s : PlacedSegment) (ss : List PlacedSegment) → IsSegment d Ge s → OpenBetween g n ss → OpenGroup g n (s ∷ ss)
  one_ge g n s ss is o =
      let same : n ≡ n + 0 = omega arith in
      record { sets = []; ge = Some s; after = ss; are = refl; valid = tt; ends = is; next = subst (λ (m : ℕ). OpenBetween g m ss) same o }

  one_gs : (g n : ℕ) (s : PlacedSegment) (ss : List PlacedSegment) → IsSegment d Gs s → Read s → OpenGroup (g + 1) n ss → OpenBetween g n (s ∷ ss)
  one_gs g n s ss is read o =
      let t : GroupTree = record { gs = s; sets = o.sets; ge = o.ge } in
      let split = sum_by-cons (λ (x : GroupTree). length x.sets) t o.next.groups in
      let front = flat_map set_tree_segments o.sets in
      record {
        groups = t ∷ o.next.groups;
        are = ap (λ l. s ∷ l) (o.are ∙ sym (append_assoc front (option_to_list o.ge) o.after) ∙ ap (λ l. (front ++ option_to_list o.ge) ++ l) o.next.are);
        valid = (group t is read o.valid o.ends, o.next.valid);
        all_groups = omega (arith, o.next.all_groups);
        all_sets = omega (arith, split, o.next.all_sets);
      }

  one_ta1 : (g n : ℕ) (s : PlacedSegment) (ss : List PlacedSegment) → IsSegment d Ta1Kind s → Read s → OpenFront g n ss → OpenFront g n (s ∷ ss)
  one_ta1 g n s ss is read o = record { tas = s ∷ o.tas; after = o.after; are = ap (λ l. s ∷ l) o.are; valid = (ta1 s is read, o.valid); next = o.next }

  -- the same at each level where the segment may stand
  at_between : (level : Level) (g n : ℕ) (ss : List PlacedSegment) → OpenBetween g n ss → Open level g n ss
  at_between Front g n ss o = front_of g n ss o
  at_between Between g n ss o = o
  at_between InGroup g n ss o = group_of_none g n ss o
  at_between InSet g n ss o = set_of_none g n ss (group_of_none g n ss o)

  at_group : (level : Level) (g n : ℕ) (ss : List PlacedSegment) → kind_is_misplaced level St ≡ false → OpenGroup g n ss → Open level g n ss
  at_group Front g n ss placed o = cc
  at_group Between g n ss placed o = cc
  at_group InGroup g n ss placed o = o
  at_group InSet g n ss placed o = set_of_none g n ss o

  at_group_end : (level : Level) (g n : ℕ) (ss : List PlacedSegment) → kind_is_misplaced level Ge ≡ false → OpenGroup g n ss → Open level g n ss
  at_group_end Front g n ss placed o = cc
  at_group_end Between g n ss placed o = cc
  at_group_end InGroup g n ss placed o = o
  at_group_end InSet g n ss placed o = set_of_none g n ss o

  at_set : (level : Level) (g n : ℕ) (ss : List PlacedSegment) → kind_is_misplaced level Data ≡ false → OpenSet g n ss → Open level g n ss
  at_set Front g n ss placed o = cc
  at_set Between g n ss placed o = cc
  at_set InGroup g n ss placed o = cc
  at_set InSet g n ss placed o = o

  at_set_end : (level : Level) (g n : ℕ) (ss : List PlacedSegment) → kind_is_misplaced level Se ≡ false → OpenSet g n ss → Open level g n ss
  at_set_end Front g n ss placed o = cc
  at_set_end Between g n ss placed o = cc
  at_set_end InGroup g n ss placed o = cc
  at_set_end InSet g n ss placed o = o

  at_front : (level : Level) (g n : ℕ) (ss : List PlacedSegment) → kind_is_misplaced level Ta1Kind ≡ false → OpenFront g n ss → Open level g n ss
  at_front Front g n ss placed o = o
  at_front Between g n ss placed o = cc
  at_front InGroup g n ss placed o = cc
  at_front InSet g n ss placed o = cc

  -- nothing at all
  nothing : (level : Level) (g n : ℕ) → g ≡ G → n ≡ N → Open level g n []
  nothing level g n all_g all_n = at_between level g n [] (record { groups = []; are = refl; valid = tt; all_groups = omega (arith, all_g); all_sets = omega (arith, all_n) })

  of_kind : (s : PlacedSegment) (k : Kind) → kind_of_segment d s.bytes ≡ k → IsSegment d (kind_of_segment d s.bytes) s → IsSegment d k s
  of_kind s k is seg = subst (λ (x : Kind). IsSegment d x s) is seg

  -- one segment more, whatever its kind
  step : (level : Level) (g n : ℕ) (s : PlacedSegment) (ss : List PlacedSegment) (k : Kind) → IsSegment d k s → kind_is_misplaced level k ≡ false → Read s → is_kind Iea k ≡ false
      → Open (level_behind k) (groups_behind g k) (sets_behind n k) ss → Open level g n (s ∷ ss)
  step level g n s ss Empty is placed read open' o = cc
  step level g n s ss Isa is placed read open' o = cc
  step level g n s ss Ta1Kind is placed read open' o = at_front level g n (s ∷ ss) placed (one_ta1 g n s ss is read o)
  step level g n s ss Gs is placed read open' o = at_between level g n (s ∷ ss) (one_gs g n s ss is read o)
  step level g n s ss St is placed read open' o = at_group level g n (s ∷ ss) placed (one_st g n s ss is read o)
  step level g n s ss Data is placed read open' o = at_set level g n (s ∷ ss) placed (one_data g n s ss is o)
  step level g n s ss Se is placed read open' o = at_set_end level g n (s ∷ ss) placed (one_se g n s ss is o)
  step level g n s ss Ge is placed read open' o = at_group_end level g n (s ∷ ss) placed (one_ge g n s ss is o)
  step level g n s ss Iea is placed read open' o = cc

  opens : (ss : List PlacedSegment) (level : Level) (g n : ℕ) → AllPass d Read level ss → groups_after d g ss ≡ G → sets_after d n ss ≡ N → Open level g n ss
  opens [] level g n all all_g all_n = nothing level g n all_g all_n
  opens (s ∷ ss) level g n all all_g all_n =
      step level g n s ss (kind_of_segment d s.bytes) all.0.is all.0.placed all.0.read all.0.open'
      (opens ss (level_behind (kind_of_segment d s.bytes)) (groups_behind g (kind_of_segment d s.bytes)) (sets_behind n (kind_of_segment d s.bytes)) all.1 all_g all_n)

  -- the trees that segments are
  pub record FrontTree (ss : List PlacedSegment) : Type 0 where
    pub tas : List PlacedSegment
    pub groups : List GroupTree
    pub are : ss ≡ tas ++ flat_map group_tree_segments groups
    pub valid_tas : AllByRecursion IsFrontTa1 tas
    pub valid_groups : AllByRecursion IsOneGroup groups
    pub all_groups : length groups ≡ G
    pub all_sets : sets_in groups ≡ N

  pub tree_of : (ss : List PlacedSegment) → AllPass d Read Front ss → groups_after d 0 ss ≡ G → sets_after d 0 ss ≡ N → FrontTree ss
  tree_of ss all all_g all_n =
      let o : OpenFront 0 0 ss = opens ss Front 0 0 all all_g all_n in
      record {
        tas = o.tas;
        groups = o.next.groups;
        are = o.are ∙ ap (λ l. o.tas ++ l) o.next.are;
        valid_tas = o.valid;
        valid_groups = o.next.valid;
        all_groups = omega (arith, o.next.all_groups);
        all_sets = omega (arith, o.next.all_sets);
      }
