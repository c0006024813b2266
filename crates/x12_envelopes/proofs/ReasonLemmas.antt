-- Each fault of reading has its reason in the grammar.
use Rattle.std.proofs.Common.{◌≡◌, ◌≢◌, ℕ, ◌+◌, ◌≤◌, Bool, true, false, not, ◌||◌, nat_le, Option, None, Some, IfSome, Err, List, [], ◌∷◌, ◌++◌, length, flat_map, drop, option_map, position, if◌then◌else◌, ◌==◌, refl, sym, ap, subst, ◌∙◌, arith, inl, inr, ◌⊎◌}
use Rattle.std.specs.List.{AllByRecursion, slice_split, prefix_len, join_with_byte}
use Rattle.std.specs.Option.{option_or}
use Rattle.std.proofs.lemmas.Bool.Decides.{nat_tests}
use Rattle.std.proofs.lemmas.List.{append_assoc, length-append, length-drop}
use Rattle.std.proofs.lemmas.List.Sums.{prefix_len-le-length}
use Rattle.std.proofs.lemmas.List.Splits.{join_with_byte-slice_split}
use Rattle.x12_envelopes.specs.Row.{ok_unless, first_of_rows}
use Rattle.x12_envelopes.specs.Byte.{byte_is_line_end}
use Rattle.x12_envelopes.specs.Delimiters.{is_control}
use Rattle.x12_envelopes.specs.declared.delimiters.Delims.{Delims}
use Rattle.x12_envelopes.specs.declared.content.Kind.{Kind}
use Rattle.x12_envelopes.specs.declared.content.Kind.TheVariants.{Empty, Isa, Ta1 as Ta1Kind, Gs, St, Data, Se, Ge, Iea}
use Rattle.x12_envelopes.specs.declared.content.Level.{Level}
use Rattle.x12_envelopes.specs.declared.content.Level.TheVariants.{Front}
use Rattle.x12_envelopes.specs.declared.shape.OutlineFault.{OutlineFault}
use Rattle.x12_envelopes.specs.declared.shape.OutlineFault.TheVariants.{Structure, Premature, Content}
use Rattle.x12_envelopes.specs.Segment.{PlacedSegment, place_pieces, segments_from, behind_line_ends}
use Rattle.x12_envelopes.specs.Shape.{Interchange}
use Rattle.x12_envelopes.specs.Content.{kind_of_segment, segment_is_ta1, segment_is_gs, segment_is_st}
use Rattle.x12_envelopes.specs.Outline.{control_fault, outline_of, interchange_of, kind_is_misplaced, segment_is_unreadable, level_behind, groups_behind, sets_behind, fault_of_segment, first_fault, fault_behind_trailer, is_kind}
use Rattle.x12_envelopes.specs.Grammar.{SetTree, GroupTree, group_tree_segments, IsSegment, IsTa1, IsSet, IsGroup, sets_in}
use Rattle.x12_envelopes.specs.FirstFault.{BeginsInterchange, HasFormOfSet, HasFormOfGroup, HasFormOfFront, AreInterchange, HeaderIsUnreadable, HeaderIsOneTooMany, IsWhy, IsFaultOf}
use Rattle.x12_envelopes.proofs.OpenLemmas.{level_after, groups_after, sets_after, Passes, AllPass, FrontTree, tree_of}
use Rattle.x12_envelopes.proofs.StandLemmas.{no_bool, no_form}
use Rattle.x12_envelopes.proofs.KindLemmas.{kind_is, iea_stands}

-- Where reading stops.

-- the header of a segment can be read, if it is one
abbrev CanBeRead : Delims → PlacedSegment → Type 0
CanBeRead d s = segment_is_unreadable d 0 0 (kind_of_segment d s.bytes) s.bytes ≡ false

-- the segment at which reading stops at a level, behind so many groups and sets, and why
data Stop (d : Delims) (level : Level) (g n : ℕ) (s : PlacedSegment) (behind : List PlacedSegment) (fault : OutlineFault) : Type 0 where
  by_control : (k : ℕ) → position (is_control d) s.bytes ≡ Some k → fault ≡ Structure (s.at + k) → Stop d level g n s behind fault
  by_place : position (is_control d) s.bytes ≡ None → behind ≢ [] → kind_is_misplaced level (kind_of_segment d s.bytes) ≡ true → fault ≡ Structure s.at → Stop d level g n s behind fault
  by_content : position (is_control d) s.bytes ≡ None → behind ≢ [] → kind_is_misplaced level (kind_of_segment d s.bytes) ≡ false → segment_is_unreadable d g n (kind_of_segment d s.bytes) s.bytes ≡ true → fault ≡ Content s.at → Stop d level g n s behind fault
  by_end : position (is_control d) s.bytes ≡ None → behind ≡ [] → fault ≡ Premature (s.at + length s.bytes) → Stop d level g n s behind fault
  by_rest : IsSegment d Iea s → fault_behind_trailer behind ≡ Some fault → Stop d level g n s behind fault

record Stops (d : Delims) (level : Level) (g n : ℕ) (ss : List PlacedSegment) (fault : OutlineFault) : Type 0 where
  front : List PlacedSegment
  s : PlacedSegment
  behind : List PlacedSegment
  are : ss ≡ front ++ s ∷ behind
  passed : AllPass d (CanBeRead d) level front
  few_groups : groups_after d g front ≤ 32
  few_sets : sets_after d n front ≤ 400
  stop : Stop d (level_after d level front) (groups_after d g front) (sets_after d n front) s behind fault

-- one segment more in front
one_more : (d : Delims) (level : Level) (g n : ℕ) (x : PlacedSegment) (ss : List PlacedSegment) (fault : OutlineFault) → Passes d (CanBeRead d) level x
    → Stops d (level_behind (kind_of_segment d x.bytes)) (groups_behind g (kind_of_segment d x.bytes)) (sets_behind n (kind_of_segment d x.bytes)) ss fault → Stops d level g n (x ∷ ss) fault
one_more d level g n x ss fault passes rest = record {
  front = x ∷ rest.front;
  s = rest.s;
  behind = rest.behind;
  are = ap (λ l. x ∷ l) rest.are;
  passed = (passes, rest.passed);
  few_groups = rest.few_groups;
  few_sets = rest.few_sets;
  stop = rest.stop;
}

-- it stops at the first one
at_once : (d : Delims) (level : Level) (g n : ℕ) (s : PlacedSegment) (behind : List PlacedSegment) (fault : OutlineFault) → g ≤ 32 → n ≤ 400 → Stop d level g n s behind fault → Stops d level g n (s ∷ behind) fault
at_once d level g n s behind fault low few stop = record { front = []; s = s; behind = behind; are = refl; passed = tt; few_groups = low; few_sets = few; stop = stop }

same_fault_of : {f e : OutlineFault} → Some f ≡ Some e → e ≡ f
same_fault_of same = cc

-- by what a segment's own fault comes
segment_stops : (d : Delims) (level : Level) (g n : ℕ) (s : PlacedSegment) (behind : List PlacedSegment) (fault : OutlineFault) → behind ≢ [] → fault_of_segment d level g n s ≡ Some fault → Stop d level g n s behind fault
unfolding fault_of_segment
segment_stops d level g n s behind fault ended is = by (position (is_control d) s.bytes) refl (kind_is_misplaced level (kind_of_segment d s.bytes)) refl (segment_is_unreadable d g n (kind_of_segment d s.bytes) s.bytes) refl is
  where
    by : (o : Option ℕ) → position (is_control d) s.bytes ≡ o → (m : Bool) → kind_is_misplaced level (kind_of_segment d s.bytes) ≡ m → (u : Bool) → segment_is_unreadable d g n (kind_of_segment d s.bytes) s.bytes ≡ u
        → option_or (option_map (λ k. Structure (s.at + k)) o) (first_of_rows ((m, Structure s.at) ∷ (u, Content s.at) ∷ [])) ≡ Some fault → Stop d level g n s behind fault
    by (Some k) at m mis u un is = by_control k at (same_fault_of is)
    by None plain true mis u un is = by_place plain ended mis (same_fault_of is)
    by None plain false placed true un is = by_content plain ended placed un (same_fault_of is)
    by None plain false placed false un is = absurd (let no : ⊥ = cc is in no)

-- a header that can be read behind some groups and sets can be read behind none
readable_at_all : (d : Delims) (g n : ℕ) (k : Kind) (part : List ℕ) → segment_is_unreadable d g n k part ≡ false → segment_is_unreadable d 0 0 k part ≡ false
readable_at_all d g n Ta1Kind part read = read
readable_at_all d g n Gs part read = first_false (not (segment_is_gs d part)) (nat_le 32 g) read
  where
    first_false : (a b : Bool) → (a || b) ≡ false → (a || false) ≡ false
    first_false false b none = refl
    first_false true b none = none
readable_at_all d g n St part read = first_false (not (segment_is_st d part)) (nat_le 400 n) read
  where
    first_false : (a b : Bool) → (a || b) ≡ false → (a || false) ≡ false
    first_false false b none = refl
    first_false true b none = none
readable_at_all d g n Empty part read = refl
readable_at_all d g n Isa part read = refl
readable_at_all d g n Data part read = refl
readable_at_all d g n Se part read = refl
readable_at_all d g n Ge part read = refl
readable_at_all d g n Iea part read = refl

-- where a segment has no fault
record Sound (d : Delims) (level : Level) (g n : ℕ) (s : PlacedSegment) : Type 0 where
  plain : position (is_control d) s.bytes ≡ None
  placed : kind_is_misplaced level (kind_of_segment d s.bytes) ≡ false
  read : segment_is_unreadable d g n (kind_of_segment d s.bytes) s.bytes ≡ false

sound : (d : Delims) (level : Level) (g n : ℕ) (s : PlacedSegment) → fault_of_segment d level g n s ≡ None → Sound d level g n s
unfolding fault_of_segment
sound d level g n s none = by (position (is_control d) s.bytes) refl (kind_is_misplaced level (kind_of_segment d s.bytes)) refl (segment_is_unreadable d g n (kind_of_segment d s.bytes) s.bytes) refl none
  where
    by : (o : Option ℕ) → position (is_control d) s.bytes ≡ o → (m : Bool) → kind_is_misplaced level (kind_of_segment d s.bytes) ≡ m → (u : Bool) → segment_is_unreadable d g n (kind_of_segment d s.bytes) s.bytes ≡ u
        → option_or (option_map (λ k. Structure (s.at + k)) o) (first_of_rows ((m, Structure s.at) ∷ (u, Content s.at) ∷ [])) ≡ None → Sound d level g n s
    by (Some k) at m mis u un is = absurd (let no : ⊥ = cc is in no)
    by None plain true mis u un is = absurd (let no : ⊥ = cc is in no)
    by None plain false placed true un is = absurd (let no : ⊥ = cc is in no)
    by None plain false placed false un is = record { plain = plain; placed = placed; read = un }

-- behind a header that can be read there are at most so many
few_more : (d : Delims) (g n : ℕ) (k : Kind) (part : List ℕ) → segment_is_unreadable d g n k part ≡ false → g ≤ 32 → n ≤ 400 → (groups_behind g k ≤ 32) × (sets_behind n k ≤ 400)
few_more d g n Gs part read low few = (under g 32 (second_false (not (segment_is_gs d part)) (nat_le 32 g) read), few)
  where
    second_false : (a b : Bool) → (a || b) ≡ false → b ≡ false
    second_false false b none = none
    second_false true b none = absurd (let no : ⊥ = cc none in no)

    under : (m k : ℕ) → nat_le k m ≡ false → m + 1 ≤ k
    under m k below = grind (arith, nat_tests, below)
few_more d g n St part read low few = (low, under n 400 (second_false (not (segment_is_st d part)) (nat_le 400 n) read))
  where
    second_false : (a b : Bool) → (a || b) ≡ false → b ≡ false
    second_false false b none = none
    second_false true b none = absurd (let no : ⊥ = cc none in no)

    under : (m k : ℕ) → nat_le k m ≡ false → m + 1 ≤ k
    under m k below = grind (arith, nat_tests, below)
few_more d g n Ta1Kind part read low few = (low, few)
few_more d g n Empty part read low few = (low, few)
few_more d g n Isa part read low few = (low, few)
few_more d g n Data part read low few = (low, few)
few_more d g n Se part read low few = (low, few)
few_more d g n Ge part read low few = (low, few)
few_more d g n Iea part read low few = (low, few)

last_stops : (d : Delims) (level : Level) (g n : ℕ) (s : PlacedSegment) (fault : OutlineFault) → option_or (control_fault d s) (Some (Premature (s.at + length s.bytes))) ≡ Some fault → Stop d level g n s [] fault
last_stops d level g n s fault is = by (position (is_control d) s.bytes) refl is
  where
    by : (o : Option ℕ) → position (is_control d) s.bytes ≡ o → option_or (option_map (λ k. Structure (s.at + k)) o) (Some (Premature (s.at + length s.bytes))) ≡ Some fault → Stop d level g n s [] fault
    by (Some k) at is = by_control k at (same_fault_of is)
    by None plain is = by_end plain refl (same_fault_of is)

not_nil : {X : Type 0} (x : X) (xs : List X) → x ∷ xs ≢ []
not_nil x xs same = cc same

stops : (d : Delims) (ss : List PlacedSegment) (level : Level) (g n : ℕ) (fault : OutlineFault) → g ≤ 32 → n ≤ 400 → first_fault d level g n ss ≡ Some fault → Stops d level g n ss fault
unfolding first_fault
stops d [] level g n fault low few is = absurd (let no : ⊥ = cc is in no)
stops d (s ∷ []) level g n fault low few is = at_once d level g n s [] fault low few (last_stops d level g n s fault is)
stops d (s ∷ next ∷ more) level g n fault low few is =
    by (fault_of_segment d level g n s) refl (is_kind Iea (kind_of_segment d s.bytes)) refl is
    (λ a b rest. stops d (next ∷ more) (level_behind (kind_of_segment d s.bytes)) (groups_behind g (kind_of_segment d s.bytes)) (sets_behind n (kind_of_segment d s.bytes)) fault a b rest)
  where
    by : (o : Option OutlineFault) → fault_of_segment d level g n s ≡ o → (b : Bool) → is_kind Iea (kind_of_segment d s.bytes) ≡ b
        → option_or o (if b then fault_behind_trailer (next ∷ more) else first_fault d (level_behind (kind_of_segment d s.bytes)) (groups_behind g (kind_of_segment d s.bytes)) (sets_behind n (kind_of_segment d s.bytes)) (next ∷ more)) ≡ Some fault
        → (groups_behind g (kind_of_segment d s.bytes) ≤ 32 → sets_behind n (kind_of_segment d s.bytes) ≤ 400
        → first_fault d (level_behind (kind_of_segment d s.bytes)) (groups_behind g (kind_of_segment d s.bytes)) (sets_behind n (kind_of_segment d s.bytes)) (next ∷ more) ≡ Some fault
        → Stops d (level_behind (kind_of_segment d s.bytes)) (groups_behind g (kind_of_segment d s.bytes)) (sets_behind n (kind_of_segment d s.bytes)) (next ∷ more) fault)
        → Stops d level g n (s ∷ next ∷ more) fault
    by (Some f) own b trailer is ih = at_once d level g n s (next ∷ more) fault low few (segment_stops d level g n s (next ∷ more) fault (not_nil next more) (own ∙ is))
    by None none true trailer is ih =
        let it = sound d level g n s none in
        at_once d level g n s (next ∷ more) fault low few (by_rest (record { is = kind_is Iea (kind_of_segment d s.bytes) trailer; plain = it.plain }) is)
    by None none false open' is ih =
        let it = sound d level g n s none in
        let more' = few_more d g n (kind_of_segment d s.bytes) s.bytes it.read low few in
        one_more d level g n s (next ∷ more) fault
        (record { is = record { is = refl; plain = it.plain }; placed = it.placed; read = readable_at_all d g n (kind_of_segment d s.bytes) s.bytes it.read; open' = open' })
        (ih more'.0 more'.1 is)

-- The reasons.

module _ (d : Delims) where
  -- what can be read of the kinds that a header may have
  ta1_read : (s : PlacedSegment) → IsSegment d Ta1Kind s → CanBeRead d s → IsTa1 d s
  ta1_read s is read = record { segment = is; readable = unnot (segment_is_ta1 d s.bytes) (rw is.is at read) }
    where
      unnot : (b : Bool) → not b ≡ false → b ≡ true
      unnot true h = refl
      unnot false h = absurd (let no : ⊥ = cc h in no)

  unnot_first : (b : Bool) → (not b || false) ≡ false → b ≡ true
  unnot_first true h = refl
  unnot_first false h = absurd (let no : ⊥ = cc h in no)

  set_read : (t : SetTree) → IsSegment d St t.st → CanBeRead d t.st → AllByRecursion (IsSegment d Data) t.body → IfSome t.se (IsSegment d Se) → IsSet d t
  set_read t is read body se = record { st = is; readable = unnot_first (segment_is_st d t.st.bytes) (rw is.is at read); body = body; se = se }

  group_read : (t : GroupTree) → IsSegment d Gs t.gs → CanBeRead d t.gs → AllByRecursion (IsSet d) t.sets → IfSome t.ge (IsSegment d Ge) → IsGroup d t
  group_read t is read sets ge = record { gs = is; readable = unnot_first (segment_is_gs d t.gs.bytes) (rw is.is at read); sets = sets; ge = ge }

  -- the trees of segments that pass
  abbrev ReadTree : List PlacedSegment → Type 0
  ReadTree ss = FrontTree d (CanBeRead d) (IsTa1 d) (IsSet d) (IsGroup d) ta1_read set_read group_read (groups_after d 0 ss) (sets_after d 0 ss) ss

  read_tree : (ss : List PlacedSegment) → AllPass d (CanBeRead d) Front ss → ReadTree ss
  read_tree ss all = tree_of d (CanBeRead d) (IsTa1 d) (IsSet d) (IsGroup d) ta1_read set_read group_read (groups_after d 0 ss) (sets_after d 0 ss) ss all refl refl

  begins_of : (ss : List PlacedSegment) → groups_after d 0 ss ≤ 32 → sets_after d 0 ss ≤ 400 → ReadTree ss → BeginsInterchange d ss
  begins_of ss few_groups few_sets t = record {
    tas = t.tas;
    groups = t.groups;
    are = t.are;
    read_tas = t.valid_tas;
    read_groups = t.valid_groups;
    few_groups = omega (arith, t.all_groups, few_groups);
    few_sets = omega (arith, t.all_sets, few_sets);
  }

  -- the form of segments that may stand where they stand
  abbrev Any : PlacedSegment → Type 0
  Any s = Unit {0}

  set_form : (t : SetTree) → IsSegment d St t.st → Any t.st → AllByRecursion (IsSegment d Data) t.body → IfSome t.se (IsSegment d Se) → HasFormOfSet d t
  set_form t is any body se = record { st = is; body = body; se = se }

  group_form : (t : GroupTree) → IsSegment d Gs t.gs → Any t.gs → AllByRecursion (HasFormOfSet d) t.sets → IfSome t.ge (IsSegment d Ge) → HasFormOfGroup d t
  group_form t is any sets ge = record { gs = is; sets = sets; ge = ge }

  form_of : (ss : List PlacedSegment) → AllPass d Any Front ss → HasFormOfFront d ss
  form_of ss all =
      let t = tree_of d Any (IsSegment d Ta1Kind) (HasFormOfSet d) (HasFormOfGroup d) (λ s is any. is) set_form group_form (groups_after d 0 ss) (sets_after d 0 ss) ss all refl refl in
      record { tas = t.tas; groups = t.groups; are = t.are; form_of_tas = t.valid_tas; form_of_groups = t.valid_groups }

  one_further : (ss : List PlacedSegment) (s : PlacedSegment) (level : Level) → AllPass d (CanBeRead d) level ss → Passes d Any (level_after d level ss) s → AllPass d Any level (ss ++ s ∷ [])
  one_further [] s level all last = (last, tt)
  one_further (x ∷ ss) s level all last =
      (record { is = all.0.is; placed = all.0.placed; read = tt; open' = all.0.open' }, one_further ss s (level_behind (kind_of_segment d x.bytes)) all.1 last)

  -- a header that can't be read behind so many groups and sets
  bad_header : (s : PlacedSegment) (g n : ℕ) (groups : List GroupTree) (k : Kind) → kind_of_segment d s.bytes ≡ k → length groups ≡ g → sets_in groups ≡ n → g ≤ 32 → n ≤ 400
      → segment_is_unreadable d g n k s.bytes ≡ true → (is_kind Iea k ≡ false) × (HeaderIsUnreadable d s ⊎ HeaderIsOneTooMany d groups s)
  bad_header s g n groups Ta1Kind is g_is n_is low few un = (refl, inl (inl (is, λ read. no_bool read (unnot (segment_is_ta1 d s.bytes) un))))
    where
      unnot : (b : Bool) → not b ≡ true → b ≡ false
      unnot false h = refl
      unnot true h = absurd (let no : ⊥ = cc h in no)
  bad_header s g n groups Gs is g_is n_is low few un = (refl, by (segment_is_gs d s.bytes) refl un)
    where
      all_are : (m j : ℕ) → nat_le j m ≡ true → m ≤ j → m ≡ j
      all_are m j above below = grind (arith, nat_tests, above, below)

      by : (b : Bool) → segment_is_gs d s.bytes ≡ b → (not b || nat_le 32 g) ≡ true → HeaderIsUnreadable d s ⊎ HeaderIsOneTooMany d groups s
      by false bad un = inl (inr (inl (is, λ read. no_bool read bad)))
      by true good un = inr (inl (is, g_is ∙ all_are g 32 un low))
  bad_header s g n groups St is g_is n_is low few un = (refl, by (segment_is_st d s.bytes) refl un)
    where
      all_are : (m j : ℕ) → nat_le j m ≡ true → m ≤ j → m ≡ j
      all_are m j above below = grind (arith, nat_tests, above, below)

      by : (b : Bool) → segment_is_st d s.bytes ≡ b → (not b || nat_le 400 n) ≡ true → HeaderIsUnreadable d s ⊎ HeaderIsOneTooMany d groups s
      by false bad un = inl (inr (inr (is, λ read. no_bool read bad)))
      by true good un = inr (inr (is, n_is ∙ all_are n 400 un few))
  bad_header s g n groups Empty is g_is n_is low few un = absurd (let no : ⊥ = cc un in no)
  bad_header s g n groups Isa is g_is n_is low few un = absurd (let no : ⊥ = cc un in no)
  bad_header s g n groups Data is g_is n_is low few un = absurd (let no : ⊥ = cc un in no)
  bad_header s g n groups Se is g_is n_is low few un = absurd (let no : ⊥ = cc un in no)
  bad_header s g n groups Ge is g_is n_is low few un = absurd (let no : ⊥ = cc un in no)
  bad_header s g n groups Iea is g_is n_is low few un = absurd (let no : ⊥ = cc un in no)

  -- where the last segment ends
  ends_at : (ps : List (List ℕ)) (at : ℕ) (front : List PlacedSegment) (s : PlacedSegment) → place_pieces at ps ≡ front ++ s ∷ [] → s.at + length s.bytes ≡ at + length (join_with_byte d.terminator ps)
  ends_at [] at [] s are = absurd (let no : ⊥ = cc are in no)
  ends_at [] at (x ∷ front) s are = absurd (let no : ⊥ = cc are in no)
  ends_at (p ∷ []) at [] s are = rw (← head_is are) (whole p)
    where
      head_is : {x y : PlacedSegment} {xs ys : List PlacedSegment} → x ∷ xs ≡ y ∷ ys → x ≡ y
      head_is same = cc

      whole : (p : List ℕ) → at + prefix_len byte_is_line_end p + length (behind_line_ends p) ≡ at + length p
      whole p = omega (arith, length-drop (prefix_len byte_is_line_end p) p, prefix_len-le-length byte_is_line_end p)
  ends_at (p ∷ []) at (x ∷ []) s are = absurd (let no : ⊥ = cc are in no)
  ends_at (p ∷ []) at (x ∷ y ∷ front) s are = absurd (let no : ⊥ = cc are in no)
  ends_at (p ∷ q ∷ ps) at [] s are = absurd (let no : ⊥ = cc are in no)
  ends_at (p ∷ q ∷ ps) at (x ∷ front) s are =
      let rest = ends_at (q ∷ ps) (at + length p + 1) front s (tail_is are) in
      omega (arith, rest, length-append p (d.terminator ∷ join_with_byte d.terminator (q ∷ ps)))
    where
      tail_is : {x y : PlacedSegment} {xs ys : List PlacedSegment} → x ∷ xs ≡ y ∷ ys → xs ≡ ys
      tail_is same = cc

  ends_input : (input : List ℕ) (front : List PlacedSegment) (s : PlacedSegment) → 106 ≤ length input → segments_from d 106 (drop 106 input) ≡ front ++ s ∷ [] → s.at + length s.bytes ≡ length input
  unfolding segments_from
  ends_input input front s long are =
      let end = ends_at (slice_split (λ b. b == d.terminator) (drop 106 input)) 106 front s are in
      let joined : length (join_with_byte d.terminator (slice_split (λ b. b == d.terminator) (drop 106 input))) ≡ length (drop 106 input) = ap length (join_with_byte-slice_split d.terminator (drop 106 input)) in
      omega (arith, end, joined, length-drop 106 input, long)

  never_iea : (level : Level) (k : Kind) → kind_is_misplaced level k ≡ true → k ≢ Iea
  never_iea level k misplaced is = let placed : kind_is_misplaced level Iea ≡ true = rw is at misplaced in no_bool placed (iea_stands level)

  -- segments that begin an interchange, and IEA
  whole_of : (front : List PlacedSegment) (s : PlacedSegment) → BeginsInterchange d front → IsSegment d Iea s → AreInterchange d (front ++ s ∷ [])
  whole_of front s begins iea = record {
    tree = record { tas = begins.tas; groups = begins.groups; iea = s };
    is = record { tas = begins.read_tas; groups = begins.read_groups; iea = iea; few_groups = begins.few_groups; few_sets = begins.few_sets };
    are = ap (λ l. l ++ s ∷ []) begins.are ∙ append_assoc begins.tas (flat_map group_tree_segments begins.groups) (s ∷ []);
  }

  nat_is : (a b : ℕ) → a ≡ b → (a == b) ≡ true
  nat_is a b same = grind (arith, nat_tests, same)

  -- what stands behind IEA
  behind_trailer : (input : List ℕ) (fault : OutlineFault) (front : List PlacedSegment) (s : PlacedSegment) (behind : List PlacedSegment) → segments_from d 106 (drop 106 input) ≡ front ++ s ∷ behind
      → BeginsInterchange d front → IsSegment d Iea s → fault_behind_trailer behind ≡ Some fault → IsFaultOf d input fault
  behind_trailer input fault front s [] are begins iea is = absurd (let no : ⊥ = cc is in no)
  behind_trailer input fault front s (x ∷ []) are begins iea is = by (length x.bytes == 0) refl is
    where
      by : (b : Bool) → (length x.bytes == 0) ≡ b → (if b then None else Some (Structure x.at)) ≡ Some fault → IsFaultOf d input fault
      by true none is = absurd (let no : ⊥ = cc is in no)
      by false some is = subst (IsFaultOf d input) (sym (same_fault_of is)) (record {
        front = front ++ s ∷ [];
        s = x;
        behind = [];
        segments = are ∙ sym (append_assoc front (s ∷ []) (x ∷ []));
        why = inr (inr (record { whole = whole_of front s begins iea; more = inl (λ none. no_bool (nat_is (length x.bytes) 0 none) some); place = refl }));
      })
  behind_trailer input fault front s (x ∷ y ∷ more) are begins iea is = subst (IsFaultOf d input) (sym (same_fault_of is)) (record {
    front = front ++ s ∷ [];
    s = x;
    behind = y ∷ more;
    segments = are ∙ sym (append_assoc front (s ∷ []) (x ∷ y ∷ more));
    why = inr (inr (record { whole = whole_of front s begins iea; more = inr (not_nil y more); place = refl }));
  })

  reason : (input : List ℕ) (fault : OutlineFault) → 106 ≤ length input → Stops d Front 0 0 (segments_from d 106 (drop 106 input)) fault → IsFaultOf d input fault
  unfolding begins_of read_tree
  reason input fault long st = by st.stop
    where
      tree : ReadTree st.front
      tree = read_tree st.front st.passed

      begins : BeginsInterchange d st.front
      begins = begins_of st.front st.few_groups st.few_sets tree

      told : (f : OutlineFault) → fault ≡ f → IsWhy d input st.front st.s st.behind f → IsFaultOf d input fault
      told f is why = subst (IsFaultOf d input) (sym is) (record { front = st.front; s = st.s; behind = st.behind; segments = st.are; why = why })

      by : Stop d (level_after d Front st.front) (groups_after d 0 st.front) (sets_after d 0 st.front) st.s st.behind fault → IsFaultOf d input fault
      by (by_control k at is) = told (Structure (st.s.at + k)) is (inl (record { begins = begins; byte = k; first = at; place = refl }))
      by (by_place plain ended misplaced is) = told (Structure st.s.at) is (inr (inl (record {
        begins = begins;
        plain = plain;
        ended = ended;
        no_trailer = never_iea (level_after d Front st.front) (kind_of_segment d st.s.bytes) misplaced;
        no_form = no_form d st.front st.s misplaced;
        place = refl;
      })))
      by (by_content plain ended placed un is) =
          let bad = bad_header st.s (groups_after d 0 st.front) (sets_after d 0 st.front) tree.groups (kind_of_segment d st.s.bytes) refl tree.all_groups tree.all_sets st.few_groups st.few_sets un in
          told (Content st.s.at) is (record {
            begins = begins;
            plain = plain;
            ended = ended;
            form = form_of (st.front ++ st.s ∷ []) (one_further st.front st.s Front st.passed (record { is = record { is = refl; plain = plain }; placed = placed; read = tt; open' = bad.0 }));
            header = bad.1;
            place = refl;
          })
      by (by_end plain last is) =
          let are : segments_from d 106 (drop 106 input) ≡ st.front ++ st.s ∷ [] = st.are ∙ ap (λ l. st.front ++ st.s ∷ l) last in
          told (Premature (st.s.at + length st.s.bytes)) is (record { begins = begins; plain = plain; last = last; place = ends_input input st.front st.s long are })
      by (by_rest iea is) = behind_trailer input fault st.front st.s st.behind st.are begins iea is

err_some : (o : Option OutlineFault) (x : Interchange) (f : OutlineFault) → ok_unless o x ≡ Err f → o ≡ Some f
err_some None x f is = absurd (let no : ⊥ = cc is in no)
err_some (Some g) x f is = cc

pub reasons : (d : Delims) (input : List ℕ) (fault : OutlineFault) → 106 ≤ length input → outline_of d input ≡ Err fault → IsFaultOf d input fault
unfolding outline_of
reasons d input fault long is =
    let ss = segments_from d 106 (drop 106 input) in
    reason d input fault long (stops d ss Front 0 0 fault (omega arith) (omega arith) (err_some (first_fault d Front 0 0 ss) (interchange_of d input ss) fault is))
