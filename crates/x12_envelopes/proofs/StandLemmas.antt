-- Segments that have the form of an interchange stand where they may.
use Rattle.std.proofs.Common.{◌≡◌, Bool, true, false, Option, None, Some, IfSome, List, [], ◌∷◌, ◌++◌, flat_map, refl, sym, ap, subst, ◌∙◌}
use Rattle.std.specs.List.{AllByRecursion}
use Rattle.std.specs.Option.{option_to_list}
use Rattle.x12_envelopes.specs.declared.delimiters.Delims.{Delims}
use Rattle.x12_envelopes.specs.declared.content.Kind.{Kind}
use Rattle.x12_envelopes.specs.declared.content.Kind.TheVariants.{Ta1 as Ta1Kind, St, Data, Se, Ge}
use Rattle.x12_envelopes.specs.declared.content.Level.{Level}
use Rattle.x12_envelopes.specs.declared.content.Level.TheVariants.{Front, InGroup, InSet}
use Rattle.x12_envelopes.specs.Segment.{PlacedSegment}
use Rattle.x12_envelopes.specs.Content.{kind_of_segment}
use Rattle.x12_envelopes.specs.Outline.{kind_is_misplaced, level_behind}
use Rattle.x12_envelopes.specs.Grammar.{SetTree, GroupTree, set_tail, set_tree_segments, group_tail, group_tree_segments, IsSegment}
use Rattle.x12_envelopes.specs.FirstFault.{HasFormOfSet, HasFormOfGroup, HasFormOfFront}
use Rattle.x12_envelopes.proofs.OpenLemmas.{level_after}
use Rattle.x12_envelopes.proofs.KindLemmas.{gs_stands}

pub no_bool : {b : Bool} → b ≡ true → b ≡ false → ⊥
no_bool t f = let no : true ≡ false = sym t ∙ f in cc no

-- Segments that have the form of an interchange stand where they may.

abbrev Stands : Delims → Level → List PlacedSegment → Type 0
Stands d level [] = Unit {0}
Stands d level (s ∷ ss) = (kind_is_misplaced level (kind_of_segment d s.bytes) ≡ false) × Stands d (level_behind (kind_of_segment d s.bytes)) ss

module _ (d : Delims) where
  stand_both : (xs ys : List PlacedSegment) (level : Level) → Stands d level xs → Stands d (level_after d level xs) ys → Stands d level (xs ++ ys)
  stand_both [] ys level first second = second
  stand_both (x ∷ xs) ys level first second = (first.0, stand_both xs ys (level_behind (kind_of_segment d x.bytes)) first.1 second)

  after_both : (xs ys : List PlacedSegment) (level : Level) → level_after d level (xs ++ ys) ≡ level_after d (level_after d level xs) ys
  after_both [] ys level = refl
  after_both (x ∷ xs) ys level = after_both xs ys (level_behind (kind_of_segment d x.bytes))

  last_stands : (front : List PlacedSegment) (s : PlacedSegment) (level : Level) → Stands d level (front ++ s ∷ []) → kind_is_misplaced (level_after d level front) (kind_of_segment d s.bytes) ≡ false
  last_stands [] s level stands = stands.0
  last_stands (x ∷ front) s level stands = last_stands front s (level_behind (kind_of_segment d x.bytes)) stands.1

  -- a list stands at a level, and a fact holds of the level behind it
  abbrev Leads : (Level → Type 0) → Level → List PlacedSegment → Type 0
  Leads Fact level ss = Stands d level ss × Fact (level_after d level ss)

  leads_both : (Fact : Level → Type 0) (xs ys : List PlacedSegment) (level : Level) → Stands d level xs → Leads Fact (level_after d level xs) ys → Leads Fact level (xs ++ ys)
  leads_both Fact xs ys level first second = (stand_both xs ys level first second.0, subst Fact (sym (after_both xs ys level)) second.1)

  abbrev InSome : Level → Type 0
  InSome level = kind_is_misplaced level St ≡ false

  tas_stand : (tas : List PlacedSegment) → AllByRecursion (IsSegment d Ta1Kind) tas → Leads (λ level. level ≡ Front) Front tas
  tas_stand [] are = (tt, refl)
  tas_stand (s ∷ tas) are = rw are.0.is (let rest = tas_stand tas are.1 in ((refl, rest.0), rest.1))

  body_stands : (body : List PlacedSegment) → AllByRecursion (IsSegment d Data) body → Leads (λ level. level ≡ InSet) InSet body
  body_stands [] are = (tt, refl)
  body_stands (s ∷ body) are = rw are.0.is (let rest = body_stands body are.1 in ((refl, rest.0), rest.1))

  end_stands : (se : Option PlacedSegment) → IfSome se (IsSegment d Se) → Leads InSome InSet (option_to_list se)
  end_stands None is = (tt, refl)
  end_stands (Some s) is = rw is.is ((refl, tt), refl)

  st_may : (level : Level) → InSome level → kind_is_misplaced level St ≡ false
  st_may level in' = in'

  ge_may : (level : Level) → InSome level → kind_is_misplaced level Ge ≡ false
  ge_may level in' = in'

  set_stands : (t : SetTree) (level : Level) → HasFormOfSet d t → InSome level → Leads InSome level (set_tree_segments t)
  set_stands t level form in' =
      let body = body_stands t.body form.body in
      let tail : Leads InSome InSet (set_tail t) = leads_both InSome t.body (option_to_list t.se) InSet body.0 (subst (λ (l : Level). Leads InSome l (option_to_list t.se)) (sym body.1) (end_stands t.se form.se)) in
      let behind : level_after d level (set_tree_segments t) ≡ level_after d InSet (set_tail t) = ap (λ (k : Kind). level_after d (level_behind k) (set_tail t)) form.st.is in
      let stands : Stands d level (set_tree_segments t) = rw form.st.is (st_may level in', tail.0) in
      (stands, subst InSome (sym behind) tail.1)

  sets_stand : (sets : List SetTree) (level : Level) → AllByRecursion (HasFormOfSet d) sets → InSome level → Leads InSome level (flat_map set_tree_segments sets)
  sets_stand [] level forms in' = (tt, in')
  sets_stand (t ∷ sets) level forms in' =
      let one = set_stands t level forms.0 in' in
      leads_both InSome (set_tree_segments t) (flat_map set_tree_segments sets) level one.0 (sets_stand sets (level_after d level (set_tree_segments t)) forms.1 one.1)

  ge_stands : (ge : Option PlacedSegment) (level : Level) → IfSome ge (IsSegment d Ge) → InSome level → Stands d level (option_to_list ge)
  ge_stands None level is in' = tt
  ge_stands (Some s) level is in' = rw is.is (ge_may level in', tt)

  group_stands : (t : GroupTree) (level : Level) → HasFormOfGroup d t → Stands d level (group_tree_segments t)
  group_stands t level form =
      let sets = sets_stand t.sets InGroup form.sets refl in
      let tail : Stands d InGroup (group_tail t) = stand_both (flat_map set_tree_segments t.sets) (option_to_list t.ge) InGroup sets.0 (ge_stands t.ge (level_after d InGroup (flat_map set_tree_segments t.sets)) form.ge sets.1) in
      rw form.gs.is (gs_stands level, tail)

  groups_stand : (groups : List GroupTree) (level : Level) → AllByRecursion (HasFormOfGroup d) groups → Stands d level (flat_map group_tree_segments groups)
  groups_stand [] level forms = tt
  groups_stand (t ∷ groups) level forms =
      stand_both (group_tree_segments t) (flat_map group_tree_segments groups) level (group_stands t level forms.0) (groups_stand groups (level_after d level (group_tree_segments t)) forms.1)

  form_stands : (ss : List PlacedSegment) → HasFormOfFront d ss → Stands d Front ss
  form_stands ss form =
      let tas = tas_stand form.tas form.form_of_tas in
      subst (λ (l : List PlacedSegment). Stands d Front l) (sym form.are)
      (stand_both form.tas (flat_map group_tree_segments form.groups) Front tas.0 (groups_stand form.groups (level_after d Front form.tas) form.form_of_groups))

  pub no_form : (front : List PlacedSegment) (s : PlacedSegment) → kind_is_misplaced (level_after d Front front) (kind_of_segment d s.bytes) ≡ true → HasFormOfFront d (front ++ s ∷ []) → ⊥
  no_form front s misplaced form = no_bool misplaced (last_stands front s Front (form_stands (front ++ s ∷ []) form))
