-- What holds of every judgement: it is small, and a judged interchange was read.
use Rattle.std.proofs.Common.{◌≡◌, ℕ, ◌+◌, ◌≤◌, Bool, true, false, not, ◌==◌, List, [], ◌∷◌, length, map, filter, flat_map, is_some, All, MatchOption, Option, Some, None, Ok, Err, if◌then◌else◌, refl, ◌∙◌, ap, arith}
use Rattle.std.specs.List.{sum_by, enumerate_from, AllByRecursion}
use Rattle.std.proofs.lemmas.List.{length-take, length-map}
use Rattle.std.proofs.lemmas.List.Sums.{sum_by-cons}
use Rattle.std.proofs.lemmas.List.Elements.{All-map}
use Rattle.std.proofs.lemmas.List.FromFn.{length-enumerate_from}
use Rattle.x12_envelopes.specs.declared.party.Party.{Party}
use Rattle.x12_envelopes.specs.declared.delimiters.Delims.{Delims}
use Rattle.x12_envelopes.specs.declared.header.Header.{Header}
use Rattle.x12_envelopes.specs.Row.{first_of_rows, held_of_rows}
use Rattle.x12_envelopes.specs.Grammar.{GroupTree, group_meant, set_meant, sets_in}
use Rattle.x12_envelopes.specs.Outline.{outline_of}
use Rattle.x12_envelopes.specs.Shape.{TransactionSet, FunctionalGroup, Interchange}
use Rattle.x12_envelopes.proofs.FoundTreeLemmas.{trees_alone}
use Rattle.x12_judge.specs.declared.controls.Controls.{Controls}
use Rattle.x12_judge.specs.Agreement.{TradingAgreement}
use Rattle.x12_judge.specs.Controls.{JudgingTerms}
use Rattle.x12_judge.specs.Interchange.{Reading, note_rows, note_of_interchange}
use Rattle.x12_judge.specs.Set.{verdict_of_set, codes_of_set, code_rows, codes_by, is_repeated, notes_of_set, reported}
use Rattle.x12_judge.specs.Group.{FunctionalGroupVerdict, verdict_of_group, verdicts_of_sets, refusal_of_group}
use Rattle.x12_judge.specs.Verdict.{verdict_by, judgement_of, verdicts_of_groups, group_is_acknowledgment}
use Rattle.x12_judge.specs.Laws.{IsShortVerdict, AreFewVerdicts, IsSmallVerdict}

pub held_few : {X : Type 0} (rows : List (Bool × X)) → length (held_of_rows rows) ≤ length rows
held_few [] = omega arith
held_few (row ∷ rows) = one row.0 (held_few rows)
  where
    one : (b : Bool) → length (held_of_rows rows) ≤ length rows → length (if b then row.1 ∷ held_of_rows rows else held_of_rows rows) ≤ length (row ∷ rows)
    one true few = omega (arith, few)
    one false few = omega (arith, few)

set_is_short : (d : Delims) (agreed lenient : Bool) (earlier : List TransactionSet) (s : TransactionSet) → IsShortVerdict (verdict_of_set d agreed lenient earlier s)
unfolding verdict_of_set codes_of_set codes_by
set_is_short d agreed lenient earlier s = record {
  codes = held_few (code_rows agreed (not (length (notes_of_set d agreed s) == 0)) (is_repeated earlier s) s);
  notes = omega (arith, length-take 8 (flat_map reported (notes_of_set d agreed s)));
}

unless_all : {X : Type 0} (P : X → Type 0) (b : Bool) (xs : List X) → All P xs → All P (if b then [] else xs)
unless_all P true xs all = λ k d within. absurd (omega (arith, within))
unless_all P false xs all = all

unless_length : {X : Type 0} (b : Bool) (xs : List X) → length (if b then [] else xs) ≤ length xs
unless_length true xs = omega arith
unless_length false xs = omega arith

module _ (agreements : List TradingAgreement) (partner : Party) (d : Delims) where
  group_is_short : (place : ℕ) (g : FunctionalGroup) → All IsShortVerdict (verdict_of_group agreements partner d place g).sets
  unfolding verdict_of_group verdicts_of_sets
  group_is_short place g =
      unless_all IsShortVerdict (is_some (refusal_of_group agreements partner g)) (verdicts_of_sets agreements partner d g)
      (All-map IsShortVerdict _ (enumerate_from 0 g.sets) (λ k p within. set_is_short d _ _ _ _))

  pub few_in_group : (place : ℕ) (g : FunctionalGroup) → length (verdict_of_group agreements partner d place g).sets ≤ length g.sets
  unfolding verdict_of_group verdicts_of_sets
  few_in_group place g =
      let sets = verdicts_of_sets agreements partner d g in
      let all = unless_length (is_some (refusal_of_group agreements partner g)) sets in
      let each : length sets ≡ length g.sets = length-map (enumerate_from 0 g.sets) _ ∙ length-enumerate_from 0 g.sets in
      omega (arith, all, each)

  abbrev verdict_at : ℕ × FunctionalGroup → FunctionalGroupVerdict
  verdict_at p = verdict_of_group agreements partner d p.0 p.1

  abbrev answered : ℕ → List FunctionalGroup → List (ℕ × FunctionalGroup)
  answered n gs = filter (λ p. not (group_is_acknowledgment p.1)) (enumerate_from n gs)

  -- no more groups are answered than there are
  few_answered : (n : ℕ) (gs : List FunctionalGroup) → length (map verdict_at (answered n gs)) ≤ length gs
  few_answered n [] = omega arith
  few_answered n (g ∷ gs) = one (not (group_is_acknowledgment g)) (few_answered (n + 1) gs)
    where
      one : (b : Bool) → length (map verdict_at (answered (n + 1) gs)) ≤ length gs → length (map verdict_at (if b then (n, g) ∷ answered (n + 1) gs else answered (n + 1) gs)) ≤ length (g ∷ gs)
      one true few = omega (arith, few)
      one false few = omega (arith, few)

  -- nor more sets
  few_sets_answered : (n : ℕ) (gs : List FunctionalGroup) → sum_by (λ (v : FunctionalGroupVerdict). length v.sets) (map verdict_at (answered n gs)) ≤ sum_by (λ (g : FunctionalGroup). length g.sets) gs
  few_sets_answered n [] = omega arith
  few_sets_answered n (g ∷ gs) = one (not (group_is_acknowledgment g)) (few_sets_answered (n + 1) gs)
    where
      one : (b : Bool) → sum_by (λ (v : FunctionalGroupVerdict). length v.sets) (map verdict_at (answered (n + 1) gs)) ≤ sum_by (λ (g : FunctionalGroup). length g.sets) gs → sum_by (λ (v : FunctionalGroupVerdict). length v.sets) (map verdict_at (if b then (n, g) ∷ answered (n + 1) gs else answered (n + 1) gs)) ≤ sum_by (λ (g : FunctionalGroup). length g.sets) (g ∷ gs)
      one true few = omega (arith, few, few_in_group n g, sum_by-cons (λ (v : FunctionalGroupVerdict). length v.sets) (verdict_at (n, g)) (map verdict_at (answered (n + 1) gs)), sum_by-cons (λ (g : FunctionalGroup). length g.sets) g gs)
      one false few = omega (arith, few, sum_by-cons (λ (g : FunctionalGroup). length g.sets) g gs)

-- the sets of an outline are those of its tree
sets_of_tree : (d : Delims) (input : List ℕ) (ts : List GroupTree) → sum_by (λ (g : FunctionalGroup). length g.sets) (map (group_meant d input) ts) ≡ sets_in ts
sets_of_tree d input [] = refl
sets_of_tree d input (t ∷ ts) =
    omega (arith, sets_of_tree d input ts, sum_by-cons (λ (g : FunctionalGroup). length g.sets) (group_meant d input t) (map (group_meant d input) ts), sum_by-cons (λ (g : GroupTree). length g.sets) t ts, length-map t.sets (set_meant d input))

few_verdicts : (agreements : List TradingAgreement) (h : Header) (bytes : List ℕ) (read : Reading) → outline_of h.delims bytes ≡ read → AreFewVerdicts (verdicts_of_groups agreements h read)
unfolding verdicts_of_groups
few_verdicts agreements h bytes (Err fault) is = record {
  groups = omega arith;
  sets = omega arith;
  short = λ k d within. absurd (omega (arith, within));
}
few_verdicts agreements h bytes (Ok x) is =
    let tree = trees_alone h.delims bytes x is in
    let d = h.delims in
    let groups_are : length x.groups ≡ length tree.0.groups = ap (λ (i : Interchange). length i.groups) tree.2 ∙ length-map tree.0.groups (group_meant d bytes) in
    let sets_are : sum_by (λ (g : FunctionalGroup). length g.sets) x.groups ≡ sets_in tree.0.groups =
    ap (λ (i : Interchange). sum_by (λ (g : FunctionalGroup). length g.sets) i.groups) tree.2 ∙ sets_of_tree d bytes tree.0.groups in
    record {
      groups = omega (arith, few_answered agreements h.sender d 1 x.groups, groups_are, tree.1.tree.few_groups);
      sets = omega (arith, few_sets_answered agreements h.sender d 1 x.groups, sets_are, tree.1.tree.few_sets);
      short = All-map (λ (g : FunctionalGroupVerdict). All IsShortVerdict g.sets) (verdict_at agreements h.sender d) (answered agreements h.sender d 1 x.groups)
          (λ k p within. group_is_short agreements h.sender d _ _);
    }

small_row : (rows : List (Bool × ℕ)) → AllByRecursion (λ r. r.1 ≤ 999) rows → MatchOption (first_of_rows rows) (Unit {0}) (λ m. m ≤ 999)
small_row [] small = tt
small_row (row ∷ rows) small = one row.0 small.0 (small_row rows small.1)
  where
    one : (b : Bool) → row.1 ≤ 999 → MatchOption (first_of_rows rows) (Unit {0}) (λ m. m ≤ 999) → MatchOption (if b then Some row.1 else first_of_rows rows) (Unit {0}) (λ m. m ≤ 999)
    one true here later = here
    one false here later = later

small_note : (controls : Controls) (me : Party) (h : Header) (read : Reading) → MatchOption (note_of_interchange controls me h read) (Unit {0}) (λ m. m ≤ 999)
unfolding note_of_interchange
small_note controls me h read =
    small_row (note_rows controls me h read)
    (omega arith, (omega arith, (omega arith, (omega arith, (omega arith, (omega arith, (omega arith, (omega arith, (omega arith, (omega arith, (omega arith, (omega arith, tt))))))))))))

small_by : (note : Option ℕ) (gs : List FunctionalGroupVerdict) → MatchOption note (Unit {0}) (λ m. m ≤ 999) → AreFewVerdicts gs → IsSmallVerdict (verdict_by note gs)
small_by (Some note) gs small few = small
small_by None gs small few = few

pub judgement_is_small : (me : Party) (terms : JudgingTerms) (h : Header) (bytes : List ℕ) → IsSmallVerdict (judgement_of me terms h bytes).verdict
unfolding judgement_of
judgement_is_small me terms h bytes =
    let read = outline_of h.delims bytes in
    small_by (note_of_interchange terms.controls me h read) (verdicts_of_groups terms.agreements h read) (small_note terms.controls me h read) (few_verdicts terms.agreements h bytes read refl)
