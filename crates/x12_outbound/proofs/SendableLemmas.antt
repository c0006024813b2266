-- What may be submitted can be entered into a ledger.
use Rattle.std.specs.Prelude.{◌≡◌, ℕ, suc, ◌+◌, ◌<◌, ◌≤◌, List, [], ◌∷◌, true, false, None, ◌==◌, length, map, All, AllPairs, vec_len, refl}
use Rattle.std.specs.List.{list_any, sum_by}
use mathlib.Core.Path.{sym, ap, ap₂, subst, ◌∙◌}
use mathlib.Core.Logic.{inl, inr}
use native.Mathlib.Omega.{arith}
use Rattle.std.proofs.lemmas.Bool.{or_parts}
use Rattle.std.proofs.lemmas.Bool.Decides.{eqb_tells}
use Rattle.std.proofs.lemmas.List.{length-map}
use Rattle.std.proofs.lemmas.List.Elements.{All-cons, All-nil}
use Rattle.std.proofs.lemmas.List.Sums.{sum_by-cons}
use Rattle.x12_numbers.specs.Book.{Numbers, Uses}
use Rattle.x12_numbers.proofs.RisingLemmas.{new_parts, pairs_above}
use Rattle.x12_numbers.proofs.Shelf.{pairs_from_map}
use Rattle.x12_envelopes.specs.declared.delimiters.Delims.{Delims}
use Rattle.x12_envelopes.specs.declared.header.Header.{Header}
use Rattle.x12_envelopes.specs.declared.shape.GroupView.{GroupView}
use Rattle.x12_envelopes.specs.Shape.{Interchange, FunctionalGroup, group_view, set_view}
use Rattle.x12_acks.specs.Submission.{SubmittedGroup, submission_of, submitted_group, submitted_set}
use Rattle.x12_profile.specs.Interchange.{Bytes}
use Rattle.x12_outbound.specs.Entry.{IsSendable}
use Rattle.x12_outbound.specs.Submitting.{contents_fault, lacks_sets, numbers_of_groups}
use Rattle.x12_outbound.proofs.SubmittingLemmas.{contents_none}

pub same_numbers : (gs : List FunctionalGroup) → map (λ (g : SubmittedGroup). g.number) (map submitted_group gs) ≡ map (λ g. g.number) gs
same_numbers [] = refl
same_numbers (g ∷ gs) = ap (λ l. g.number ∷ l) (same_numbers gs)

same_sizes : (gs : List FunctionalGroup) → sum_by (λ (g : SubmittedGroup). length g.sets) (map submitted_group gs) ≡ sum_by (λ (g : FunctionalGroup). length g.sets) gs
same_sizes [] = refl
same_sizes (g ∷ gs) =
    sum_by-cons (λ (g : SubmittedGroup). length g.sets) (submitted_group g) (map submitted_group gs)
    ∙ ap₂ (λ a b. a + b) (length-map g.sets submitted_set) (same_sizes gs)
    ∙ sym (sum_by-cons (λ (g : FunctionalGroup). length g.sets) g gs)

pub viewed_sizes : (d : Delims) (gs : List GroupView) → sum_by (λ (g : FunctionalGroup). length g.sets) (map (group_view d) gs) ≡ sum_by (λ (g : GroupView). vec_len g.sets) gs
viewed_sizes d [] = refl
viewed_sizes d (g ∷ gs) =
    sum_by-cons (λ (g : FunctionalGroup). length g.sets) (group_view d g) (map (group_view d) gs)
    ∙ ap₂ (λ a b. a + b) (length-map g.sets.items (set_view d) ∙ sym g.sets.ok.0) (viewed_sizes d gs)
    ∙ sym (sum_by-cons (λ (g : GroupView). vec_len g.sets) g gs)

some_group : (gs : List FunctionalGroup) → (length gs == 0) ≡ false → 0 < length (map submitted_group gs)
some_group [] some = absurd cc
some_group (g ∷ gs) some = omega arith

filled : (gs : List FunctionalGroup) → list_any (λ g. length g.sets == 0) gs ≡ false → All (λ g. 0 < length g.sets) (map submitted_group gs)
filled [] none = All-nil (λ g. 0 < length g.sets)
filled (g ∷ gs) none =
    let parts = or_parts (length g.sets == 0) (list_any (λ g. length g.sets == 0) gs) none in
    let same = length-map g.sets submitted_set in
    let some : 0 < length (submitted_group g).sets = elim (eqb_tells (length g.sets) 0) [
      | inl is ↦ absurd (let no : true ≡ false = sym is.0 ∙ parts.0 in cc)
      | inr not ↦ let apart = not.1 in omega arith
    ] in
    All-cons (λ (g : SubmittedGroup). 0 < length g.sets) (submitted_group g) (map submitted_group gs) some (filled gs parts.1)

-- some pairs of a longer list
pairs_behind : (n : ℕ) (ns : List ℕ) → AllPairs (λ a b. a < b) (n ∷ ns) → AllPairs (λ a b. a < b) ns
pairs_behind n ns all = λ i j d before within. all (suc i) (suc j) d (omega arith) (omega arith)

module _ (x : Bytes) (h : Header) (o : Interchange) (none : contents_fault o ≡ None) where
  rows : lacks_sets o ≡ false
  rows = (contents_none o none).1

  -- its groups have sets
  pub groups_filled : All (λ g. 0 < length g.sets) (submission_of h x o).groups
  unfolding submission_of
  groups_filled = filled o.groups (or_parts (length o.groups == 0) (list_any (λ g. length g.sets == 0) o.groups) rows).1

  pub sendable : (old new : Numbers) → Uses old new (h.icn ∷ []) (numbers_of_groups o) → length o.groups ≤ 32 → sum_by (λ (g : FunctionalGroup). length g.sets) o.groups ≤ 400 → IsSendable (submission_of h x o)
  unfolding submission_of
  sendable old new uses few sets =
      let ns = map (λ (g : SubmittedGroup). g.number) (map submitted_group o.groups) in
      let rising = subst (λ l. AllPairs (λ a b. a < b) (old.group ∷ l)) (sym (same_numbers o.groups)) (pairs_above old.group (map (λ (g : FunctionalGroup). g.number) o.groups) (new_parts uses).1) in
      record {
        has_group = some_group o.groups (or_parts (length o.groups == 0) (list_any (λ g. length g.sets == 0) o.groups) rows).0;
        groups_rise = pairs_from_map (λ (g : SubmittedGroup). g.number) (λ a b. a < b) (map submitted_group o.groups) (pairs_behind old.group ns rising);
        few_groups = let same = length-map o.groups submitted_group in omega arith;
        few_sets = let same = same_sizes o.groups in omega arith;
      }
