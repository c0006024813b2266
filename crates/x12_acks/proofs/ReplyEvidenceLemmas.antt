-- The evidence of a reply's answers is the verdict's.
use Rattle.std.proofs.Common.{◌≡◌, ◌∷◌, [], List, ℕ, Bool, true, false, not, map, if◌then◌else◌, ◌==◌, length, refl, cond, ap, ap₂, append-nil, arith, sym, ◌∙◌, is_some, count_by, ◌+◌}
use Rattle.std.specs.Prelude.{Some, find, bytes_eq, zip}
use Rattle.std.specs.List.{AllByRecursion, IsDistinct, list_any}
use Rattle.x12_judge.specs.declared.verdict.SetResult.{SetResult}
use Rattle.x12_judge.specs.declared.verdict.SetResult.TheVariants as result
use Rattle.x12_judge.specs.Set.{TransactionSetVerdict, set_is_accepted, takes}
use Rattle.x12_judge.specs.Group.{FunctionalGroupVerdict}
use Rattle.x12_acks.specs.Submission.{KeyedSet, KeyedGroup}
use Rattle.x12_acks.specs.Evidence.{rejected, tells, tells_each, fate_of_code, fate_of_result, listed_evidence, unlisted, group_evidence}
use Rattle.x12_acks.specs.Reply.{some_are_noted}
use Rattle.x12_acks.specs.Told.{set_told, group_told}
use Rattle.std.proofs.lemmas.List.Sums.{sum_by-cons}
use Rattle.std.proofs.lemmas.Bool.Decides.{Decides-eqb}
use Rattle.x12_acks.proofs.FindingLemmas.{each_found, filter_none, all_map, all_true}
use Rattle.x12_acks.proofs.ReplyStatementLemmas.{code_written, group_code_by, group_code_of, told_set, IsToldGroup}
use Rattle.x12_numbers.proofs.Shelf.{bytes_eq_itself, or_true_right}

fate_told : (r : SetResult) → fate_of_code (code_written r) ≡ fate_of_result r
fate_told result.Accepted = refl
fate_told result.Noted = refl
fate_told result.Rejected = refl

-- what isn't accepted is rejected
not_taken : (r : SetResult) → takes r ≡ false → rejected ≡ fate_of_result r
not_taken result.Accepted is = cc
not_taken result.Noted is = cc
not_taken result.Rejected is = refl

-- one listed set
one_listed : (all : List KeyedSet) (k : KeyedSet) (v : TransactionSetVerdict) → find (λ j. bytes_eq j.number k.number) all ≡ Some k → v.number ≡ k.number → listed_evidence all (told_set v) ≡ set_told k v
one_listed all k v found number = rw (number, found) (ap (tells k.key) (fate_told v.result))

-- each listed set
listed_told : (all ks : List KeyedSet) (vs : List TransactionSetVerdict) → AllByRecursion (λ k. find (λ j. bytes_eq j.number k.number) all ≡ Some k) ks → map (λ v. v.number) vs ≡ map (λ k. k.number) ks → map (listed_evidence all) (map told_set vs) ≡ map (λ p. set_told p.0 p.1) (zip ks vs)
listed_told all [] [] found numbers = refl
listed_told all [] (v ∷ vs) found numbers = absurd (cc)
listed_told all (k ∷ ks) [] found numbers = absurd (cc)
listed_told all (k ∷ ks) (v ∷ vs) found numbers =
    let head : v.number ≡ k.number = cc in
    let tail : map (λ v. v.number) vs ≡ map (λ k. k.number) ks = cc in
    rw (one_listed all k v found.0 head, listed_told all ks vs found.1 tail) refl

-- a number is in a list
abbrev pub is_in : List (List ℕ) → List ℕ → Bool
is_in ns n = list_any (λ m. bytes_eq m n) ns

each_in : (ns : List (List ℕ)) → AllByRecursion (λ n. is_in ns n ≡ true) ns
each_in [] = tt
each_in (n ∷ ns) =
    (rw (bytes_eq_itself n) refl, all_map {P = λ m. is_in ns m ≡ true} {Q = λ m. is_in (n ∷ ns) m ≡ true} (λ m is. rw is (or_true_right (bytes_eq n m))) ns (each_in ns))

listed_in : (vs : List TransactionSetVerdict) (n : List ℕ) → list_any (λ a. bytes_eq a.number n) (map told_set vs) ≡ is_in (map (λ v. v.number) vs) n
listed_in [] n = refl
listed_in (v ∷ vs) n = rw (listed_in vs n) refl

unmapped : {K : Type 0} (f : K → List ℕ) (P : List ℕ → Type 0) (ks : List K) → AllByRecursion P (map f ks) → AllByRecursion (λ k. P (f k)) ks
unmapped f P [] all = tt
unmapped f P (k ∷ ks) all = (all.0, unmapped f P ks all.1)

none_unlisted : (vs : List TransactionSetVerdict) (ks : List KeyedSet) → map (λ v. v.number) vs ≡ map (λ k. k.number) ks → unlisted (map told_set vs) ks ≡ []
none_unlisted vs ks numbers =
    let listed : AllByRecursion (λ k. is_in (map (λ k. k.number) ks) k.number ≡ true) ks = unmapped (λ k. k.number) (λ n. is_in (map (λ k. k.number) ks) n ≡ true) ks (each_in (map (λ k. k.number) ks)) in
    filter_none _ ks (all_map (λ k is. ap not (listed_in vs k.number ∙ (ap (λ ns. is_in ns k.number) numbers ∙ is))) ks listed)

pub split_count : (b : Bool) (n : ℕ) → cond b 1 0 + n ≡ 0 → (b ≡ false) × (n ≡ 0)
split_count true n e = absurd (omega (arith, e))
split_count false n e = (refl, omega (arith, e))

-- where none is accepted, each is rejected
none_accepted : (ks : List KeyedSet) (vs : List TransactionSetVerdict) → map (λ v. v.number) vs ≡ map (λ k. k.number) ks → count_by set_is_accepted vs ≡ 0 → tells_each rejected ks ≡ map (λ p. set_told p.0 p.1) (zip ks vs)
none_accepted [] [] numbers none = refl
none_accepted [] (v ∷ vs) numbers none = refl
none_accepted (k ∷ ks) [] numbers none = absurd (cc)
none_accepted (k ∷ ks) (v ∷ vs) numbers none =
    let tail : map (λ v. v.number) vs ≡ map (λ k. k.number) ks = cc in
    let split = split_count (set_is_accepted v) (count_by set_is_accepted vs) (sym (sum_by-cons (λ x. cond (set_is_accepted x) 1 0) v vs) ∙ none) in
    ap₂ (λ fate es. tells k.key fate ∷ es) (not_taken v.result split.0) (none_accepted ks vs tail split.1)

-- the evidence by AK901 and the listed sets
by_code : (rejects all noted none : Bool) (ks : List KeyedSet) (vs : List TransactionSetVerdict) → AllByRecursion (λ k. find (λ j. bytes_eq j.number k.number) ks ≡ Some k) ks → (rejects ≡ false → map (λ v. v.number) vs ≡ map (λ k. k.number) ks) → (none ≡ true → count_by set_is_accepted vs ≡ 0) → group_evidence (group_code_by rejects all noted none) (map told_set vs) ks ≡ (if rejects then tells_each rejected ks else map (λ p. set_told p.0 p.1) (zip ks vs))
unfolding group_evidence
by_code true all noted none ks vs found numbers nil = refl
by_code false true true none ks vs found numbers nil =
    rw (listed_told ks ks vs found (numbers refl), none_unlisted vs ks (numbers refl)) (append-nil _)
by_code false true false none ks vs found numbers nil =
    rw (listed_told ks ks vs found (numbers refl), none_unlisted vs ks (numbers refl)) (append-nil _)
by_code false false noted true ks vs found numbers nil = none_accepted ks vs (numbers refl) (nil refl)
by_code false false noted false ks vs found numbers nil = listed_told ks ks vs found (numbers refl)

-- the same number
abbrev pub same_set : KeyedSet → KeyedSet → Bool
same_set j k = bytes_eq j.number k.number

-- a verdict is that of a submitted group
pub record IsVerdictOf (k : KeyedGroup) (v : FunctionalGroupVerdict) : Type 0 where
  pub told : IsToldGroup k.number v
  pub functional : v.functional ≡ k.functional
  pub numbers : is_some v.refused ≡ false → map (λ s. s.number) v.sets ≡ map (λ s. s.number) k.sets
  pub accepted : v.accepted ≡ count_by set_is_accepted v.sets
  pub distinct : IsDistinct same_set k.sets

pub told_by_group : (k : KeyedGroup) (v : FunctionalGroupVerdict) → IsVerdictOf k v → group_evidence (group_code_of v) (map told_set v.sets) k.sets ≡ group_told k v
told_by_group k v is =
    by_code (is_some v.refused) (v.accepted == length v.sets) (some_are_noted v.sets) (v.accepted == 0) k.sets v.sets
    (each_found same_set k.sets is.distinct (all_true (λ s. same_set s s ≡ true) (λ s. bytes_eq_itself s.number) k.sets)) is.numbers
    (λ none. sym is.accepted ∙ (Decides-eqb v.accepted 0).0 none)
