-- Bytes whose segments can't be read answer nothing.
use Rattle.std.specs.Prelude.{◌≡◌, ℕ, ◌≤◌, List, [], ◌∷◌, ◌++◌, Some, Ok, Err, Contains, refl, ◌<◌, AllPairs, None, ◌+◌, length, map, take, Bool, count_by}
use mathlib.Core.Logic.{inl, inr}
use Rattle.std.specs.List.{dedup}
use Rattle.std.specs.List.Retain.{IsFiltered, DiffersFromLast}
use Rattle.std.proofs.Common.{get_or, eqb}
use Rattle.std.proofs.lemmas.List.{take_more, map-append}
use Rattle.std.specs.Ordering.{nat_cmp}
use Rattle.std.specs.List.Sorted.{IsPermutation, IsSorted}
use Rattle.std.proofs.lemmas.List.Filters.{dedup_is}
use Rattle.std.proofs.lemmas.List.Kept.{AllPairs-from_increasing, Contains-dedup_nat}
use Rattle.std.proofs.lemmas.List.Sorted.{Contains-permutation}
use Rattle.std.proofs.lemmas.Map.Keys.{IsStrictlyIncreasing-dedup}
use native.Mathlib.Omega.{arith}
use Rattle.std.proofs.lemmas.List.Elements.{Contains-push_cases, Contains-push, Contains-append_left}
use Rattle.x12_envelopes.specs.declared.party.Party.{Party}
use Rattle.x12_outbound.specs.Plan.{answer_is_unclear}
use Rattle.x12_profile.specs.X12.{is_unclear}
use Rattle.x12_acks.specs.Answer.{Acknowledgment, of_interchange, of_group, unclear}
use Rattle.x12_outbound.specs.Entry.{InterchangeRow}
use Rattle.x12_station.specs.Closed.{HoldsNumbers}
use Rattle.x12_station.specs.Found.{closed_for}
use Rattle.x12_numbers.specs.Count.{CountRose}
use Rattle.x12_station.specs.Stored.{Stored}
use mathlib.Core.Path.{sym, ap, subst, ◌∙◌}
use Rattle.x12_envelopes.specs.declared.header.Header.{Header}
use Rattle.x12_envelopes.specs.declared.shape.OutlineFault.{OutlineFault}
use Rattle.x12_judge.specs.Bound.{IsReadOf}
use Rattle.x12_envelopes.specs.Header.{header_of}
use Rattle.x12_profile.specs.Interchange.{Bytes}
use Rattle.x12_profile.specs.Reading.{answers_in, header_in}

-- bytes whose reading ended in a fault answer nothing
pub unread : (b : Bytes) (h : Header) (f : OutlineFault) → header_of b ≡ Ok h → IsReadOf b h (Err f) → [] ≡ answers_in b
unfolding header_in
unread b h f known read = rw (known, sym read.is) refl

-- the numbers of one answer more
pub numbers_more : (s : Stored) (from : Party) (answers : List Acknowledgment) (a : Acknowledgment) (numbers more : List ℕ) → HoldsNumbers s from answers numbers → ((n : ℕ) → Contains numbers n → Contains more n)
    → ((e : InterchangeRow) → closed_for s from a ≡ Some e → Contains more e.icn) → HoldsNumbers s from (answers ++ a ∷ []) more
numbers_more s from answers a numbers more held kept new b e at is = elim (Contains-push_cases answers a b at) [ inl before ↦ kept e.icn (held b e before is) | inr same ↦ new e (ap (closed_for s from) same ∙ is) ]

-- two counts of failures, one after the other
pub rises_later : (old mid new : ℕ) → old ≤ mid → CountRose mid new → CountRose old new
rises_later old mid new le (inl lt) = inl (omega arith)
rises_later old mid new le (inr last) = inr last

-- sorted numbers, each once
pub sorted_once : (xs ys zs : List ℕ) → IsPermutation xs ys → IsSorted nat_cmp ys → IsFiltered (DiffersFromLast eqb) [] ys zs → AllPairs (λ a b. a < b) zs × ((n : ℕ) → Contains xs n → Contains zs n)
sorted_once xs ys zs permuted sorted filtered =
    let is = dedup_is eqb ys zs filtered in (
      subst (λ l. AllPairs (λ a b. a < b) l) (sym is) (AllPairs-from_increasing (dedup eqb ys) (IsStrictlyIncreasing-dedup ys sorted)),
      λ n at. subst (λ l. Contains l n) (sym is) (Contains-dedup_nat ys n (Contains-permutation xs ys n permuted at)),
    )

-- what stands in front of one element more
pub taken_more : {X Y : Type 0} (f : X → Y) (xs : List X) (i : ℕ) (x : X) → i < length xs → x ≡ get_or xs i x → map f (take (i + 1) xs) ≡ map f (take i xs) ++ f x ∷ []
taken_more f xs i x within is = ap (map f) (take_more xs i x within ∙ ap (λ y. take i xs ++ y ∷ []) (sym is)) ∙ map-append f (take i xs) (x ∷ [])

-- one number more, and none
module _ (s : Stored) (from : Party) (answers : List Acknowledgment) (a : Acknowledgment) (numbers more : List ℕ) (held : HoldsNumbers s from answers numbers) where
  pub number_pushed : (n : ℕ) → more ≡ numbers ++ n ∷ [] → ((e : InterchangeRow) → closed_for s from a ≡ Some e → Some n ≡ Some e.icn) → HoldsNumbers s from (answers ++ a ∷ []) more
  number_pushed n is named = numbers_more s from answers a numbers more held
      (λ m at. subst (λ l. Contains l m) (sym is) (Contains-append_left numbers (n ∷ []) m at))
      (λ e found. let both = named e found in let same : n ≡ e.icn = cc in subst (λ l. Contains l e.icn) (sym is) (subst (λ m. Contains (numbers ++ n ∷ []) m) same (Contains-push numbers n)))

  pub no_number : more ≡ numbers → ((e : InterchangeRow) → closed_for s from a ≡ Some e → None ≡ Some e.icn) → HoldsNumbers s from (answers ++ a ∷ []) more
  no_number is named = numbers_more s from answers a numbers more held
      (λ m at. subst (λ l. Contains l m) (sym is) at)
      (λ e found. let none = named e found in absurd (let no : ⊥ = cc in no))

-- an answer that is unclear is so for both
pub same_unclear : (answers : List Acknowledgment) → count_by answer_is_unclear answers ≡ count_by is_unclear answers
same_unclear answers = ap (λ (f : Acknowledgment → Bool). count_by f answers) alike
  where
    each : (a : Acknowledgment) → answer_is_unclear a ≡ is_unclear a
    each (of_interchange icn code note) = refl
    each (of_group a) = refl
    each unclear = refl

    alike : answer_is_unclear ≡ is_unclear
    alike = λ i a. each a i
