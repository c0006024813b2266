-- Rising numbers: their parts, their joins, and the numbers of a history.
use Rattle.std.proofs.Common.{ℕ, ◌≡◌, ◌+◌, ◌<◌, ◌≤◌, ◌∙◌, ap, sym, suc, zero, ◌&&◌, nat_lt, nat_le, List, [], ◌∷◌, ◌++◌, AllPairs, arith, refl, IsTrue, Result, Ok, Err, IfOk, OnOk}
use Rattle.std.specs.List.{AllByRecursion, range_with_len}
use Rattle.std.proofs.lemmas.Bool.{and_parts}
use Rattle.std.proofs.lemmas.Bool.Decides.{nat_tests}
use Rattle.std.proofs.lemmas.List.Elements.{All-from_recursion}
use Rattle.std.proofs.lemmas.List.Kept.{AllPairs-cons}
use Rattle.x12_numbers.specs.Book.{Numbers, Uses, is_rising, latest_number}
use Rattle.x12_numbers.specs.History.{Step, IsHistory, interchanges_of, groups_of, Rises}
use Rattle.x12_numbers.specs.declared.book.TheConstants.{MAX_CONTROL_NUMBER}

-- the first number is above last and within the limit, and the others rise above it
pub record StartsAbove (last n : ℕ) (ns : List ℕ) : Type 0 where
  pub above : last < n
  pub within : n ≤ MAX_CONTROL_NUMBER
  pub rest : IsTrue (is_rising n ns)

-- a list that rises above last, as its parts, and from them
pub rising_parts : (last n : ℕ) (ns : List ℕ) → IsTrue (is_rising last (n ∷ ns)) → StartsAbove last n ns
rising_parts last n ns rising =
    let parts = and_parts (nat_lt last n && nat_le n MAX_CONTROL_NUMBER) (is_rising n ns) rising in
    let first = and_parts (nat_lt last n) (nat_le n MAX_CONTROL_NUMBER) parts.0 in
    record { above = grind (arith, nat_tests); within = grind (arith, nat_tests); rest = parts.1 }

pub rising_from_parts : (last n : ℕ) (ns : List ℕ) → last < n → n ≤ MAX_CONTROL_NUMBER
    → IsTrue (is_rising n ns) → IsTrue (is_rising last (n ∷ ns))
rising_from_parts last n ns above within rest = grind (arith, nat_tests)

-- numbers that rise above last, and then numbers that rise above the latest of these, rise
pub is_rising-append : (last : ℕ) (xs ys : List ℕ) → IsTrue (is_rising last xs)
    → IsTrue (is_rising (latest_number last xs) ys) → IsTrue (is_rising last (xs ++ ys))
is_rising-append last [] ys front back = back
is_rising-append last (x ∷ xs) ys front back =
    let parts = rising_parts last x xs front in
    rising_from_parts last x (xs ++ ys) parts.above parts.within
    (is_rising-append x xs ys parts.rest back)

-- the count numbers above last rise
pub is_rising-range : (last count : ℕ) → last + count ≤ MAX_CONTROL_NUMBER
    → IsTrue (is_rising last (range_with_len (last + 1) count))
is_rising-range last zero within = refl
is_rising-range last (suc count) within =
    rising_from_parts last (last + 1) (range_with_len (last + 1 + 1) count) (omega arith) (omega arith)
    (is_rising-range (last + 1) count (omega arith))

-- and the latest of them is count above it
pub latest_number-range : (last count : ℕ)
    → latest_number last (range_with_len (last + 1) count) ≡ last + count
latest_number-range last zero = omega arith
latest_number-range last (suc count) = latest_number-range (last + 1) count ∙ omega arith

-- the book with these last numbers
abbrev pub book_at : ℕ → ℕ → Numbers
book_at interchange group = record { interchange = interchange; group = group }

-- a book whose group number went up by count has used the count numbers from the first on
pub Uses-taken : {E : Type 0} (result : Result ℕ E) (interchange last count new : ℕ)
    → IfOk result (λ first. first ≡ last + 1) → OnOk result (new ≡ last + count)
    → new ≤ MAX_CONTROL_NUMBER
    → IfOk result (λ first. Uses (book_at interchange last) (book_at interchange new) [] (range_with_len first count))
Uses-taken (Ok first) interchange last count new next taken within = rw next (record {
  numbers = is_rising-range last count (omega arith);
  book = ap (book_at interchange) (taken ∙ sym (latest_number-range last count));
})
Uses-taken (Err refusal) interchange last count new next taken within = tt

-- what was used rises, interchanges and groups
pub new_parts : {old new : Numbers} {interchanges groups : List ℕ} → Uses old new interchanges groups
    → IsTrue (is_rising old.interchange interchanges) × IsTrue (is_rising old.group groups)
new_parts {old} {new} {interchanges} {groups} uses =
    and_parts (is_rising old.interchange interchanges) (is_rising old.group groups) uses.numbers

-- the numbers of a history rise above those of its first book
pub rising_interchanges : (book : Numbers) (steps : List Step) → IsHistory book steps
    → IsTrue (is_rising book.interchange (interchanges_of steps))
rising_interchanges book [] history = refl
rising_interchanges book (step ∷ steps) history =
    is_rising-append book.interchange step.interchanges (interchanges_of steps) (new_parts history.0).0
    (rw (← ap (λ (b : Numbers). b.interchange) history.0.book)
    (rising_interchanges step.book steps history.1))

pub rising_groups : (book : Numbers) (steps : List Step) → IsHistory book steps
    → IsTrue (is_rising book.group (groups_of steps))
rising_groups book [] history = refl
rising_groups book (step ∷ steps) history =
    is_rising-append book.group step.groups (groups_of steps) (new_parts history.0).1
    (rw (← ap (λ (b : Numbers). b.group) history.0.book) (rising_groups step.book steps history.1))

-- numbers that rise above last are all above what last is not below
pub each_above : (low last : ℕ) (ns : List ℕ) → low ≤ last → IsTrue (is_rising last ns)
    → AllByRecursion (λ n. low < n) ns
each_above low last [] at rising = tt
each_above low last (n ∷ ns) at rising =
    let parts = rising_parts last n ns rising in
    (omega arith, each_above low n ns (omega arith) parts.rest)

-- and none of them is above the greatest
pub each_within : (last : ℕ) (ns : List ℕ) → IsTrue (is_rising last ns)
    → AllByRecursion (λ n. n ≤ MAX_CONTROL_NUMBER) ns
each_within last [] rising = tt
each_within last (n ∷ ns) rising =
    let parts = rising_parts last n ns rising in
    (parts.within, each_within n ns parts.rest)

-- each is above all before it
pub pairs_above : (last : ℕ) (ns : List ℕ) → IsTrue (is_rising last ns)
    → AllPairs (λ earlier later. earlier < later) (last ∷ ns)
pairs_above last [] rising = λ i j d before within. absurd (omega arith)
pairs_above last (n ∷ ns) rising =
    AllPairs-cons (λ earlier later. earlier < later) last (n ∷ ns)
    (All-from_recursion (λ m. last < m) (n ∷ ns) (each_above last last (n ∷ ns) (omega arith) rising))
    (pairs_above n ns (rising_parts last n ns rising).rest)

-- what the test of rising numbers says
pub Rises-from_is_rising : (last : ℕ) (ns : List ℕ) → IsTrue (is_rising last ns) → Rises last ns
Rises-from_is_rising last ns rising = record {
  above_earlier = pairs_above last ns rising;
  within = All-from_recursion (λ n. n ≤ MAX_CONTROL_NUMBER) ns (each_within last ns rising);
}
