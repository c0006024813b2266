-- A number behind its leading zeros, digit by digit from the last.
use Rattle.std.proofs.Common.{arith, ◌≡◌, ◌<◌, ◌≤◌, ◌^◌, ◌/◌, ◌%◌, ◌++◌, ℕ, zero, suc, List, [], ◌∷◌, ◌+◌, ◌-◌, inl, inr, length, replicate, drop, decimal, slice_set, refl, sym, ◌∙◌, append_assoc, length-append}
use Rattle.std.proofs.Math.Nat.{pow-suc}
use Rattle.std.proofs.lemmas.Bool.{cases_lt}
use Rattle.std.proofs.lemmas.Fmt.{decimal_digit, decimal_step}
use Rattle.std.proofs.lemmas.Grind.{drop-set_at}
use Rattle.std.proofs.lemmas.List.{replicate-append-replicate}
use Rattle.x12_envelopes.specs.Byte.{zero_padded_number}

-- the last digits of a number, as many as are asked for
abbrev pub last_digits : ℕ → ℕ → List ℕ
last_digits zero n = []
last_digits (suc k) n = last_digits k (n / 10) ++ (48 + n % 10) ∷ []

-- a text behind zeros, and then one digit more
one_more : (k : ℕ) (text : List ℕ) (d : ℕ) → (replicate (k - length text) 48 ++ text) ++ d ∷ [] ≡ replicate (suc k - length (text ++ d ∷ [])) 48 ++ (text ++ d ∷ [])
one_more k text d =
    let same : suc k - length (text ++ d ∷ []) ≡ k - length text = omega (arith, length-append text (d ∷ [])) in
    rw same (append_assoc (replicate (k - length text) 48) text (d ∷ []))

-- zeros alone, and then one digit
alone : (k d : ℕ) → (replicate (suc k - 1) 48 ++ 48 ∷ []) ++ d ∷ [] ≡ replicate (suc (suc k) - 1) 48 ++ d ∷ []
alone k d =
    let less : suc k - 1 ≡ k = omega arith in
    let more : suc (suc k) - 1 ≡ k + 1 = omega arith in
    let parts : replicate {A = ℕ} (k + 1) 48 ≡ replicate k 48 ++ 48 ∷ [] = sym (replicate-append-replicate k 1 48) in
    rw (less, more, parts) refl

pub are_padded : (k n : ℕ) → n < 10 ^ suc k → n < 2 ^ 64 → last_digits (suc k) n ≡ zero_padded_number (suc k) n
unfolding zero_padded_number
are_padded zero n fits small =
    let same : n % 10 ≡ n = omega (arith, fits) in
    rw (decimal_digit n fits, same) refl
are_padded (suc k) n fits small =
    let tenth : n / 10 < 10 ^ suc k = omega (arith, fits, pow-suc 10 (suc k)) in
    let before = are_padded k (n / 10) tenth (omega (arith, small)) in
    elim (cases_lt n 10) [
      | inl low ↦
          let last : n % 10 ≡ n = omega (arith, low) in
          let none : n / 10 ≡ 0 = omega (arith, low) in
          let nought : decimal 0 ≡ 48 ∷ [] = decimal_digit 0 (omega arith) in
          rw (before, decimal_digit n low, last, none, nought) (alone k (48 + n))
      | inr high ↦
          rw (before, decimal_step n high small) (one_more (suc k) (decimal (n / 10)) (48 + n % 10))
    ]

-- one digit more is written, in front of those that are
pub digit_more : (k n : ℕ) (all text : List ℕ) → 0 < k → k ≤ length text
    → all ≡ last_digits k n ++ drop k text
    → all ≡ last_digits (k - 1) (n / 10) ++ drop (k - 1) (slice_set text (k - 1) (48 + n % 10))
digit_more zero n all text some within is = absurd (omega (arith, some))
digit_more (suc k) n all text some within is =
    let less : suc k - 1 ≡ k = omega arith in
    let more : k + 1 ≡ suc k = omega arith in
    rw (less, drop-set_at text k k (48 + n % 10) refl (omega (arith, within)), more)
    (is ∙ append_assoc (last_digits k (n / 10)) ((48 + n % 10) ∷ []) (drop (suc k) text))

-- no digit is missing
pub all_written : (k missing n left : ℕ) (text : List ℕ) → 0 < k → n < 10 ^ k → n < 2 ^ 32 → missing ≤ 0
    → last_digits k n ≡ last_digits missing left ++ drop missing text
    → text ≡ zero_padded_number k n
all_written zero missing n left text some fits small none told = absurd (omega (arith, some))
all_written (suc k) (suc missing) n left text some fits small none told = absurd (omega (arith, none))
all_written (suc k) zero n left text some fits small none told = sym told ∙ are_padded k n fits (omega (arith, small))
