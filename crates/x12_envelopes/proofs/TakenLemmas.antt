-- The elements of a segment, taken one after the other.
use Rattle.std.proofs.Common.{◌≡◌, ℕ, suc, ◌+◌, ◌-◌, true, false, ◌==◌, List, [], ◌∷◌, length, refl, sym, ap, arith, unwrap_or, slice_get}
use Rattle.std.specs.List.{slice_split}
use Rattle.x12_envelopes.specs.declared.remaining.Remaining.{Remaining}
use Rattle.x12_envelopes.specs.Remaining.{elements_left, left_at}

-- an element by its place, with one more in front
behind_first : (x : List ℕ) (xs : List (List ℕ)) (n : ℕ) → unwrap_or (slice_get (x ∷ xs) (n + 1)) [] ≡ unwrap_or (slice_get xs n) []
behind_first x xs n = let next : n + 1 ≡ suc n = omega arith in ap (λ k. unwrap_or (slice_get (x ∷ xs) k) []) next

pub none_left : (it : Remaining) (n : ℕ) → it.ended ≡ true → left_at it n ≡ []
unfolding elements_left
none_left it n ended = rw ended refl

pub first_left : (it : Remaining) (first : List ℕ) (more : List (List ℕ)) → it.ended ≡ false → slice_split (λ b. b == it.separator) it.bytes.now ≡ first ∷ more → first ≡ left_at it 0
unfolding elements_left
first_left it first more goes_on is = rw (goes_on, is) refl

pub left_behind : (it after : Remaining) (first : List ℕ) (n : ℕ) → it.ended ≡ false → after.ended ≡ false → slice_split (λ b. b == it.separator) it.bytes.now ≡ first ∷ slice_split (λ b. b == after.separator) after.bytes.now → left_at after n ≡ left_at it (n + 1)
unfolding elements_left
left_behind it after first n goes_on still is = rw (goes_on, still, is) (sym (behind_first first (slice_split (λ b. b == after.separator) after.bytes.now) n))

pub last_left : (it : Remaining) (n : ℕ) → it.ended ≡ false → slice_split (λ b. b == it.separator) it.bytes.now ≡ it.bytes.now ∷ [] → [] ≡ left_at it (n + 1)
unfolding elements_left
last_left it n goes_on is = rw (goes_on, is) (sym (behind_first it.bytes.now [] n))

-- one element fewer is left, or none as before
pub none_fewer : (it : Remaining) → it.ended ≡ true → length (elements_left it) ≡ length (elements_left it) - 1
unfolding elements_left
none_fewer it ended = rw ended refl

pub one_fewer : (it after : Remaining) (first : List ℕ) → it.ended ≡ false → after.ended ≡ false → slice_split (λ b. b == it.separator) it.bytes.now ≡ first ∷ slice_split (λ b. b == after.separator) after.bytes.now → length (elements_left after) ≡ length (elements_left it) - 1
unfolding elements_left
one_fewer it after first goes_on still is = rw (goes_on, still, is) (omega arith)

pub last_fewer : (it after : Remaining) → it.ended ≡ false → after.ended ≡ true → slice_split (λ b. b == it.separator) it.bytes.now ≡ it.bytes.now ∷ [] → length (elements_left after) ≡ length (elements_left it) - 1
unfolding elements_left
last_fewer it after goes_on over is = rw (goes_on, over, is) refl

pub none_over : (it : Remaining) → it.ended ≡ true → length (elements_left it) ≡ 0
unfolding elements_left
none_over it ended = rw ended refl
