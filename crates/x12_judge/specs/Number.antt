-- The control numbers of a functional group's transaction sets that were seen.
use Rattle.std.specs.Prelude.{◌≡◌, ◌<◌, ℕ, ◌-◌, Bool, false, List, ◌∷◌, ◌++◌, length, replicate}
use Rattle.std.specs.Prelude.{reverse, take, get_or, bytes_eq}
use Rattle.std.specs.List.{list_any}
use Rattle.std.specs.Ordering.{nat_cmp}
use Rattle.std.specs.Cmp.Lexicographic.{slice_cmp}
use Rattle.std.specs.BTreeSet.{contains}
use Rattle.x12_envelopes.specs.declared.shape.SetView.{SetView}
use Rattle.x12_envelopes.specs.Shape.{bytes_of_set_no}
use Rattle.x12_judge.specs.declared.number.Numbers.{Numbers}

-- the length of a control number of at most nine bytes, then its bytes from the last to the first,
-- filled up with zero bytes
unfoldable pub key_of_number : List ℕ → List ℕ
key_of_number number = length number ∷ reverse number ++ replicate (9 - length number) 0

-- a control number was seen
abbrev pub has_seen : Numbers → List ℕ → Bool
has_seen numbers number = contains (slice_cmp nat_cmp) numbers.seen (key_of_number number)

-- a transaction set's control number
abbrev pub number_of_set : SetView → List ℕ
number_of_set set = bytes_of_set_no set.number

-- no number stands among those before it
abbrev pub AllDiffer : List (List ℕ) → Type 0
AllDiffer numbers =
    (i : ℕ) (number : List ℕ) → i < length numbers → number ≡ get_or numbers i number
    → list_any (λ earlier. bytes_eq earlier number) (take i numbers) ≡ false
