-- Letters and digits, as the bytes that they are.
use Rattle.std.specs.Prelude.{ℕ, Bool, false, ◌||◌, ◌==◌, List, [], ◌∷◌, codes}

-- the byte of a text of one letter
abbrev pub letter : List ℕ → ℕ
letter [] = 0
letter (b ∷ bytes) = b

-- a space
abbrev pub space : ℕ
space = letter (codes " ")

-- the digit zero
abbrev pub zero_digit : ℕ
zero_digit = letter (codes "0")

-- a byte is one of these letters
abbrev pub is_one_of : List ℕ → ℕ → Bool
is_one_of [] b = false
is_one_of (c ∷ letters) b = b == c || is_one_of letters b
