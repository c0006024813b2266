-- The control number book of a station: the last interchange control number (X12.5, ISA13) and the
-- last group control number (X12.6, GS06) that it used.
use Rattle.std.specs.Prelude.{ℕ, ◌≡◌, ◌+◌, Bool, true, ◌&&◌, nat_lt, nat_le, List, [], ◌∷◌, IsTrue}
use Rattle.x12_numbers.specs.declared.book.TheConstants.{MAX_CONTROL_NUMBER}

-- the last numbers used, of interchanges and of groups; 0 where none was
pub record Numbers : Type 0 where
  pub interchange : ℕ
  pub group : ℕ

-- the book in which no number was used
abbrev pub new_book : Numbers
new_book = record { interchange = 0; group = 0 }

-- fewer than count numbers are left above last
abbrev pub is_exhausted : ℕ → ℕ → Bool
is_exhausted last count = nat_lt MAX_CONTROL_NUMBER (last + count)

-- each number is above the one before it, the first above last, and none is above the greatest
abbrev pub is_rising : ℕ → List ℕ → Bool
is_rising last [] = true
is_rising last (n ∷ ns) = nat_lt last n && nat_le n MAX_CONTROL_NUMBER && is_rising n ns

-- the last of the numbers, or last where there is none
abbrev pub latest_number : ℕ → List ℕ → ℕ
latest_number last [] = last
latest_number last (n ∷ ns) = latest_number n ns

-- the numbers of interchanges and of groups rise above the book's last ones
abbrev pub are_new : Numbers → List ℕ → List ℕ → Bool
are_new book interchanges groups =
    is_rising book.interchange interchanges && is_rising book.group groups

-- the book after these numbers: the last of each kind are its last ones
abbrev pub book_after : Numbers → List ℕ → List ℕ → Numbers
book_after book interchanges groups = record {
  interchange = latest_number book.interchange interchanges;
  group = latest_number book.group groups;
}

-- these numbers were new to the old book, and the new one is the old one after them
pub record Uses (old new : Numbers) (interchanges groups : List ℕ) : Type 0 where
  pub numbers : IsTrue (are_new old interchanges groups)
  pub book : new ≡ book_after old interchanges groups
