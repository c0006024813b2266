-- Scripts: the names in their lines, and what is written where a line is bad.
use Rattle.std.specs.Prelude.{◌≡◌, ℕ, List, [], ◌∷◌, ◌++◌, Option, None, codes, decimal, if◌then◌else◌}
use Rattle.std.specs.Io.KnownBytes.{Appends}
use Rattle.x12_envelopes.specs.declared.party.Party.{Party}
use Rattle.x12_envelopes.specs.Party.{party_of}
use Rattle.x12_answering.specs.Words.{bytes_are_capitals_or_digits, plain_party}

-- the plain party that a name of capital letters and digits means: its qualifier is ZZ
unfoldable pub party_in_word : List ℕ → Option Party
party_in_word word =
    if bytes_are_capitals_or_digits word then plain_party (party_of (codes "ZZ") word) else None

-- some bytes are appended to what a writer held
pub record Grows (old new : Option (List ℕ)) : Type 0 where
  pub bytes : List ℕ
  pub appended : Appends old new bytes

-- the front of what is said of a line, by its number
abbrev pub line_front : ℕ → List ℕ
line_front number = codes "line " ++ decimal number ++ codes ": "

-- that a line is bad
abbrev pub bad_line : ℕ → List ℕ
bad_line number = line_front number ++ codes "bad line" ++ 10 ∷ []

-- words on a line, ended by LF
pub record AreWords (text : List ℕ) (number : ℕ) : Type 0 where
  pub words : List ℕ
  pub are : text ≡ line_front number ++ words ++ 10 ∷ []

-- words on a line are appended to what a writer held
pub record Explains (old new : Option (List ℕ)) (number : ℕ) : Type 0 where
  pub text : List ℕ
  pub words : AreWords text number
  pub appended : Appends old new text

-- The run ends at a bad line: one writer holds that it is bad, behind all that was printed, and
-- another what is wrong with it.
pub record EndsAtBadLine (out new_out err new_err : Option (List ℕ)) : Type 0 where
  pub number : ℕ
  pub printed : List ℕ
  pub told : Appends out new_out (printed ++ bad_line number)
  pub explained : Explains err new_err number
