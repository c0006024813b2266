-- Segments of data that their first byte tells.
use Rattle.std.specs.Prelude.{◌≡◌, ◌+◌, ℕ, Bool, false, not, ◌&&◌, ◌==◌, List, [], ◌∷◌, length, codes, nat_lt}
use Rattle.std.specs.Char.{is_ascii_uppercase}
use Rattle.std.specs.List.{list_any}
use Rattle.x12_envelopes.specs.Letter.{is_one_of}
use Rattle.x12_envelopes.specs.declared.delimiters.Delims.{Delims}
use Rattle.x12_envelopes.specs.declared.source.Source.{Source}
use Rattle.x12_envelopes.specs.declared.content.Kind.TheVariants.{Data}
use Rattle.x12_envelopes.specs.Content.{kind_of_segment}
use Rattle.x12_envelopes.specs.Reading.{IsNext}

-- a capital letter with which no identifier of a control segment begins
abbrev pub letter_begins_data : ℕ → Bool
letter_begins_data b = is_ascii_uppercase b && not (is_one_of (codes "GIST") b)

-- bytes that begin with such a letter, which is no delimiter
abbrev pub bytes_begin_data : Delims → List ℕ → Bool
bytes_begin_data d [] = false
bytes_begin_data d (b ∷ bytes) =
    letter_begins_data b && not (b == d.element) && not (b == d.terminator)

-- the segment that stands next, from a place on, is one of data without a byte below 0x20, and ends
-- in front of that end
pub record IsNextData (s : Source) (at end : ℕ) : Type 0 where
  pub place : ℕ
  pub bytes : List ℕ
  pub next : IsNext s.delims s.input.now at (record { at = place; bytes = bytes })
  pub kind : kind_of_segment s.delims bytes ≡ Data
  pub plain : list_any (λ b. nat_lt b 32) bytes ≡ false
  pub ends : end ≡ place + length bytes + 1
