-- The three delimiters of an interchange (X12.6).
use Rattle.std.specs.Prelude.{ℕ, Bool, ◌&&◌, ◌||◌, not, ◌==◌, nat_lt}
use Rattle.std.specs.Char.{is_ascii_alphanumeric}
use Rattle.x12_envelopes.specs.Letter.{space}
use Rattle.x12_envelopes.specs.declared.delimiters.Delims.{Delims}
use Rattle.x12_envelopes.specs.Byte.{byte_is_line_end}

-- one of the three delimiters
abbrev pub byte_is_delimiter : Delims → ℕ → Bool
byte_is_delimiter d b = b == d.element || b == d.component || b == d.terminator

-- a control byte: below 0x20 and no delimiter
abbrev pub is_control : Delims → ℕ → Bool
is_control d b = nat_lt b 32 && not (byte_is_delimiter d b)

-- a byte that can't delimit: a letter, a digit or a space
abbrev pub byte_is_text : ℕ → Bool
byte_is_text b = is_ascii_alphanumeric b || b == space

-- three bytes that can delimit: none is text, no two are equal, and no separator is a line end
unfoldable pub bytes_are_delimiters : Delims → Bool
bytes_are_delimiters d =
    not (byte_is_text d.element) && not (byte_is_text d.component)
    && not (byte_is_text d.terminator)
    && not (d.element == d.component) && not (d.element == d.terminator)
    && not (d.component == d.terminator)
    && not (byte_is_line_end d.element) && not (byte_is_line_end d.component)
