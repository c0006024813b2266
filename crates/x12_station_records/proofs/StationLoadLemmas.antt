-- What a station loads, put together.
use Rattle.std.proofs.Common.{◌≡◌, ℕ, List, refl}
use Rattle.x12_judge.specs.Agreement.{TradingAgreement}
use Rattle.x12_numbers.specs.Book.{Numbers}
use Rattle.x12_outbound.specs.Entry.{InterchangeRow}
use Rattle.x12_profile.specs.Edition.{Marks}
use Rattle.x12_station.specs.Record.{Loaded, loaded_of}
use Rattle.x12_station.specs.Stored.{Stored, marks_of, open_entries}

pub loads : (s : Stored) (marks : Marks) (book : Numbers) (seq : ℕ) (agreements : List TradingAgreement) (es : List InterchangeRow) → marks ≡ marks_of s.origin → book ≡ s.book → seq ≡ s.seq → agreements ≡ s.agreements → es ≡ open_entries s
    → ◌≡◌ {A = Loaded} (record { marks = marks; book = book; seq = seq; agreements = agreements; entries = es }) (loaded_of s)
loads s marks book seq agreements es m a b c d = rw (m, a, b, c, d) refl
