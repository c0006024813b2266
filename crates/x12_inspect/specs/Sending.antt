-- Checking a transmission as its sender.
use Rattle.std.specs.Prelude.{ℕ, List}
use Rattle.x12_numbers.specs.Book.{new_book}
use Rattle.x12_envelopes.specs.declared.party.Party.{Party}
use Rattle.x12_sent.specs.Sender.{all_submitted}
use Rattle.x12_inspect.specs.declared.inspecting.Outcome.{Outcome}
use Rattle.x12_inspect.specs.Inspecting.{EndsAs}

-- a transmission is checked as its sender: all is right exactly where a station that used no number
-- yet may submit each of its interchanges in turn
abbrev pub EndsAsCheckedBySender : Party → List ℕ → Outcome → Type 0
EndsAsCheckedBySender me = EndsAs (all_submitted me new_book)
