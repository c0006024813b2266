-- A file that a sender submitted: who it is, and what answers close in its ledger.
use Rattle.std.specs.Prelude.{◌≡◌, ℕ, Bool, List, [], ◌∷◌, Option, Some, None, Result, Ok, Err}
use Rattle.x12_numbers.specs.Book.{new_book}
use Rattle.x12_envelopes.specs.declared.header.Header.{Header}
use Rattle.x12_envelopes.specs.declared.header.HeaderFault.{HeaderFault}
use Rattle.x12_envelopes.specs.declared.party.Party.{Party}
use Rattle.x12_envelopes.specs.Header.{header_of}
use Rattle.x12_envelopes.specs.Transmission.{AreSlices}
use Rattle.x12_sent.specs.declared.sent.SentFile.{SentFile}
use Rattle.x12_sent.specs.Sender.{all_submitted}
use Rattle.x12_sent.specs.Closing.{SentLedgers}

-- the sender of the first of these interchanges whose header can be read
abbrev pub sender_by : Result Header HeaderFault → Option Party → Option Party
sender_by (Ok h) behind = Some h.sender
sender_by (Err fault) behind = behind

abbrev pub first_sender_of : List (List ℕ) → Option Party
first_sender_of [] = None
first_sender_of (bytes ∷ more) = sender_by (header_of bytes) (first_sender_of more)

-- a file that was sent is read: all is right exactly where its sender, who used no number yet, may
-- submit each of its interchanges in turn
pub record IsSent (input : List ℕ) (right : Bool) : Type 0 where
  pub interchanges : List (List ℕ)
  pub cut : AreSlices interchanges input
  pub me : Party
  pub sender : (party : Party) → first_sender_of interchanges ≡ Some party → me ≡ party
  pub allowed : right ≡ all_submitted me new_book interchanges

-- the sender of a file, and its ledgers
abbrev pub file_sender : SentFile → Party
file_sender s = s.me

abbrev pub file_ledgers : SentFile → SentLedgers
file_ledgers s = s.ledgers
