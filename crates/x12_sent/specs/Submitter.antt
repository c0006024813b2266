-- The ledgers of a sender while a file is read.
use Rattle.std.specs.Prelude.{◌≡◌, ◌≤◌, false, All}
use Rattle.std.specs.List.{AllByRecursion}
use Rattle.x12_numbers.specs.Book.{Numbers}
use Rattle.x12_outbound.specs.Ledger.{OutboundLedger, LedgerRow, ledger_submissions}
use Rattle.x12_sent.specs.declared.sender.Sender.{Sender}
use Rattle.x12_sent.specs.declared.submitter.Submitter.{Submitter}

-- no set of an interchange is out
abbrev pub NoneIsOutIn : LedgerRow → Type 0
NoneIsOutIn r =
    AllByRecursion (λ g. AllByRecursion (λ s. s.is_out ≡ false) g.sets) r.interchange.groups

-- a ledger that holds no number above the last ones used, and of which no set is out
pub record IsWithin (book : Numbers) (v : OutboundLedger) : Type 0 where
  pub interchanges : All (λ s. s.icn ≤ book.interchange) (ledger_submissions v)
  pub groups : All (λ s. All (λ g. g.number ≤ book.group) s.groups) (ledger_submissions v)
  pub none_out : AllByRecursion NoneIsOutIn v.rows

-- a ledger of this sender, which uses no number twice
abbrev pub KeepsLedger : Sender → OutboundLedger → Type 0
KeepsLedger s v = IsWithin s.book v × (v.me ≡ s.me)

-- a sender that keeps its two ledgers, while a file is read
abbrev pub KeepBoth : Submitter → Type 0
KeepBoth s = KeepsLedger s.sender s.whole.holds × KeepsLedger s.sender s.left.holds
