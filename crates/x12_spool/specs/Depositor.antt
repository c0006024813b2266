-- What may come from a depositor, and what a hub sends back to it. A party deposits in its own name alone; another hub passes on
-- what others sent.
use Rattle.std.specs.Prelude.{◌≡◌, ◌⊎◌, ◌∷◌, [], Bool, List, Ok, false, if◌then◌else◌, not, true}
use Rattle.x12_envelopes.specs.declared.header.Header.{Header}
use Rattle.x12_envelopes.specs.declared.party.Party.{Party}
use Rattle.x12_envelopes.specs.Header.{header_of}
use Rattle.x12_hub.specs.Hub.{HubOutcome, Boxed, Refused}
use Rattle.x12_judge.specs.Agreement.{is_same_party}
use Rattle.x12_profile.specs.Interchange.{Bytes}
use Rattle.x12_profile.specs.Reading.{by_header}
use Rattle.x12_spool.specs.declared.depositor.Depositor.{Depositor}
use Rattle.x12_spool.specs.declared.depositor.Depositor.TheVariants as depositor
use Rattle.x12_spool.specs.declared.node.Reason.{Reason}
use Rattle.x12_spool.specs.declared.node.Reason.TheVariants.{AnotherSender}
use Rattle.x12_spool.specs.StationTurn.{IsUnreadable}

-- bytes whose header names this party as sender
abbrev pub IsOf : Party → Bytes → Type 0
IsOf party b = (header : Header) × (header_of b ≡ Ok header) × (is_same_party header.sender party ≡ true)

-- bytes whose header names another sender
pub record NamesAnother (party : Party) (b : Bytes) (reason : Reason) : Type 0 where
  pub header : Header
  pub read : header_of b ≡ Ok header
  pub other : is_same_party header.sender party ≡ false
  pub reason_is : reason ≡ AnotherSender

-- bytes that this depositor may put: a party what names it as sender, another hub whatever has a header
abbrev pub MayDeposit : Depositor → Bytes → Type 0
MayDeposit (depositor.Party party) b = IsOf party b
MayDeposit (depositor.Hub hub) b = (header : Header) × (header_of b ≡ Ok header)

-- bytes that it may not put
abbrev pub IsForeign : Depositor → Bytes → Reason → Type 0
IsForeign (depositor.Party party) b reason = IsUnreadable b reason ⊎ NamesAnother party b reason
IsForeign (depositor.Hub hub) b reason = IsUnreadable b reason

-- whether this depositor waits to hear that bytes are refused: another hub doesn't, of what it wrote itself
abbrev pub waits_to_hear : Depositor → Bytes → Bool
waits_to_hear (depositor.Party party) b = true
waits_to_hear (depositor.Hub hub) b = by_header true (λ h. not (is_same_party h.sender hub)) b

-- what a hub sends back of a deposit: its refusal, where the depositor waits to hear of one
abbrev pub sent_back : Depositor → Bytes → HubOutcome → List Bytes
sent_back from b (Boxed node item) = []
sent_back from b (Refused reply) = if waits_to_hear from b then reply ∷ [] else []
