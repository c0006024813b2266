-- Why the hub refuses a deposit: a table, whose first row that holds counts.
use Rattle.x12_numbers.specs.declared.book.TheConstants.{MAX_CONTROL_NUMBER}
use Rattle.std.specs.Prelude.{◌≡◌, ◌+◌, [], ◌∷◌, Bool, ◌&&◌, not, nat_le, Option, None, IsSome}
use Rattle.std.specs.Prelude.{is_none}
use Rattle.x12_envelopes.specs.declared.moment.Moment.{Moment}
use Rattle.x12_envelopes.specs.Row.{first_of_rows}
use Rattle.x12_profile.specs.Interchange.{Bytes}
use Rattle.x12_profile.specs.Profile.{Profile}
use Rattle.x12_hub.specs.Hub.{Hub, decided, deposit, mailbox_of}

-- what the hub says where it refuses
pub data HubRefusal : Type 0 where
  -- B1: bytes without a header
  Unreadable : HubRefusal
  -- B2: no item number, or no interchange number, is left
  Exhausted : HubRefusal

-- whether the hub decides on these bytes for the first time
abbrev pub is_first_deposit : Hub → Bytes → Bool
is_first_deposit h b = is_none (decided h.decisions b)

module _ (p : Profile) where
  -- whether it would refuse them with a TA1
  abbrev pub is_unroutable : Hub → Bytes → Bool
  is_unroutable h b =
      is_first_deposit h b && is_none (mailbox_of h.directory (p.receiver b))

  -- deposited bytes
  abbrev pub deposit_refusal : Hub → Bytes → Option HubRefusal
  deposit_refusal h b = first_of_rows (
      (not (p.has_header b), Unreadable)
      ∷ (is_first_deposit h b && not (nat_le (h.item + 1) MAX_CONTROL_NUMBER), Exhausted)
      ∷ (is_unroutable h b && not (nat_le (h.icn + 1) MAX_CONTROL_NUMBER), Exhausted)
      ∷ [])

-- the table is empty exactly where a deposit is a step of the hub
pub record RefusesByTable : Type 0 where
  pub taken :
      (p : Profile) (h : Hub) (at : Moment) (b : Bytes) →
      deposit_refusal p h b ≡ None → IsSome (deposit p h at b)
  pub refused :
      (p : Profile) (h : Hub) (at : Moment) (b : Bytes) →
      IsSome (deposit_refusal p h b) → deposit p h at b ≡ None
