-- What goes over the links. A packet that was sent once may be delivered any number of times, in
-- any order; one that is lost is one that nobody delivers.
use Rattle.std.specs.Prelude.{ℕ, Option, Some, None}
use Rattle.x12_profile.specs.Interchange.{Bytes}

-- what a packet carries
pub data Load : Type 0 where
  -- an interchange for a hub
  Deposit : Bytes → Load
  -- an item of a mailbox, and its bytes
  Item : ℕ → Bytes → Load
  -- a hub's refusal of a deposit
  Refusal : Bytes → Load
  -- the item came
  Taken : ℕ → Load

-- the interchange that a load carries
abbrev pub carried : Load → Option Bytes
carried (Deposit b) = Some b
carried (Item item b) = Some b
carried (Refusal b) = Some b
carried (Taken item) = None

-- a packet knows its sending node
pub record Packet : Type 0 where
  pub from : ℕ
  pub to : ℕ
  pub load : Load

-- the event that sent the packet, from 1, and its place among what that event sent, from 1
pub record PacketName : Type 0 where
  pub event : ℕ
  pub place : ℕ

-- what a packet carries, without the bytes
pub data Kind : Type 0 where
  IsDeposit : Kind
  -- an item of a mailbox, with its number
  IsItem : ℕ → Kind
  IsRefusal : Kind
  -- that the item with this number came
  IsTaken : ℕ → Kind

-- the kind of a load
abbrev pub kind_of_load : Load → Kind
kind_of_load (Deposit b) = IsDeposit
kind_of_load (Item item b) = IsItem item
kind_of_load (Refusal b) = IsRefusal
kind_of_load (Taken item) = IsTaken item
