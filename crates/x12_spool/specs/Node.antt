-- What a node does with an interchange, and what it has to put by itself.
use Rattle.std.specs.Prelude.{List, None, Option, Some, option_map, option_to_list, ℕ}
use Rattle.x12_profile.specs.Interchange.{Bytes}
use Rattle.x12_station.specs.Outgoing.{outgoing_bytes}
use Rattle.x12_spool.specs.declared.node.Answer.{Answer}
use Rattle.x12_spool.specs.declared.node.Answer.TheVariants.{Sends, Refused}
use Rattle.x12_spool.specs.declared.node.Offer.{Offer}
use Rattle.x12_spool.specs.declared.node.Reason.{Reason}

module _ {N : Type 0} (takes : N → N → Bytes → List Bytes → Type 0) (refuses : N → N → Bytes → Reason → Type 0) (stays : N → N → Type 0) where
  -- what a node says of bytes, and what it did
  abbrev pub IsAnsweredBy : N → N → Bytes → Answer → Type 0
  IsAnsweredBy old new b (Sends reply) = takes old new b (option_to_list (option_map outgoing_bytes reply))
  IsAnsweredBy old new b (Refused reason) = stays old new × refuses old new b reason

-- what a node has to put: the number of an item, where it is one, and the interchange
pub record Offered : Type 0 where
  pub item : Option ℕ
  pub bytes : Bytes

abbrev pub offer_view : Offer → Offered
offer_view o = record { item = o.item; bytes = outgoing_bytes o.bytes }

-- an interchange that is put as what is sent
abbrev pub plain_offer : Bytes → Offered
plain_offer b = record { item = None; bytes = b }

-- an item that is put under its number
abbrev pub item_offer : ℕ × Bytes → Offered
item_offer i = record { item = Some i.0; bytes = i.1 }
