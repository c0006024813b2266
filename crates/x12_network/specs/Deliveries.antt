-- What the receipts of a node tell of packets that were delivered to it.
use Rattle.std.specs.Prelude.{◌==◌, ◌≡◌, ◌++◌, ◌∷◌, [], if◌then◌else◌, Bool, IsTrue, List, None, Option, Result, Ok, Err, Some, false, true, ℕ}
use Rattle.x12_core.specs.declared.packet.PacketName.{PacketName as CodeName}
use Rattle.x12_core.specs.Ask.{Ask, Do, Comes, Outside, Fate}
use Rattle.x12_core.specs.Packet.{PacketName}
use Rattle.x12_core.specs.View.{name_view}
use Rattle.x12_links.specs.declared.course.Halt.{Halt}
use Rattle.x12_links.specs.declared.worker.Delivery.{Delivery}
use Rattle.x12_links.specs.declared.worker.Delivery.TheVariants.{Made, Refused}
use Rattle.x12_nodes.specs.Log.{NodeAnswer}
use Rattle.x12_nodes.specs.View.{Receipt}
use Rattle.x12_nodes.specs.Wire.{name_is_above}

-- the name behind which a link reads on
abbrev pub name_behind : Option CodeName → PacketName
name_behind None = record { event = 0; place = 0 }
name_behind (Some name) = name_view name

-- a packet's name is above that of the one in front of it
abbrev pub IsBehind : Option CodeName → CodeName → Type 0
IsBehind after name = IsTrue (name_is_above (name_behind after) (name_view name))

-- whether a node was asked to take a packet of another node
abbrev pub is_delivery : Ask → Bool
is_delivery (Do a) = false
is_delivery (Comes name from load at) = true
is_delivery (Outside b at) = false
is_delivery (Fate k) = false

-- the packet that a node was asked to take, where it is one of this sender's
abbrev pub packet_taken_from : ℕ → Ask → List CodeName
packet_taken_from sender (Comes name from load at) =
    if from == sender then record { event = name.event; place = name.place } ∷ [] else []
packet_taken_from sender (Do a) = []
packet_taken_from sender (Outside b at) = []
packet_taken_from sender (Fate k) = []

-- the packets of a sender that were delivered to a node, as its receipts tell them, in their order
abbrev pub delivered_from : ℕ → List Receipt → List CodeName
delivered_from sender [] = []
delivered_from sender (r ∷ receipts) = packet_taken_from sender r.ask ++ delivered_from sender receipts

-- what a call left of its caller's receipts: one more where the node took it
abbrev pub IsCalled : ℕ → Ask → Result Delivery Halt → List Receipt → List Receipt → Type 0
IsCalled node ask (Ok Made) old new = (stamp : ℕ) × (answer : NodeAnswer)
    × (new ≡ old ++ record { node = node; stamp = stamp; ask = ask; answer = answer } ∷ [])
IsCalled node ask (Ok Refused) old new = new ≡ old
IsCalled node ask (Err halt) old new = new ≡ old

-- a gate let a call of a node pass
pub record WasCalled {G : Type 0} (lets : G → ℕ → ℕ → Bool → Type 0) : Type 0 where
  pub gate : G
  pub node : ℕ
  pub call : ℕ
  pub passed : lets gate node call true

-- who refused a packet is a node that was called
abbrev pub IsAnswer : {G : Type 0} → (G → ℕ → ℕ → Bool → Type 0) → Delivery → Type 0
IsAnswer lets Made = Unit {0}
IsAnswer lets Refused = WasCalled lets

-- receipts may have come, but none of a delivery
pub record DeliverNothing (old new : List Receipt) : Type 0 where
  pub same : (from : ℕ) → delivered_from from new ≡ delivered_from from old
