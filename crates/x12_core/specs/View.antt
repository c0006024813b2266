-- What the code's packets and asks stand for.
use Rattle.std.specs.Prelude.{map}
use Rattle.x12_acks.specs.Key.{key_view}
use Rattle.x12_core.specs.Action.{Action, Orders, Prepared, Tick, Collect, Agree, Enrol, Dismiss}
use Rattle.x12_core.specs.Action.{Restart}
use Rattle.x12_core.specs.Ask.{Ask, Do, Comes, Outside, Fate}
use Rattle.x12_core.specs.declared.action.Action.{Action as CodeAction}
use Rattle.x12_core.specs.declared.action.Action.TheVariants as action
use Rattle.x12_core.specs.declared.ask.Ask.{Ask as CodeAsk}
use Rattle.x12_core.specs.declared.ask.Ask.TheVariants as asked
use Rattle.x12_core.specs.declared.ask.AskRef.{AskRef}
use Rattle.x12_core.specs.declared.ask.AskRef.TheVariants as ref
use Rattle.x12_judge.specs.Agreement.{agreement_view}
use Rattle.x12_station.specs.Ordering.{order_view}
use Rattle.x12_station.specs.Outgoing.{outgoing_bytes}
use Rattle.x12_core.specs.declared.packet.Packet.{Packet as CodePacket}
use Rattle.x12_core.specs.declared.packet.PacketName.{PacketName as CodeName}
use Rattle.x12_core.specs.declared.packet.Load.{Load as CodeLoad}
use Rattle.x12_core.specs.declared.packet.Load.TheVariants as code
use Rattle.x12_core.specs.declared.packet.Kind.{Kind as CodeKind}
use Rattle.x12_core.specs.declared.packet.Kind.TheVariants as kind
use Rattle.x12_core.specs.Packet.{Packet, PacketName, Load, Deposit, Item, Refusal, Taken}
use Rattle.x12_core.specs.Packet.{Kind, IsDeposit, IsItem, IsRefusal, IsTaken}

abbrev pub name_view : CodeName → PacketName
name_view n = record { event = n.event; place = n.place }

abbrev pub load_view : CodeLoad → Load
load_view (code.Deposit d) = Deposit (outgoing_bytes d)
load_view (code.Item item b) = Item item b.items
load_view (code.Refusal b) = Refusal b.items
load_view (code.Taken item) = Taken item

abbrev pub packet_view : CodePacket → Packet
packet_view q = record { from = q.from; to = q.to; load = load_view q.load }

abbrev pub kind_view : CodeKind → Kind
kind_view kind.Deposit = IsDeposit
kind_view (kind.Item item) = IsItem item
kind_view kind.Refusal = IsRefusal
kind_view (kind.Taken item) = IsTaken item

abbrev pub action_view : CodeAction → Action
action_view (action.SubmitOrders to at orders) = Orders to at (map order_view orders.items)
action_view (action.SubmitPrepared bytes) = Prepared bytes.items
action_view (action.Tick now) = Tick now
action_view (action.Collect node) = Collect node
action_view (action.Agree agreement) = Agree (agreement_view agreement)
action_view (action.Enrol party node) = Enrol party node
action_view (action.Dismiss party) = Dismiss party
action_view action.Restart = Restart

abbrev pub ask_view : CodeAsk → Ask
ask_view (asked.Do a) = Do (action_view a)
ask_view (asked.Deliver packet from load at) = Comes (name_view packet) from (load_view load) at
ask_view (asked.Outside bytes at) = Outside bytes.items at
ask_view (asked.Fate key) = Fate (key_view key)

-- the same, borrowed
abbrev pub ref_view : AskRef → Ask
ref_view (ref.Do a) = Do (action_view a.now)
ref_view (ref.Deliver packet from load at) = Comes (name_view packet) from (load_view load.now) at
ref_view (ref.Outside bytes at) = Outside bytes.now at
