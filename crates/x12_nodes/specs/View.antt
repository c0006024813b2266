-- What the code's answers, entries and receipts stand for.
use Rattle.std.specs.Prelude.{ℕ, List, [], map}
use Rattle.x12_core.specs.declared.packet.Kind.{Kind as CodeKind}
use Rattle.x12_core.specs.Ask.{Ask}
use Rattle.x12_core.specs.Packet.{Packet, Kind}
use Rattle.x12_core.specs.View.{ask_view, kind_view, packet_view}
use Rattle.x12_nodes.specs.declared.log.Answer.{Answer}
use Rattle.x12_nodes.specs.declared.log.Answer.TheVariants as answer
use Rattle.x12_nodes.specs.declared.log.Kept.{Kept}
use Rattle.x12_nodes.specs.declared.log.Kept.TheVariants as kept
use Rattle.x12_nodes.specs.declared.log.LogEntry.{LogEntry as CodeEntry}
use Rattle.x12_nodes.specs.declared.log.Receipt.{Receipt as CodeReceipt}
use Rattle.x12_nodes.specs.Log.{LogEntry, NodeAnswer, Sent, FateIs, told_of_packets}

-- a call as its caller has it: of which node, under which stamp, what was asked and answered
pub record Receipt : Type 0 where
  pub node : ℕ
  pub stamp : ℕ
  pub ask : Ask
  pub answer : NodeAnswer

-- the receipt of an entry of this node's log
abbrev pub receipt_of : ℕ → LogEntry → Receipt
receipt_of i e = record { node = i; stamp = e.stamp; ask = e.ask; answer = e.answer }

-- a receiver, and the kind of what it gets
abbrev pub told_kind_view : ℕ × CodeKind → ℕ × Kind
told_kind_view p = (p.0, kind_view p.1)

abbrev pub node_answer_view : Answer → NodeAnswer
node_answer_view (answer.Sent icn packets) = Sent icn (map told_kind_view packets.items)
node_answer_view (answer.Fate fate) = FateIs fate

abbrev pub receipt_view : CodeReceipt → Receipt
receipt_view r =
    record { node = r.node; stamp = r.stamp; ask = ask_view r.event; answer = node_answer_view r.answer }

-- the packets that are kept of a call
abbrev pub packets_kept : Kept → List Packet
packets_kept (kept.Sent icn packets) = map packet_view packets.items
packets_kept (kept.Fate fate) = []

-- the answer that what is kept of a call tells
abbrev pub answer_kept : Kept → NodeAnswer
answer_kept (kept.Sent icn packets) = Sent icn (told_of_packets (map packet_view packets.items))
answer_kept (kept.Fate fate) = FateIs fate

abbrev pub log_entry_view : CodeEntry → LogEntry
log_entry_view e = record {
  stamp = e.stamp;
  ask = ask_view e.ask;
  answer = answer_kept e.kept;
  packets = packets_kept e.kept;
}
