-- What a core did, as an entry of its node's log.
use Rattle.std.specs.Prelude.{◌≡◌, ◌≤◌, ◌+◌, ℕ, List, [], length, Vec, vec_len, vec_capacity}
use Rattle.std.specs.Global.{Global}
use Rattle.x12_core.specs.Ask.{Ask}
use Rattle.x12_core.specs.declared.node_core.Answer.{Answer}
use Rattle.x12_core.specs.declared.node_core.Answer.TheVariants as core
use Rattle.x12_core.specs.Packet.{Packet}
use Rattle.x12_core.specs.Sends.{sends_view}
use Rattle.x12_nodes.specs.Log.{LogEntry, NodeAnswer, FateIs, answer_to_sends}

-- the packets that it sends
abbrev pub sends_of_core : Answer → List Packet
sends_of_core (core.Sent sends) = sends_view sends
sends_of_core (core.Fate fate) = []

-- what its node answers
abbrev pub answer_of_core : Ask → Answer → NodeAnswer
answer_of_core ask (core.Sent sends) = answer_to_sends ask (sends_view sends)
answer_of_core ask (core.Fate fate) = FateIs fate

-- the entry
abbrev pub entry_of : ℕ → Ask → Answer → LogEntry
entry_of stamp ask did = record {
  stamp = stamp;
  ask = ask;
  answer = answer_of_core ask did;
  packets = sends_of_core did;
}

-- so many are enough for what it sends
abbrev pub IsEnoughFor : ℕ → Answer → Type 0
IsEnoughFor count did = length (sends_of_core did) ≤ count

-- nothing stands there yet, and there is room for so many
abbrev pub HasRoomFor : {X : Type 0} → ℕ → Vec X Global → Type 0
HasRoomFor count v = (v.items ≡ []) × (count + vec_len v ≤ vec_capacity v)
