-- The log of a node: each call that it took, with its answer, and what the calls make of the node.
use Rattle.std.specs.Prelude.{◌≡◌, ◌<◌, ◌-◌, ◌^◌, ℕ, List, [], ◌∷◌, Bool, false, Option, Some, None, map, if◌then◌else◌, option_map}
use Rattle.x12_core.specs.declared.packet.Site.{Site}
use Rattle.x12_core.specs.Action.{submits}
use Rattle.x12_core.specs.Ask.{Ask, Do, does_at, fate_told}
use Rattle.x12_core.specs.Node.{Node}
use Rattle.x12_core.specs.Packet.{Packet, Kind, carried, kind_of_load}
use Rattle.x12_outbound.specs.declared.fate.Fate.{Fate as SetFate}
use Rattle.x12_profile.specs.X12.{x12}

-- what a node answers: of an event the number of what was submitted, and the receiver and the kind
-- of each packet that it sent; or the fate that was asked for
pub data NodeAnswer : Type 0 where
  Sent : Option ℕ → List (ℕ × Kind) → NodeAnswer
  FateIs : Option SetFate → NodeAnswer

-- a call that a node took
pub record LogEntry : Type 0 where
  pub stamp : ℕ
  pub ask : Ask
  pub answer : NodeAnswer
  pub packets : List Packet

-- whether it asks a station to submit
abbrev pub is_submission_asked : Ask → Bool
is_submission_asked (Do a) = submits a
is_submission_asked ask = false

-- the number (ISA13) of the interchange in the first packet, if that carries one
abbrev pub number_in_first : List Packet → Option ℕ
number_in_first [] = None
number_in_first (q ∷ qs) = option_map x12.number (carried q.load)

-- the number (ISA13) of what was submitted, by what was sent; of no other event
abbrev pub number_submitted : Ask → List Packet → Option ℕ
number_submitted ask sends = if is_submission_asked ask then number_in_first sends else None

-- the receiver and the kind of each packet
abbrev pub told_of_packets : List Packet → List (ℕ × Kind)
told_of_packets sends = map (λ q. (q.to, kind_of_load q.load)) sends

-- what is answered where these packets were sent
abbrev pub answer_to_sends : Ask → List Packet → NodeAnswer
answer_to_sends ask sends = Sent (number_submitted ask sends) (told_of_packets sends)

-- the node of this site was asked so, sent these packets and answered so: it did as it was asked,
-- and the answer tells what it sent; or it told a fate, and stayed as it was
abbrev pub AnswersSo : Site → Ask → List Packet → NodeAnswer → (old new : Node) → Type 0
AnswersSo i ask sends (Sent number told) old new =
    (does_at x12 i ask old ≡ Some (record { node = new; sends = sends }))
    × (Sent number told ≡ answer_to_sends ask sends)
AnswersSo i ask sends (FateIs fate) old new =
    (fate_told x12 ask old ≡ Some fate) × (sends ≡ []) × (new ≡ old)

-- the entry made the first node the second
abbrev pub IsStepOf : Site → LogEntry → (old new : Node) → Type 0
IsStepOf i e old new = AnswersSo i e.ask e.packets e.answer old new

-- the entries, one after the other, made the first node the second
abbrev pub Replays : Site → Node → List LogEntry → Node → Type 0
Replays i old [] new = new ≡ old
Replays i old (e ∷ es) new = (mid : Node) × IsStepOf i e old mid × Replays i mid es new

-- stamps rise, from above this one, and none is the greatest of 64 bits
abbrev pub StampsRise : ℕ → List LogEntry → Type 0
StampsRise s [] = Unit {0}
StampsRise s (e ∷ es) = (s < e.stamp) × (e.stamp < 2 ^ 64 - 1) × StampsRise e.stamp es

-- the last stamp, or this one where there is none
abbrev pub last_stamp : ℕ → List LogEntry → ℕ
last_stamp s [] = s
last_stamp s (e ∷ es) = last_stamp e.stamp es
