-- Whether what was asked and answered is the same.
use Rattle.std.specs.Prelude.{◌&&◌, ◌==◌, ℕ, Bool, true, false, bytes_eq}
use Rattle.std.specs.Bool.{beq}
use Rattle.std.specs.Cmp.Lexicographic.{pointwise}
use Rattle.std.specs.Option.{option_eq}
use Rattle.x12_acks.specs.Key.{is_same_key}
use Rattle.x12_core.specs.Action.{Action, Orders, Prepared, Tick, Collect, Agree, Enrol, Dismiss}
use Rattle.x12_core.specs.Action.{Restart}
use Rattle.x12_core.specs.Ask.{Ask, Do, Comes, Outside, Fate}
use Rattle.x12_core.specs.Packet.{PacketName, Kind, IsDeposit, IsItem, IsRefusal, IsTaken}
use Rattle.x12_envelopes.specs.declared.moment.Moment.{Moment}
use Rattle.x12_judge.specs.Agreement.{TradingAgreement, is_same_party}
use Rattle.x12_nodes.specs.Check.{load_is}
use Rattle.x12_nodes.specs.Log.{NodeAnswer, Sent, FateIs}
use Rattle.x12_outbound.specs.declared.fate.Fate.{Fate as SetFate}
use Rattle.x12_outbound.specs.declared.fate.Fate.TheVariants as fate
use Rattle.x12_profile.specs.Interchange.{Order}

-- the same date and time
abbrev pub moment_is : Moment → Moment → Bool
moment_is m n = bytes_eq m.date n.date && bytes_eq m.time n.time

-- the same segments, each of the same elements
abbrev pub order_is : Order → Order → Bool
order_is x y = pointwise (pointwise bytes_eq) x y

-- the same partner and pairs, both lenient or neither
abbrev pub agreement_is : TradingAgreement → TradingAgreement → Bool
agreement_is a b = is_same_party a.partner b.partner && beq a.lenient b.lenient
    && pointwise (λ p q. bytes_eq p.0 q.0 && bytes_eq p.1 q.1) a.pairs b.pairs

abbrev pub name_is : PacketName → PacketName → Bool
name_is m n = m.event == n.event && m.place == n.place

-- the same is done
abbrev pub action_is : Action → Action → Bool
action_is (Orders to at orders) (Orders its when others) =
    is_same_party to its && moment_is at when && pointwise order_is orders others
action_is (Prepared x) (Prepared y) = bytes_eq x y
action_is (Tick now) (Tick when) = now == when
action_is (Collect i) (Collect j) = i == j
action_is (Agree a) (Agree b) = agreement_is a b
action_is (Enrol party i) (Enrol other j) = is_same_party party other && i == j
action_is (Dismiss party) (Dismiss other) = is_same_party party other
action_is Restart Restart = true
action_is a b = false

-- the same is asked
abbrev pub ask_is : Ask → Ask → Bool
ask_is (Do a) (Do b) = action_is a b
ask_is (Comes name from load at) (Comes its sender other when) =
    name_is name its && from == sender && load_is load other && moment_is at when
ask_is (Outside b at) (Outside c when) = bytes_eq b c && moment_is at when
ask_is (Fate k) (Fate j) = is_same_key k j
ask_is ask other = false

abbrev pub kind_is : Kind → Kind → Bool
kind_is IsDeposit IsDeposit = true
kind_is (IsItem i) (IsItem j) = i == j
kind_is IsRefusal IsRefusal = true
kind_is (IsTaken i) (IsTaken j) = i == j
kind_is kind other = false

-- the same receiver and kind
abbrev pub told_is : ℕ × Kind → ℕ × Kind → Bool
told_is t u = t.0 == u.0 && kind_is t.1 u.1

abbrev pub fate_is : SetFate → SetFate → Bool
fate_is fate.Pending fate.Pending = true
fate_is fate.Accepted fate.Accepted = true
fate_is fate.Noted fate.Noted = true
fate_is fate.Rejected fate.Rejected = true
fate_is f g = false

-- the same is answered
abbrev pub answer_is : NodeAnswer → NodeAnswer → Bool
answer_is (Sent number told) (Sent other its) =
    option_eq (λ i j. i == j) number other && pointwise told_is told its
answer_is (FateIs f) (FateIs g) = option_eq fate_is f g
answer_is answer other = false
