-- One receipt more, and what was delivered.
use Rattle.std.proofs.Common.{◌≡◌, ◌∙◌, ◌++◌, ◌∷◌, ◌==◌, ◌≢◌, [], Bool, Err, IfOk, List, Ok, Result, ℕ, ap, append-nil, append_assoc, eqb-true, false, if◌then◌else◌, refl, subst, sym, true}
use Rattle.std.proofs.lemmas.Bool.Decides.{Decides-eqb}
use Rattle.x12_core.specs.declared.packet.PacketName.{PacketName as CodeName}
use Rattle.x12_core.specs.Ask.{Ask, Do, Comes, Outside, Fate}
use Rattle.x12_core.specs.Packet.{Load}
use Rattle.x12_core.specs.View.{name_view}
use Rattle.x12_envelopes.specs.declared.moment.Moment.{Moment}
use Rattle.x12_links.specs.declared.course.Halt.{Halt}
use Rattle.x12_links.specs.declared.worker.Delivery.{Delivery}
use Rattle.x12_links.specs.declared.worker.Delivery.TheVariants.{Made, Refused}
use Rattle.x12_links.specs.Worker.{GetsOneMore, made}
use Rattle.x12_network.specs.Deliveries.{delivered_from, is_delivery, packet_taken_from, DeliverNothing, IsAnswer, IsCalled}
use Rattle.x12_nodes.specs.View.{Receipt}

pub delivered_more : (from : ℕ) (receipts : List Receipt) (r : Receipt) → delivered_from from (receipts ++ r ∷ []) ≡ delivered_from from receipts ++ packet_taken_from from r.ask
delivered_more from [] r = append-nil (packet_taken_from from r.ask)
delivered_more from (x ∷ receipts) r =
    ap (λ l. packet_taken_from from x.ask ++ l) (delivered_more from receipts r)
    ∙ sym (append_assoc (packet_taken_from from x.ask) (delivered_from from receipts) (packet_taken_from from r.ask))

none_if : (b : Bool) (xs : List CodeName) → b ≢ true → (if b then xs else []) ≡ []
none_if true xs isnt = absurd (isnt refl)
none_if false xs isnt = refl

all_if : (b : Bool) (xs : List CodeName) → b ≡ true → (if b then xs else []) ≡ xs
all_if true xs is = refl
all_if false xs is = absurd cc

-- what was delivered is no packet of another node, and one of its sender
other_packet : (sender from : ℕ) (name : CodeName) (load : Load) (at : Moment) → from ≢ sender → packet_taken_from sender (Comes (name_view name) from load at) ≡ []
other_packet sender from name load at apart = none_if (from == sender) (name ∷ []) (λ is. apart (eqb-true from sender is))

own_packet : (from : ℕ) (name : CodeName) (load : Load) (at : Moment) → packet_taken_from from (Comes (name_view name) from load at) ≡ name ∷ []
own_packet from name load at = all_if (from == from) (name ∷ []) ((Decides-eqb from from).1 refl)

no_packet : (sender : ℕ) (ask : Ask) → is_delivery ask ≡ false → packet_taken_from sender ask ≡ []
no_packet sender (Do a) is = refl
no_packet sender (Comes name from load at) is = absurd cc
no_packet sender (Outside b at) is = refl
no_packet sender (Fate k) is = refl

more_from : (from : ℕ) (old new : List Receipt) (r : Receipt) (xs : List CodeName) → new ≡ old ++ r ∷ [] → packet_taken_from from r.ask ≡ xs → delivered_from from new ≡ delivered_from from old ++ xs
more_from from old new r xs more is = ap (delivered_from from) more ∙ delivered_more from old r ∙ ap (λ l. delivered_from from old ++ l) is

unchanged_from : (from : ℕ) (old new : List Receipt) → new ≡ old → delivered_from from new ≡ delivered_from from old ++ []
unchanged_from from old new same = ap (delivered_from from) same ∙ sym (append-nil (delivered_from from old))

-- a call that delivers nothing
pub called_quietly : (node : ℕ) (ask : Ask) (r : Result Delivery Halt) (old new : List Receipt) → is_delivery ask ≡ false → IsCalled node ask r old new → DeliverNothing old new
called_quietly node ask (Ok Made) old new quiet called = record { same = λ from. more_from from old new _ [] called.2 (no_packet from ask quiet) ∙ append-nil (delivered_from from old) }
called_quietly node ask (Ok Refused) old new quiet called = record { same = λ from. ap (delivered_from from) called }
called_quietly node ask (Err halt) old new quiet called = record { same = λ from. ap (delivered_from from) called }

-- receipts that are the same
pub same_quietly : (old new : List Receipt) → new ≡ old → DeliverNothing old new
same_quietly old new same = record { same = λ from. ap (delivered_from from) same }

-- a call that wasn't made
pub refused_call : (node : ℕ) (ask : Ask) (r : Result Delivery Halt) (old new : List Receipt) → r ≢ Ok Made → new ≡ old → IsCalled node ask r old new
refused_call node ask (Ok Made) old new isnt same = absurd (isnt refl)
refused_call node ask (Ok Refused) old new isnt same = same
refused_call node ask (Err halt) old new isnt same = same

-- nothing was called
pub refused_more : (sender : ℕ) (old new : List Receipt) → new ≡ old → GetsOneMore (λ k. delivered_from k old) (λ k. delivered_from k new) sender []
refused_more sender old new same = record { this = unchanged_from sender old new same; others = λ from apart. ap (delivered_from from) same }

-- a delivery of a sender's packet
pub called_for : (node sender : ℕ) (name : CodeName) (load : Load) (at : Moment) (r : Result Delivery Halt) (old new : List Receipt) → IsCalled node (Comes (name_view name) sender load at) r old new
    → GetsOneMore (λ k. delivered_from k old) (λ k. delivered_from k new) sender (made r name)
called_for node sender name load at (Ok Made) old new called = record {
  this = more_from sender old new _ (name ∷ []) called.2 (own_packet sender name load at);
  others = λ from apart. more_from from old new _ [] called.2 (other_packet from sender name load at (λ same. apart (sym same))) ∙ append-nil (delivered_from from old);
}
called_for node sender name load at (Ok Refused) old new called = refused_more sender old new called
called_for node sender name load at (Err halt) old new called = refused_more sender old new called

-- the gate let the call pass, and the node refused it
pub answer_of : {G : Type 0} (lets : G → ℕ → ℕ → Bool → Type 0) (gate : G) (node call : ℕ) (passed : Bool) (r : Result Delivery Halt) → lets gate node call passed → IfOk r (λ _. passed ≡ true) → IfOk r (IsAnswer lets)
answer_of lets gate node call passed (Ok Made) asked is = tt
answer_of lets gate node call passed (Ok Refused) asked is = record { gate = gate; node = node; call = call; passed = subst (lets gate node call) is asked }
answer_of lets gate node call passed (Err halt) asked is = tt
