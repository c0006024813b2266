-- Runs of two stations under the tiny profile, with one hub and with two: an order that is accepted, one that is noted, and one that is
-- rejected.
use Rattle.std.specs.Prelude.{◌≢◌, ℕ, zero, suc, ◌+◌, ◌<◌, Bool, false, All, List, [], ◌∷◌, Option, Some, None, refl, length, slice_index, slice_index_or, IsTrue, codes, ◌≡◌, true}
use mathlib.Core.Path.{ap, sym, subst, ◌∙◌}
use mathlib.Core.Logic.{inl, inr}
use Prim.{search}
use Rattle.x12_envelopes.specs.Byte.{value_of_digits}
use Rattle.x12_envelopes.specs.Moment.{text_is_date, text_is_time}
use native.Mathlib.Omega.{arith}
use Rattle.std.proofs.lemmas.List.Elements.{All-nil, All-cons}
use Rattle.x12_envelopes.specs.declared.party.Party.{Party}
use Rattle.x12_judge.specs.Agreement.{TradingAgreement}
use Rattle.x12_envelopes.specs.declared.moment.Moment.{Moment}
use Rattle.x12_profile.specs.Edition.{edition_at}
use Rattle.x12_profile.specs.Interchange.{Bytes}
use Rattle.x12_station.specs.Station.{Station, new_station}
use Rattle.x12_core.specs.Action.{Prepared, Collect, Agree, Enrol, Restart}
use Rattle.x12_core.specs.Node.{Node, IsHub, IsStation, hub_node, second_hub_node}
use Rattle.x12_world.specs.World.{World, Event, At, Deliver}
use Rattle.x12_world.specs.Premise.{Reaches, PremiseIsMet}
use Rattle.x12_numbers.proofs.Shelf.{contains_head}
use Rattle.x12_world.proofs.ToyProfile.{toy, toy_laws, party, the_set}
use Rattle.x12_world.specs.Network.{Member, Network, IsNetwork, IsHubNumber, parties_in}
use Rattle.std.specs.List.{AllPairs}
use Rattle.x12_world.specs.Nodes.{node_at}
use Rattle.x12_world.specs.Run.{new_world, run}
use Rattle.x12_outbound.specs.declared.fate.Fate.TheVariants.{Accepted, Noted, Rejected}

on_a_day : text_is_date (codes "20260101") ≡ true
unfolding text_is_date value_of_digits
on_a_day = refl

in_a_day : text_is_time (codes "0900") ≡ true
unfolding text_is_time value_of_digits
in_a_day = refl

abbrev moment : Moment
moment = record { date = codes "20260101"; time = codes "0900"; on_a_day = on_a_day; in_a_day = in_a_day; with_century = refl }

-- so many parties, from this number on
abbrev firsts : (n k : ℕ) → List Party
firsts zero k = []
firsts (suc n) k = party k ∷ firsts n (suc k)

counted : (n k : ℕ) → length (firsts n k) ≡ n
counted zero k = refl
counted (suc n) k = ap suc (counted n (suc k))

placed : (n k i : ℕ) (d : Party) → i < n → slice_index_or (firsts n k) i d ≡ party (k + i)
placed zero k i d lt = absurd (omega arith)
placed (suc n) k zero d lt = ap party (omega arith)
placed (suc n) k (suc i) d lt = placed n (suc k) i d (omega arith) ∙ ap party (omega arith)

-- the one at a place has that number
at_place : (n i : ℕ) (d : Party) → i < n → slice_index_or (firsts n 0) i d ≡ party i
at_place n i d lt = placed n 0 i d lt ∙ ap party (omega arith)

-- parties of different numbers
unlike : (m n : ℕ) → m ≢ n → party m ≢ party n
unlike m n differ e = differ (ap (λ (me : Party). slice_index me.qualifier 0) e)

apart : (n : ℕ) → AllPairs (λ (a b : Party). a ≢ b) (firsts n 0)
apart n i j d lt in_it e =
    let below : j < n = subst (λ m. j < m) (counted n 0) in_it in
    unlike i j (λ same. absurd (omega arith))
    (sym (at_place n i d (omega arith)) ∙ e ∙ at_place n j d below)

abbrev IsPlain : Party → Type 0
IsPlain me = IsTrue (toy.is_plain me)

plain_each : (n k : ℕ) → All IsPlain (firsts n k)
plain_each zero k = All-nil IsPlain
plain_each (suc n) k = All-cons IsPlain (party k) (firsts n (suc k)) refl (plain_each n (suc k))

-- a hub, a second one or none, and two stations: the first at the hub, the other one here
abbrev net_of : Option Party → ℕ → Network
net_of second home = record {
  hub = party 0;
  second = second;
  stations = record { party = party 1; home = hub_node } ∷ record { party = party 2; home = home } ∷ [];
}

network : (second : Option Party) (home n : ℕ) → parties_in (net_of second home) ≡ firsts n 0
    → IsHubNumber second home → IsNetwork toy (net_of second home)
network second home n are at_hub = record {
  plain = subst (λ ps. All IsPlain ps) (sym are) (plain_each n 0);
  distinct = subst (λ ps. AllPairs (λ (a b : Party). a ≢ b) ps) (sym are) (apart n);
  at_hubs = All-cons IsHome (member 1 hub_node) (member 2 home ∷ []) (inl refl) (All-cons IsHome (member 2 home) [] at_hub (All-nil IsHome));
  few = λ some. omega arith;
}
  where
    member : ℕ → ℕ → Member
    member k at = record { party = party k; home = at }

    IsHome : Member → Type 0
    IsHome m = IsHubNumber second m.home

-- kind 0, from 1 to 2, number 1
abbrev order : Bytes
order = 0 ∷ 1 ∷ 2 ∷ 1 ∷ []

abbrev packet : ℕ → ℕ → Event
packet event place = Deliver (record { event = event; place = place }) moment

abbrev agreement : Bool → TradingAgreement
agreement lenient = record { partner = party 1; lenient = lenient; pairs = ([], []) ∷ [] }

abbrev begun : Option Party → ℕ → World
begun second home = new_world (net_of second home)

abbrev one_hub : World
one_hub = begun None hub_node

abbrev two_hubs : World
two_hubs = begun (Some (party 3)) second_hub_node

-- enrolled, submitted, deposited, collected, judged, its reply deposited, collected and handled
abbrev over_one : Event → List Event
over_one first = first ∷ At hub_node (Enrol (party 1) 1) ∷ At hub_node (Enrol (party 2) 2) ∷ At 1 (Prepared order) ∷ packet 4 1 ∷ At hub_node (Collect 2) ∷ packet 6 1 ∷ packet 7 2 ∷ At hub_node (Collect 1) ∷ packet 9 1 ∷ []

-- the same, where the receiver is at the second hub: the order is deposited at both, and so is the reply
abbrev over_two : Event → List Event
over_two first = first ∷ At hub_node (Enrol (party 1) 1) ∷ At hub_node (Enrol (party 2) second_hub_node) ∷ At second_hub_node (Enrol (party 2) 2) ∷ At second_hub_node (Enrol (party 1) hub_node) ∷ At 1 (Prepared order) ∷ packet 6 1 ∷ At hub_node (Collect second_hub_node) ∷ packet 8 1 ∷ At second_hub_node (Collect 2) ∷ packet 10 1 ∷ packet 11 2 ∷ At second_hub_node (Collect hub_node) ∷ packet 13 1 ∷ At hub_node (Collect 1) ∷ packet 15 1 ∷ []

abbrev station_in : Option Node → Station
station_in None = new_station (party 0) []
station_in (Some (IsHub h)) = new_station (party 0) []
station_in (Some (IsStation s)) = s

abbrev sender_in : World → Station
sender_in w = station_in (node_at w.nodes 1)

-- the receiver agrees first, strictly or leniently, or it doesn't
abbrev agreed : Event
agreed = At 2 (Agree (agreement false))

abbrev agreed_leniently : Event
agreed_leniently = At 2 (Agree (agreement true))

abbrev not_agreed : Event
not_agreed = At 2 Restart

one_network : IsNetwork toy (net_of None hub_node)
one_network = network None hub_node 3 refl (inl refl)

two_network : IsNetwork toy (net_of (Some (party 3)) second_hub_node)
two_network = network (Some (party 3)) second_hub_node 4 refl (inr (refl, search))

fates : (has_two : Bool) → Reaches toy has_two Accepted × Reaches toy has_two Noted × Reaches toy has_two Rejected
unfolding edition_at
fates false = (
  (net_of None hub_node, one_network, refl, over_one agreed, 1, order, the_set order, (sender_in (run toy (over_one agreed) one_hub), refl, contains_head order [], contains_head (the_set order) [], refl)),
  (net_of None hub_node, one_network, refl, over_one agreed_leniently, 1, order, the_set order, (sender_in (run toy (over_one agreed_leniently) one_hub), refl, contains_head order [], contains_head (the_set order) [], refl)),
  (net_of None hub_node, one_network, refl, over_one not_agreed, 1, order, the_set order, (sender_in (run toy (over_one not_agreed) one_hub), refl, contains_head order [], contains_head (the_set order) [], refl)),
)
fates true = (
  (net_of (Some (party 3)) second_hub_node, two_network, refl, over_two agreed, 1, order, the_set order, (sender_in (run toy (over_two agreed) two_hubs), refl, contains_head order [], contains_head (the_set order) [], refl)),
  (net_of (Some (party 3)) second_hub_node, two_network, refl, over_two agreed_leniently, 1, order, the_set order, (sender_in (run toy (over_two agreed_leniently) two_hubs), refl, contains_head order [], contains_head (the_set order) [], refl)),
  (net_of (Some (party 3)) second_hub_node, two_network, refl, over_two not_agreed, 1, order, the_set order, (sender_in (run toy (over_two not_agreed) two_hubs), refl, contains_head order [], contains_head (the_set order) [], refl)),
)

pub premise_is_met : PremiseIsMet
premise_is_met = (toy, toy_laws, fates)
