use Rattle.std.proofs.Common.{ℕ, List, ◌≡◌, ◌+◌, ◌<◌, ◌∷◌, [], ◌∙◌, ap, refl, length, map, codes, get_or, arith}
use Rattle.std.proofs.lemmas.Grind.{common_steps}
use Rattle.std.specs.List.{enumerate_from}
use Rattle.std.proofs.lemmas.List.{get_or-map, length-map}
use Rattle.std.proofs.lemmas.List.FromFn.{get_or-enumerate_from, length-enumerate_from}
use Rattle.x12_envelopes.specs.Envelope.{WrittenSet, set_written}
use Rattle.x12_profile.specs.Interchange.{Order}
use Rattle.x12_profile.specs.Order.{order_set}
use Rattle.x12_station.specs.Ordering.{order_view}
use Rattle.x12_station.specs.working.Heading.{set_number}
use Rattle.x12_station.proofs.OrderingLemmas.{one_more}
use Rattle.x12_station.proofs.heading.sets_of.Goals as goal

-- each order has a number
pub bounds-numbers-index : goal.bounds-numbers-index
bounds-numbers-index c =
    let orders = map order_view c.args.orders.now in
    let long = ap length c.requires in
    omega (arith, long, length-map (enumerate_from 1 orders) set_number, length-enumerate_from 1 orders, length-map c.args.orders.now order_view, c.loop-index-test.true)

-- the next order is the set of its number
pub loop-index-preserved : goal.loop-index-preserved
loop-index-preserved c =
    let i = c.loop-index.index in
    let orders = map order_view c.args.orders.now in
    let body = c.index-orders-index.result in
    let first : ℕ × Order = (0, order_view body) in
    let within : i < length orders = omega (arith, length-map c.args.orders.now order_view, c.loop-index-test.true) in
    let numbered : i < length (enumerate_from 1 orders) = omega (arith, length-enumerate_from 1 orders, within) in
    let next : 1 + i ≡ i + 1 = omega arith in
    let number_is = λ (d : List ℕ). ap (λ ns. get_or ns i d) c.requires ∙ get_or-map set_number (enumerate_from 1 orders) i first d numbered
    ∙ ap set_number (get_or-enumerate_from 1 orders i first within) ∙ ap (λ n. set_number (n, order_view body)) next in
    let written : List ℕ → WrittenSet = λ number. record { header = codes "ST" ∷ codes "850" ∷ number ∷ []; segments = order_view body } in
    one_more set_written order_view order_set c.loop-index.sets.items c.push.new.self.items c.args.orders.now i (i + 1) body c.in_ok-set_of.field-0
    c.loop-index-test.true c.index-orders-index.is refl c.in_ok-push.ensures.items (c.in_ok-set_of.ensures ∙ ap written (number_is _)) c.loop-index.invariant

pub returns : goal.returns
returns c = grind (arith, common_steps)
