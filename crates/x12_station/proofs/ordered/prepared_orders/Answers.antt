use Rattle.std.proofs.Common.{◌+◌, ◌∷◌, [], arith, map, refl, subst}
use Rattle.std.proofs.lemmas.List.{length-map}
use Rattle.std.specs.Arc.{arc_slice_items}
use Rattle.x12_numbers.specs.Book.{Uses}
use Rattle.x12_station.specs.Ordering.{order_view}
use Rattle.x12_station.proofs.OrderedLemmas.{entered_is, few, group_is, may_enter_orders, never_old, new_numbers}
use Rattle.x12_station.proofs.SubmittingLemmas.{some_known}
use Rattle.x12_station.proofs.ordered.prepared_orders.Goals as goal

pub unreachable-requires : goal.unreachable-requires
unreachable-requires c =
    let m = c.args.memory.now in
    let any = some_known m in
    never_old m.book c.interchange.result c.group.result (c.in-Err.ensures.not_new.0 refl) c.interchange.ensures.last c.group.ensures.last
    (new_numbers c.header_is_read_back.ensures.header c.outline_is_read_back.ensures.outline c.orders_are_submitted.ensures.law m any.0 any.1 c.requires.plain c.args.to c.args.at.now (map order_view c.args.orders.now) c.args.bytes.items (c.requires.ordered any.0 any.1))

pub sets_of_orders-requires : goal.sets_of_orders-requires
sets_of_orders-requires c =
    let m = c.args.memory.now in
    let any = some_known m in
    let most = few c.header_is_read_back.ensures.header c.outline_is_read_back.ensures.outline c.orders_are_submitted.ensures.law m any.0 any.1 c.requires.plain c.args.to c.args.at.now (map order_view c.args.orders.now) c.args.bytes.items (c.requires.ordered any.0 any.1) in
    let same = length-map c.args.orders.now order_view in
    omega arith

pub returns-clause-may : goal.returns-clause-may
returns-clause-may c =
    let m = c.args.memory.now in
    let any = some_known m in
    may_enter_orders c.header_is_read_back.ensures.header c.outline_is_read_back.ensures.outline c.orders_are_submitted.ensures.law m any.0 any.1 c.requires.plain c.args.to c.args.at.now (map order_view c.args.orders.now) c.args.bytes.items (c.requires.ordered any.0 any.1)
    c.raise.new.self _
    (subst (λ i. Uses m.book c.raise.new.self ((i + 1) ∷ []) ((m.book.group + 1) ∷ [])) c.interchange.ensures.last
    (subst (λ g. Uses m.book c.raise.new.self ((c.interchange.result + 1) ∷ []) ((g + 1) ∷ [])) c.group.ensures.last c.in-Ok.ensures.uses))
    (entered_is c.args.to m.book (map order_view c.args.orders.now) c.args.bytes.items (arc_slice_items c.in_ok-from_vec.field-0) c.in_ok-groups.groups.items c.push.new.self.items _ c.interchange.result
    c.interchange.ensures.last c.in_ok-from_vec.ensures c.in_ok-groups.ensures.items c.in_ok-push.ensures.items
    (group_is c.group.result _ m.book.group _ c.group.ensures.last c.in_ok-sets_of_orders.ensures))
