use Rattle.std.proofs.Common.{◌≡◌, ◌+◌, map, take}
use Rattle.std.specs.List.{enumerate_from}
use Rattle.x12_station.specs.Ordering.{order_view}
use Rattle.x12_station.specs.working.Heading.{set_number}
use Rattle.x12_station.proofs.heading.set_numbers.Given as goal

abbrev pub invariant-loop-body : goal.invariant-loop-body
invariant-loop-body l = record {
  place : l.place ≡ l._body-index + 1;
  numbers : l.numbers.items ≡ map set_number (enumerate_from 1 (map order_view (take l._body-index l.orders)));
}
