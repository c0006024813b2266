-- A search by number ends at the arrival of this number, if there is one.
use Rattle.std.proofs.Common.{rules}
use Rattle.std.proofs.lemmas.List.Sorted.{answers_always}
use Rattle.x12_outbound.proofs.SearchLemmas.{Found, find_by_number}
use Rattle.x12_station.specs.declared.arrivals.NumberedArrival.{NumberedArrival}
use Rattle.x12_station.specs.Memory.{ArrivalKey, arrival_view}
use Rattle.x12_station.specs.Stored.{StoredArrival}
use Rattle.x12_station.proofs.FindingLemmas.{found_there}
use Rattle.x12_station.proofs.finding.arrival_index.Goals as goal
use Rattle.x12_station.proofs.finding.arrival_index.Goals.{After-ok}

-- the closure gives an arrival's number
by_number : (c : After-ok) → Found arrival_view (λ (r : StoredArrival). r.seq) c.args.arrivals.now.entries c.args.seq c.ok.result
by_number c =
    let facts = c.binary_search_by_key.ensures in
    let position = facts.position (λ (e : ArrivalKey × NumberedArrival). e.1.seq) (answers_always _ _ _ (λ f a r g called. search rules)) in
    rw c.ok.ensures.value (find_by_number arrival_view (λ (r : StoredArrival). r.seq) _ _ c.requires _ (search rules) position)

pub returns-clause-found : goal.returns-clause-found
returns-clause-found c = found_there arrival_view (λ (r : StoredArrival). r.seq) c.args.arrivals.now.entries c.args.seq c.ok.result (by_number c)

pub returns-clause-none : goal.returns-clause-none
returns-clause-none c = (by_number c).none
