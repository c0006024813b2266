use Rattle.x12_network.specs.Deliveries.{IsAnswer}
use Rattle.x12_network.proofs.CallerLemmas.{passes_linked}
use Rattle.x12_network.proofs.network.run_network.Goals as goal

-- the passes are those of the endpoints, which are linked
pub returns-in-None-clause-linked : goal.returns-in-None-clause-linked
returns-in-None-clause-linked g c = passes_linked (IsAnswer g.G.Gate.lets) _ _ _ _ c.end_all.ensures (c.run_endpoints-halt.ensures.linked _ c.in_default-put_endpoints.ensures.placed)

pub returns-in-Some-clause-linked_back : goal.returns-in-Some-clause-linked_back
returns-in-Some-clause-linked_back g c = passes_linked (IsAnswer g.G.Gate.lets) _ _ _ _ c.end_all.ensures (c.run_endpoints-halt.ensures.linked _ c.in_default-put_endpoints.ensures.placed)
