use Rattle.x12_links.specs.Plan.{nothing_taken}
use Rattle.x12_links.proofs.PlanLemmas.{plan_goes_on}
use Rattle.x12_links.proofs.laws.longer_lists_go_on.Goals as goal

pub returns : goal.returns
returns c = λ plan xs more. plan_goes_on plan nothing_taken xs more
