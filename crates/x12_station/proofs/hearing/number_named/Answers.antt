use Rattle.std.proofs.Common.{◌∙◌, ap, sym, Some}
use Rattle.x12_acks.specs.Answer.{answer_view}
use Rattle.x12_station.specs.Found.{closed_for}
use Rattle.x12_station.proofs.ClosedLemmas.{number_of_closed}
use Rattle.x12_station.proofs.hearing.number_named.Goals as goal

pub returns-in-Interchange-clause-number : goal.returns-in-Interchange-clause-number
returns-in-Interchange-clause-number g c = λ answers e is. ap Some (sym (number_of_closed (g.R.Records.content c.args.records.now) c.in-Interchange.icn e (ap (λ a. closed_for (g.R.Records.content c.args.records.now) c.args.from.now (answer_view a)) (sym c.in-Interchange.is) ∙ is)))
