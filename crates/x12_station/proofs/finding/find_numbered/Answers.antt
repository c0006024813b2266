-- What is found under a number is a submission, and else an arrival.
use Rattle.std.proofs.Common.{◌≡◌, ◌==◌, ◌∙◌, ap, sym, subst, refl, map, find, option_map, IfOk, Some}
use Rattle.std.specs.Prelude.{Option}
use Rattle.std.specs.Option.{option_or}
use Rattle.x12_station.specs.Durable.{item_of_arrival}
use Rattle.x12_station.specs.History.{Item}
use Rattle.x12_station.specs.Memory.{arrival_view}
use Rattle.x12_station.specs.Record.{history_item}
use Rattle.x12_station.proofs.finding.find_numbered.Goals as goal

pub returns-in-Some : goal.returns-in-Some
returns-in-Some c = λ marks.
    let came = option_map (item_of_arrival marks c.args.seq) (find (λ r. r.seq == c.args.seq) (map arrival_view c.args.arrivals.now.entries)) in
    subst (λ (o : Option Item). Some (history_item marks c.args.seq c.in-Some.item) ≡ option_or o came) (ap (option_map (history_item marks c.args.seq)) (sym c.in-Some.is) ∙ c.in_ok-item.ensures marks) refl

pub returns-in-None : goal.returns-in-None
returns-in-None c = λ marks.
    let came = option_map (item_of_arrival marks c.args.seq) (find (λ r. r.seq == c.args.seq) (map arrival_view c.args.arrivals.now.entries)) in
    subst (λ (o : Option Item). IfOk c.arrived_item.result (λ f. option_map (history_item marks c.args.seq) f ≡ option_or o came))
    (ap (option_map (history_item marks c.args.seq)) (sym c.in-None.is) ∙ c.in_ok-item.ensures marks) (c.arrived_item.ensures marks)
