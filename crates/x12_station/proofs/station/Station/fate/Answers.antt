use Rattle.std.proofs.Common.{rules, ◌≡◌, ◌∙◌, ap, sym, true, false}
use Rattle.x12_judge.specs.Agreement.{is_same_party}
use Rattle.x12_acks.specs.Key.{key_view}
use Rattle.x12_station.proofs.AskedLemmas.{own_fate_is, no_own_fate}
use Rattle.x12_station.proofs.StoppedLemmas.{step_only_asked, step_untouched, whole}
use Rattle.x12_station.proofs.station.Station.fate.Goals as goal

pub returns-then-ne-clause-fate : goal.returns-then-ne-clause-fate
returns-then-ne-clause-fate g c =
    let m = c.self.inside.memory in
    let s = g.R.Records.content c.self.inside.records in
    let other : is_same_party c.args.key.now.sender m.me ≡ false = search rules in
    let was = c.self.invariant in
    rw (← c.self.view_is) (λ answers. sym (no_own_fate m.ledger.holds.me m.ledger.holds.hubs s (was.held answers).1 (key_view c.args.key.now) (ap (is_same_party c.args.key.now.sender) was.ready.me ∙ other)))

pub returns-clause-fate : goal.returns-clause-fate
returns-clause-fate g c = λ answers.
    let m = c.self.inside.memory in
    let s = g.R.Records.content c.self.inside.records in
    let mine : is_same_party c.args.key.now.sender m.me ≡ true = search rules in
    let was = c.self.invariant in
    let found = c.in_ok-find_fate.ensures in
    rw (← c.self.view_is) (found.found answers ∙ sym (own_fate_is m.ledger.holds.me m.ledger.holds.hubs s (was.held (found.never_won_back answers)).1 (key_view c.args.key.now) (ap (is_same_party c.args.key.now.sender) was.ready.me ∙ mine)))

pub returns-then-ne-clause-crash : goal.returns-then-ne-clause-crash
returns-then-ne-clause-crash g c =
    let m = c.self.inside.memory in
    let was = c.self.invariant in
    rw (← c.self.view_is) (whole g.R.Records _ m.ledger.holds m.ledger.holds m.counts m.counts (λ d answers may. g.met.R.Records.left_is_held c.self.inside.records d was.valid answers may) (step_untouched g.R.Records _))

pub returns-in_err-find_fate-clause-crash : goal.returns-in_err-find_fate-clause-crash
returns-in_err-find_fate-clause-crash g c =
    let m = c.self.inside.memory in
    let asks = c.find_fate.ensures in
    rw (← c.self.view_is) (whole g.R.Records _ m.ledger.holds m.ledger.holds m.counts m.counts (λ d answers may. g.met.R.Records.left_is_held c.find_fate.new.self d asks.valid answers may) (step_only_asked g.R.Records _ asks.crash))

pub returns-clause-crash : goal.returns-clause-crash
returns-clause-crash g c =
    let m = c.self.inside.memory in
    let asks = c.find_fate.ensures in
    rw (← c.self.view_is) (whole g.R.Records _ m.ledger.holds m.ledger.holds m.counts m.counts (λ d answers may. g.met.R.Records.left_is_held c.find_fate.new.self d asks.valid answers may) (step_only_asked g.R.Records _ asks.crash))
