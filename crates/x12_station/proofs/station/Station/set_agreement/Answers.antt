use Rattle.x12_judge.specs.Agreement.{agreement_view}
use Rattle.x12_outbound.specs.Hubs.{hubs_of}
use Rattle.x12_station.proofs.AgreementLemmas.{both_ways, durable_planned, either, held_agreed, held_same, holds_agreed, kept_but_room, on_err, on_ok, ready_beside, state_agreed}
use Rattle.x12_station.proofs.StandingLemmas.{left_after, left_of}
use Rattle.x12_station.proofs.StoppedLemmas.{step_committed, whole}
use Rattle.x12_station.proofs.station.Station.set_agreement.Goals as goal

pub invariant_of-self : goal.invariant_of-self
invariant_of-self g c =
    let a = agreement_view c.args.agreement in
    let old = c.self.inside.memory in
    let new = c.agree.new.memory in
    let s = g.R.Records.content c.self.inside.records in
    let t = g.R.Records.content c.agree.new.records in
    let was = c.self.invariant in
    let e = c.agree.ensures in
    record {
      valid = e.used.valid;
      ready = either c.agree.result e.memory e.unchanged (λ m. ready_beside old new m.beside was.ready) (λ k. ready_beside old new k.0.beside was.ready);
      held = λ answers.
          let held = was.held (e.used.never_won_back answers) in
          both_ways c.agree.result e.memory (e.agreed answers) e.unchanged (λ m is. held_agreed a old new s t m is held.0 held.1) (λ k. held_same old new s t k.0 (k.1 answers) held.0 held.1);
      left =
          let same = either c.agree.result e.memory e.unchanged (λ m. m.beside) (λ k. k.0.beside) in
          left_of g.R.Records old.me old.hubs new.me new.hubs same.me same.hubs
          (left_after g.R.Records old.me (hubs_of old.hubs) _ e.crash was.left (λ answers. let held = was.held answers in durable_planned a old s was.ready held.0 held.1));
    }

pub returns-clause-agreed : goal.returns-clause-agreed
returns-clause-agreed g c = λ answers.
    let a = agreement_view c.args.agreement in
    let old = c.self.inside.memory in
    let new = c.agree.new.memory in
    let s = g.R.Records.content c.self.inside.records in
    let t = g.R.Records.content c.agree.new.records in
    let e = c.agree.ensures in
    rw (← c.self.view_is) (on_ok c.agree.result e.memory (e.agreed answers) (λ m is. state_agreed a old new s t m is))

pub returns-clause-crash : goal.returns-clause-crash
returns-clause-crash g c =
    let a = agreement_view c.args.agreement in
    let old = c.self.inside.memory in
    let new = c.agree.new.memory in
    let s = g.R.Records.content c.self.inside.records in
    let was = c.self.invariant in
    let e = c.agree.ensures in
    rw (← c.self.view_is)
    (whole g.R.Records _ old.ledger.holds new.ledger.holds old.counts new.counts (λ d answers may. g.met.R.Records.left_is_held c.agree.new.records d e.used.valid answers may)
    (step_committed g.R.Records _ _ e.crash (λ answers. holds_agreed a old s (was.held answers).0)))

pub returns-clause-disk : goal.returns-clause-disk
returns-clause-disk g c =
    let old = c.self.inside.memory in
    let new = c.agree.new.memory in
    let e = c.agree.ensures in
    rw (← c.self.view_is) (record {
      was_clean = e.crash.was_clean;
      answered = e.crash.answered;
      remembers = on_err c.agree.result e.unchanged (λ kept. kept_but_room old new kept.0);
    })
