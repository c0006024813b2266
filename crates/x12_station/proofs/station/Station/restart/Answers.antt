use Rattle.x12_outbound.specs.Hubs.{hubs_of}
use Rattle.x12_station.proofs.OpenedLemmas.{after_load, restarted_after, durable_of}
use Rattle.x12_station.proofs.StandingLemmas.{left_of, still_left}
use Rattle.x12_station.proofs.StoppedLemmas.{step_asked, whole}
use Rattle.x12_station.proofs.station.Station.restart.Goals as goal

pub invariant_of-self-2 : goal.invariant_of-self-2
invariant_of-self-2 g c =
    let was = c.self.invariant in
    let m = c.self.inside.memory in
    record {
      valid = c.load.ensures.asked.valid;
      ready = c.in_ok-memory.ensures.ready.0;
      left = left_of g.R.Records m.me m.hubs c.in_ok-memory.memory.me c.in_ok-memory.memory.hubs c.in_ok-memory.ensures.ready.1 c.in_ok-memory.ensures.ready.2 (still_left g.R.Records m.me (hubs_of m.hubs) c.load.ensures.asked.leaves was.left);
      held = λ answers.
          let held = was.held (c.load.ensures.asked.never_won_back answers) in
          after_load m.me m.hubs (g.R.Records.content c.self.inside.records) (g.R.Records.content c.load.new.records) c.in_ok-memory.memory (c.load.ensures.asked.same answers) (c.in_ok-memory.ensures.taken answers) (durable_of m.ledger.holds.me m.ledger.holds.hubs m.me m.hubs _ was.ready.me was.ready.hubs held.1);
    }

pub returns-clause-restarted : goal.returns-clause-restarted
returns-clause-restarted g c = λ answers.
    let was = c.self.invariant in
    let m = c.self.inside.memory in
    let held = was.held (c.load.ensures.asked.never_won_back answers) in
    rw (← c.self.view_is) (restarted_after m.ledger.holds m.counts m.me m.hubs (g.R.Records.content c.self.inside.records) (g.R.Records.content c.load.new.records) c.in_ok-memory.memory was.ready.me was.ready.hubs (c.load.ensures.asked.same answers) (c.in_ok-memory.ensures.taken answers) (durable_of m.ledger.holds.me m.ledger.holds.hubs m.me m.hubs _ was.ready.me was.ready.hubs held.1))

pub returns-in_err-memory-clause-crash : goal.returns-in_err-memory-clause-crash
returns-in_err-memory-clause-crash g c =
    let m = c.self.inside.memory in
    let n = m in
    let asked = c.load.ensures.asked in
    rw (← c.self.view_is)
    (whole g.R.Records _ m.ledger.holds n.ledger.holds m.counts n.counts (λ d answers may. g.met.R.Records.left_is_held c.load.new.records d asked.valid answers may) (step_asked g.R.Records _ asked.leaves))

pub returns-clause-crash : goal.returns-clause-crash
returns-clause-crash g c =
    let m = c.self.inside.memory in
    let n = c.in_ok-memory.memory in
    let asked = c.load.ensures.asked in
    rw (← c.self.view_is)
    (whole g.R.Records _ m.ledger.holds n.ledger.holds m.counts n.counts (λ d answers may. g.met.R.Records.left_is_held c.load.new.records d asked.valid answers may) (step_asked g.R.Records _ asked.leaves))
