use Rattle.x12_station.proofs.OpenedLemmas.{after_load, opened_after}
use Rattle.std.proofs.Common.{Option, subst, sym}
use Rattle.x12_envelopes.specs.declared.party.Party.{Party}
use Rattle.x12_outbound.specs.Hubs.{hubs_of}
use Rattle.x12_outbound.specs.declared.hubs.Hubs.{Hubs}
use Rattle.x12_station.specs.Durable.{IsHistoryOf}
use Rattle.x12_station.proofs.StandingLemmas.{left_held, left_of}
use Rattle.x12_station.proofs.station.Station.open.Goals as goal

-- the hubs that are given
abbrev given : Party → Option Party → Hubs
given hub other = record { hub = hub; other = other }

pub invariant_of-result : goal.invariant_of-result
invariant_of-result g c = record {
  valid = c.load.ensures.asked.valid;
  ready = c.in-Ok.ensures.ready.0;
  left = left_of g.R.Records c.args.me (given c.args.hub c.args.other) c.in-Ok.memory.me c.in-Ok.memory.hubs c.in-Ok.ensures.ready.1 c.in-Ok.ensures.ready.2
      (left_held g.R.Records c.args.me (hubs_of (given c.args.hub c.args.other)) c.load.new.records c.in-Ok.ensures.answered (λ d answers may. g.met.R.Records.left_is_held c.load.new.records d c.load.ensures.asked.valid answers may)
      (λ answers. subst (IsHistoryOf c.args.me (hubs_of (given c.args.hub c.args.other))) (sym (c.load.ensures.asked.same answers)) (c.requires.written (c.load.ensures.asked.never_won_back answers))));
  held = λ answers. after_load c.args.me (given c.args.hub c.args.other) (g.R.Records.content c.args.records) (g.R.Records.content c.load.new.records) c.in-Ok.memory (c.load.ensures.asked.same answers) (c.in-Ok.ensures.taken answers) (c.requires.written (c.load.ensures.asked.never_won_back answers));
}

pub returns-in-Ok-clause-opened : goal.returns-in-Ok-clause-opened
returns-in-Ok-clause-opened g c = λ answers. (
  c.load.ensures.asked.never_won_back answers,
  opened_after c.args.me (given c.args.hub c.args.other) (g.R.Records.content c.args.records) (g.R.Records.content c.load.new.records) c.in-Ok.memory (c.load.ensures.asked.same answers) (c.in-Ok.ensures.taken answers) (c.requires.written (c.load.ensures.asked.never_won_back answers)),
)
