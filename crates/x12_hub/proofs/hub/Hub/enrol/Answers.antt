-- A party is enrolled in one commit.
use Rattle.std.proofs.Common.{refl}
use Rattle.x12_hub.proofs.StoppedLemmas.{hub_untouched, hub_written}
use Rattle.x12_hub.proofs.hub.Hub.enrol.Goals as goal

pub returns-in_err-reserve-clause-crash : goal.returns-in_err-reserve-clause-crash
returns-in_err-reserve-clause-crash g c =
    rw (← c.self.view_is) (hub_untouched g.H.HubRecords _ c.self.inside.cached.me (λ d answers may. g.met.H.HubRecords.left_is_held c.self.inside.records d c.self.invariant.0 answers may))

pub returns-in_err-committed-clause-crash : goal.returns-in_err-committed-clause-crash
returns-in_err-committed-clause-crash g c =
    rw (← c.self.view_is)
    (hub_written g.H.HubRecords _ c.self.inside.cached.me _ (λ d answers may. g.met.H.HubRecords.left_is_held c.write.new.records d c.write.ensures.used.valid answers may) c.write.ensures.used
    (λ answers.
    let keeps = c.self.invariant.2 answers in
    let s = g.H.HubRecords.content c.self.inside.records in
    rw (c.new-plan.ensures, keeps.icn, keeps.item) refl))

pub returns-clause-crash : goal.returns-clause-crash
returns-clause-crash g c =
    rw (← c.self.view_is, c.absorb.ensures)
    (hub_written g.H.HubRecords _ c.self.inside.cached.me _ (λ d answers may. g.met.H.HubRecords.left_is_held c.write.new.records d c.write.ensures.used.valid answers may) c.write.ensures.used
    (λ answers.
    let keeps = c.self.invariant.2 answers in
    let s = g.H.HubRecords.content c.self.inside.records in
    rw (c.new-plan.ensures, keeps.icn, keeps.item) refl))
