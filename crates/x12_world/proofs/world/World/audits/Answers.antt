-- The network stays as it is, and its audits are those of its stations.
use Rattle.std.proofs.Common.{sym, subst}
use Rattle.x12_world.specs.Asking.{states_of}
use Rattle.x12_world.specs.Running.{world_of}
use Rattle.x12_world.specs.Submission.{AreListed}
use Rattle.x12_world.proofs.FailingLemmas.{counts_beside}
use Rattle.x12_world.proofs.ActingLemmas.{stations_answer}
use Rattle.x12_world.proofs.AskingLemmas.{stations_are}
use Rattle.x12_world.proofs.WorldAskedLemmas.{is_same, kept_so, was_so}
use Rattle.x12_world.proofs.world.World.audits.Goals as goal

pub invariant_of-self : goal.invariant_of-self
invariant_of-self g c =
    let s = c.self.inside in
    kept_so s.hubs s.stations.items c.audit_all.new.stations.items s.held.items s.submitted.items c.self.invariant c.audit_all.ensures.never_won_back c.audit_all.ensures.same c.audit_all.ensures.len

pub returns-clause-never_won_back : goal.returns-clause-never_won_back
returns-clause-never_won_back g c = λ answers.
    let s = c.self.inside in
    rw (← c.self.view_is) (was_so s.hubs s.stations.items c.audit_all.new.stations.items s.held.items s.submitted.items c.self.invariant c.audit_all.ensures.never_won_back c.audit_all.ensures.same c.audit_all.ensures.len answers)

pub returns-clause-same : goal.returns-clause-same
returns-clause-same g c = λ answers.
    let s = c.self.inside in
    rw (← c.self.view_is) (is_same s.hubs s.stations.items c.audit_all.new.stations.items s.held.items s.submitted.items c.self.invariant c.audit_all.ensures.never_won_back c.audit_all.ensures.same c.audit_all.ensures.len answers)

pub returns-clause-audits : goal.returns-clause-audits
returns-clause-audits g c = λ answers.
    let s = c.self.inside in
    let ss = s.stations.items in
    let was = was_so s.hubs ss c.audit_all.new.stations.items s.held.items s.submitted.items c.self.invariant c.audit_all.ensures.never_won_back c.audit_all.ensures.same c.audit_all.ensures.len answers in
    let listed = subst (AreListed (states_of ss)) (sym c.deref.ensures.value) (c.self.invariant.listed was) in
    rw (← c.self.view_is)
    (c.audit_all.ensures.audits (world_of s.hubs ss s.held.items) (record { reached = (c.self.invariant.reached was); stations = stations_are ss; listed = listed })
    (stations_answer s.hubs c.audit_all.new.stations.items answers))

pub returns-clause-store : goal.returns-clause-store
returns-clause-store g c =
    let s = c.self.inside in
    rw (← c.self.view_is) (counts_beside c.audit_all.result s.hubs s.stations.items c.audit_all.new.stations.items c.audit_all.ensures.store)
