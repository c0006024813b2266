-- The network stays as it is, and its audit is that of its stations.
use Rattle.std.proofs.Common.{◌≡◌, option_map}
use Rattle.x12_acks.specs.Key.{key_view}
use Rattle.x12_profile.specs.X12.{x12}
use Rattle.x12_world.specs.Asking.{states_of}
use Rattle.x12_world.specs.Audit.{audit}
use Rattle.x12_world.specs.Auditing.{audit_view, IsReachedAudit}
use Rattle.std.proofs.lemmas.Result.{IfOk-weaker}
use Rattle.x12_world.specs.Running.{world_of}
use Rattle.x12_world.proofs.FailingLemmas.{counts_beside}
use Rattle.x12_world.proofs.ActingLemmas.{stations_answer}
use Rattle.x12_world.proofs.AskingLemmas.{stations_are}
use Rattle.x12_world.proofs.WorldAskedLemmas.{facts_so, is_same, kept_so, refused_of, was_so}
use Rattle.x12_world.proofs.world.World.audit.Goals as goal

pub invariant_of-self : goal.invariant_of-self
invariant_of-self g c =
    let s = c.self.inside in
    kept_so s.hubs s.stations.items c.audit_at.new.stations.items s.held.items s.submitted.items c.self.invariant c.audit_at.ensures.never_won_back c.audit_at.ensures.same c.audit_at.ensures.len

pub returns-clause-never_won_back : goal.returns-clause-never_won_back
returns-clause-never_won_back g c = λ answers.
    let s = c.self.inside in
    rw (← c.self.view_is) (was_so s.hubs s.stations.items c.audit_at.new.stations.items s.held.items s.submitted.items c.self.invariant c.audit_at.ensures.never_won_back c.audit_at.ensures.same c.audit_at.ensures.len answers)

pub returns-clause-same : goal.returns-clause-same
returns-clause-same g c = λ answers.
    let s = c.self.inside in
    rw (← c.self.view_is) (is_same s.hubs s.stations.items c.audit_at.new.stations.items s.held.items s.submitted.items c.self.invariant c.audit_at.ensures.never_won_back c.audit_at.ensures.same c.audit_at.ensures.len answers)

pub returns-clause-audit : goal.returns-clause-audit
returns-clause-audit g c = λ answers.
    let s = c.self.inside in
    let ss = s.stations.items in
    let facts = facts_so s.hubs ss c.audit_at.new.stations.items s.held.items s.submitted.items c.self.invariant c.audit_at.ensures.never_won_back c.audit_at.ensures.same c.audit_at.ensures.len c.reached.ensures.reached answers in
    let k = key_view c.args.key.now in
    let w = world_of s.hubs ss s.held.items in
    rw (← c.self.view_is)
    (IfOk-weaker c.audit_at.result (λ o. IsReachedAudit (states_of ss) k (option_map audit_view o)) (λ o. option_map audit_view o ≡ audit x12 w k) (λ o told. told w facts (stations_are ss))
    (c.audit_at.ensures.audit (stations_answer s.hubs c.audit_at.new.stations.items answers)))

pub returns-clause-refused : goal.returns-clause-refused
returns-clause-refused g c =
    let s = c.self.inside in
    rw (← c.self.view_is) (refused_of s.hubs s.stations.items s.held.items c.args.key.now.sender c.audit_at.result c.audit_at.ensures.refused)

pub returns-clause-store : goal.returns-clause-store
returns-clause-store g c =
    let s = c.self.inside in
    rw (← c.self.view_is) (counts_beside c.audit_at.result s.hubs s.stations.items c.audit_at.new.stations.items c.audit_at.ensures.store)
