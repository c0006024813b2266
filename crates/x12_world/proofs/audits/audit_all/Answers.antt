-- The sets are those of the stations, and each has its audit.
use Rattle.std.proofs.Common.{◌≡◌, All, map, ap, sym, subst, ◌∙◌}
use Rattle.std.proofs.lemmas.Result.{IfOk-weaker}
use Rattle.x12_world.specs.Asking.{states_of}
use Rattle.x12_world.specs.Auditing.{audit_view}
use Rattle.x12_world.specs.Audits.{audits_under, AreAudits}
use Rattle.x12_world.specs.Listing.{keys_of_sets, IsSubmittedBy}
use Rattle.x12_world.specs.Placing.{outgoing_view}
use Rattle.x12_world.specs.Posted.{ArePosted}
use Rattle.x12_world.specs.Submission.{NumbersRise}
use Rattle.x12_world.proofs.AuditsLemmas.{all_rise, all_submitted_by, audits_are}
use Rattle.x12_world.proofs.audits.audit_all.Goals as goal

pub returns-clause-audits : goal.returns-clause-audits
returns-clause-audits g c = λ w has answers.
    let ss = c.args.stations.now.items in
    let sets = c.in_ok-sets.sets.items in
    let facts = c.reached.ensures.reached.facts w has.reached in
    let between = c.audit_each.ensures.never_won_back answers in
    let before = c.posted_by_all.ensures.never_won_back between in
    let first = c.sets_among.ensures.same before in
    let same = c.posted_by_all.ensures.same between ∙ first in
    let rise : All NumbersRise (states_of ss) = subst (All NumbersRise) has.stations (all_rise w facts) in
    let are = c.in_ok-sets.ensures.sets before has.listed rise in
    let submitted = all_submitted_by w facts (states_of ss) has.stations sets are.all in
    IfOk-weaker c.audit_each.result (λ v. map audit_view v.items ≡ audits_under w (keys_of_sets (map outgoing_view c.deref-2.result.now))) (λ v. AreAudits w (map audit_view v.items))
    (λ v found. audits_are w (states_of ss) (keys_of_sets (map outgoing_view sets)) (map audit_view v.items) facts has.stations are.keys (found ∙ ap (λ xs. audits_under w (keys_of_sets (map outgoing_view xs))) c.deref-2.ensures.value))
    (c.audit_each.ensures.found w (has.stations ∙ sym same) answers
    (subst (λ xs. All (λ s. IsSubmittedBy (states_of c.posted_by_all.new.stations.items) (outgoing_view s)) xs) (sym c.deref-2.ensures.value) (subst (λ ts. All (λ s. IsSubmittedBy ts (outgoing_view s)) sets) (sym same) submitted))
    (subst (λ all. ArePosted (states_of c.posted_by_all.new.stations.items) all) (sym c.deref.ensures.value) (subst (λ ts. ArePosted ts c.in_ok-posted.posted.items) (sym (c.posted_by_all.ensures.same between)) (c.in_ok-posted.ensures.posted between))))
