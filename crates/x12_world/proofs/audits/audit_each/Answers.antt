-- One audit more.
use Rattle.std.proofs.Common.{◌<◌, rules, get_or, length, map, sym, subst, ◌∙◌, arith}
use Rattle.std.proofs.lemmas.Grind.{common_steps}
use Rattle.x12_world.specs.Asking.{states_of}
use Rattle.x12_world.specs.Auditing.{audit_view}
use Rattle.x12_world.specs.Listing.{IsSubmittedBy}
use Rattle.x12_world.specs.Placing.{outgoing_view}
use Rattle.x12_world.specs.Posted.{ArePosted}
use Rattle.x12_world.proofs.AuditsLemmas.{one_audited}
use Rattle.x12_world.proofs.audits.audit_each.Goals as goal

pub loop-sent-preserved : goal.loop-sent-preserved
loop-sent-preserved g c =
    let was = c.loop-sent.invariant in
    let did = c.push_audit.ensures in
    record {
      never_won_back = λ answers. was.never_won_back (did.never_won_back answers);
      same = λ answers. did.same answers ∙ was.same (did.never_won_back answers);
      counts = c.in_ok-push_audit.ensures.store.ok ∙ was.counts;
      long = did.len ∙ was.long;
      found = λ w is answers sent posted.
          let before = did.never_won_back answers in
          let same = was.same before in
          let within : c.loop-sent.sent-index < length c.args.sets.now = search rules in
          one_audited w c.args.sets.now c.loop-sent.sent-index c.sent-item.result (map audit_view c.loop-sent.found.items) (map audit_view c.push_audit.new.found.items)
          within c.sent-item.is
          (c.in_ok-push_audit.ensures.found w (is ∙ sym same) answers
          (subst (λ s. IsSubmittedBy (states_of c.loop-sent.stations.items) (outgoing_view s)) (sym c.sent-item.is) (subst (λ ss. IsSubmittedBy ss (outgoing_view (get_or c.args.sets.now c.loop-sent.sent-index c.sent-item.result))) (sym same) (sent c.loop-sent.sent-index c.sent-item.result within)))
          (subst (λ ss. ArePosted ss c.args.posted.now) (sym same) posted))
          (was.found w is before sent posted);
    }

pub returns-clause-found : goal.returns-clause-found
returns-clause-found g c = grind (arith, common_steps)
