-- What the sender says and what the receiver has are the audit.
use Rattle.std.proofs.Common.{◌≡◌, ap, sym, subst, ◌∙◌}
use Rattle.x12_acks.specs.Key.{key_view}
use Rattle.x12_world.specs.Asking.{states_of}
use Rattle.x12_world.specs.Auditing.{found_under, station_among}
use Rattle.x12_world.specs.Placing.{addressed_view}
use Rattle.x12_world.specs.Posted.{ArePosted}
use Rattle.x12_world.proofs.AuditsLemmas.{audited_by, has_fate}
use Rattle.x12_world.proofs.audits.audit_with.Goals as goal

pub returns-in_default-clause-audit : goal.returns-in_default-clause-audit
returns-in_default-clause-audit g c = λ answers sent posted w are.
    absurd (has_fate (key_view c.args.sent.now.key) (addressed_view c.args.sent.now.set) (states_of c.args.stations.now.items) _ c.in_default.not-Some sent (c.in_ok-fate.ensures.fate answers))

pub returns-clause-audit : goal.returns-clause-audit
returns-clause-audit g c = λ answers sent posted w are.
    let k = key_view c.args.sent.now.key in
    let ss = states_of c.args.stations.now.items in
    let set = c.args.sent.now.set in
    let seen : states_of c.deref.result.now ≡ ss = ap states_of c.deref.ensures.value ∙ c.in_ok-fate.ensures.same answers in
    audited_by k (addressed_view set) ss w are c.in-Some.fate c.found_among-found.result
    (c.found_among-found.ensures (subst (λ ts. ArePosted ts c.args.posted.now) (sym seen) posted)
    ∙ ap (λ bs. found_under (station_among (states_of c.deref.result.now) set.receiver) k bs) c.deref-2.ensures.value
    ∙ ap (λ ts. found_under (station_among ts set.receiver) k set.bytes.items) seen)
    sent (sym c.in-Some.is ∙ c.in_ok-fate.ensures.fate answers)
