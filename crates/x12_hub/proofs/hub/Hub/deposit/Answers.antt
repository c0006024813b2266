-- Deposited bytes get the decision that is found, or a new one.
use Rattle.std.proofs.Common.{◌≡◌, ◌∙◌, sym, ap, subst, Some, None, IfErr}
use Rattle.std.specs.Prelude.{option_map}
use Rattle.x12_profile.specs.X12.{x12}
use Rattle.x12_profile.proofs.FieldLemmas.{has_header_is}
use Rattle.x12_hub.specs.declared.fault.HubFault.TheVariants as hub
use Rattle.x12_hub.specs.Hub.{decided, deposit, deposit_at, deposit_again}
use Rattle.x12_hub.specs.Record.{decision_view}
use Rattle.x12_hub.specs.Stored.{HubStored, hub_of}
use Rattle.x12_hub.proofs.DepositLemmas.{again_is, new_is, some_ok, same_ok, exhausted_err}
use Rattle.x12_hub.proofs.StoppedLemmas.{hub_asked, hub_only_asked, hub_then, hub_untouched}
use Rattle.x12_hub.proofs.hub.Hub.deposit.Goals as goal

pub returns-in-Some-clause-decided : goal.returns-in-Some-clause-decided
returns-in-Some-clause-decided g c =
    rw (← c.self.view_is)
    (λ answers.
    let mid = c.give_again.ensures.goes_on.never_won_back answers in
    let b = c.args.bytes.now in
    let same = c.in_ok-decision.ensures.same mid in
    let header = has_header_is b c.in_ok-header.header (sym c.in_ok-header.ensures) in
    let old = hub_of c.self.inside.cached.me (g.H.HubRecords.content c.self.inside.records) in
    let found : decided old.decisions b ≡ Some (decision_view c.in-Some.decision) = sym (c.in_ok-decision.ensures.found mid) ∙ ap (option_map decision_view) c.in-Some.is in
    let step : deposit x12 old c.args.at.now b ≡ Some (deposit_again (hub_of c.self.inside.cached.me (g.H.HubRecords.content c.find_decision.new.self)) (decision_view c.in-Some.decision)) =
    rw same (again_is x12 old c.args.at.now b (decision_view c.in-Some.decision) header found) in
    some_ok c.give_again.result _ _ c.give_again.new.self.hub step (c.give_again.ensures.again answers))

pub returns-in-None-clause-decided : goal.returns-in-None-clause-decided
returns-in-None-clause-decided g c =
    rw (← c.self.view_is)
    (λ answers.
    let mid = c.decide.ensures.goes_on.never_won_back answers in
    let b = c.args.bytes.now in
    let same = c.in_ok-decision.ensures.same mid in
    let header = has_header_is b c.in_ok-header.header (sym c.in_ok-header.ensures) in
    let old = hub_of c.self.inside.cached.me (g.H.HubRecords.content c.self.inside.records) in
    let none : decided old.decisions b ≡ None = sym (c.in_ok-decision.ensures.found mid) ∙ ap (option_map decision_view) c.in-None.is in
    let step : deposit x12 old c.args.at.now b ≡ deposit_at x12 (hub_of c.self.inside.cached.me (g.H.HubRecords.content c.find_decision.new.self)) c.args.at.now b None =
    rw same (new_is x12 old c.args.at.now b header none) in
    same_ok c.decide.result _ _ c.decide.new.self.hub step (c.decide.ensures.decided answers))

pub returns-in-None-clause-exhausted : goal.returns-in-None-clause-exhausted
returns-in-None-clause-exhausted g c =
    rw (← c.self.view_is)
    (λ answers.
    let mid = c.decide.ensures.goes_on.never_won_back answers in
    let b = c.args.bytes.now in
    let same = c.in_ok-decision.ensures.same mid in
    let header = has_header_is b c.in_ok-header.header (sym c.in_ok-header.ensures) in
    let old = hub_of c.self.inside.cached.me (g.H.HubRecords.content c.self.inside.records) in
    let none : decided old.decisions b ≡ None = sym (c.in_ok-decision.ensures.found mid) ∙ ap (option_map decision_view) c.in-None.is in
    let stuck = subst (λ (s : HubStored). IfErr c.decide.result (λ e. e ≡ hub.Exhausted → deposit_at x12 (hub_of c.self.inside.cached.me s) c.args.at.now b None ≡ None)) same (c.decide.ensures.exhausted answers) in
    exhausted_err c.decide.result x12 old c.args.at.now b header none stuck)

pub returns-in_err-header-clause-crash : goal.returns-in_err-header-clause-crash
returns-in_err-header-clause-crash g c =
    rw (← c.self.view_is) (hub_untouched g.H.HubRecords _ c.self.inside.cached.me (λ d answers may. g.met.H.HubRecords.left_is_held c.self.inside.records d c.self.invariant.0 answers may))

pub returns-in_err-decision-clause-crash : goal.returns-in_err-decision-clause-crash
returns-in_err-decision-clause-crash g c =
    rw (← c.self.view_is) (hub_asked g.H.HubRecords _ c.self.inside.cached.me (λ d answers may. g.met.H.HubRecords.left_is_held c.find_decision.new.self d c.find_decision.ensures.valid answers may) (hub_only_asked g.H.HubRecords c.find_decision.ensures.crash))

pub returns-in-Some-clause-crash : goal.returns-in-Some-clause-crash
returns-in-Some-clause-crash g c =
    rw (← c.self.view_is)
    (hub_then g.H.HubRecords _ c.self.inside.cached.me _ (hub_only_asked g.H.HubRecords c.find_decision.ensures.crash) c.find_decision.ensures.never_won_back c.give_again.ensures.goes_on.was_clean c.give_again.ensures.crash
    (λ mid.
    let b = c.args.bytes.now in
    let header = has_header_is b c.in_ok-header.header (sym c.in_ok-header.ensures) in
    let old = hub_of c.self.inside.cached.me (g.H.HubRecords.content c.self.inside.records) in
    let found : decided old.decisions b ≡ Some (decision_view c.in-Some.decision) = sym (c.in_ok-decision.ensures.found mid) ∙ ap (option_map decision_view) c.in-Some.is in
    rw (c.in_ok-decision.ensures.same mid) (sym (ap (option_map (λ t. t.hub)) (again_is x12 old c.args.at.now b (decision_view c.in-Some.decision) header found)))))

pub returns-in-None-clause-crash : goal.returns-in-None-clause-crash
returns-in-None-clause-crash g c =
    rw (← c.self.view_is)
    (hub_then g.H.HubRecords _ c.self.inside.cached.me _ (hub_only_asked g.H.HubRecords c.find_decision.ensures.crash) c.find_decision.ensures.never_won_back c.decide.ensures.goes_on.was_clean c.decide.ensures.crash
    (λ mid.
    let b = c.args.bytes.now in
    let header = has_header_is b c.in_ok-header.header (sym c.in_ok-header.ensures) in
    let old = hub_of c.self.inside.cached.me (g.H.HubRecords.content c.self.inside.records) in
    let none : decided old.decisions b ≡ None = sym (c.in_ok-decision.ensures.found mid) ∙ ap (option_map decision_view) c.in-None.is in
    rw (c.in_ok-decision.ensures.same mid) (sym (ap (option_map (λ t. t.hub)) (new_is x12 old c.args.at.now b header none)))))

pub give_again-requires-clause-kept : goal.give_again-requires-clause-kept
give_again-requires-clause-kept g c = λ answers d may. ap (hub_of c.self.inside.cached.me) (g.met.H.HubRecords.left_is_held c.find_decision.new.self d c.find_decision.ensures.valid answers may)
