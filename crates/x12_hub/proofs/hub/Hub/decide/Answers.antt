-- New bytes are decided by the directory.
use Rattle.std.proofs.Common.{◌≡◌, ◌∙◌, ◌+◌, ◌≤◌, sym, ap, subst, map, Some, None, IfErr, Option}
use Rattle.std.specs.Prelude.{option_map}
use Rattle.std.proofs.lemmas.Bool.{le-leb}
use Rattle.x12_numbers.specs.declared.book.TheConstants.{MAX_CONTROL_NUMBER}
use Rattle.x12_profile.specs.X12.{x12}
use Rattle.x12_profile.proofs.FieldLemmas.{receiver_is}
use Rattle.x12_hub.specs.declared.fault.HubFault.TheVariants as hub
use Rattle.x12_hub.specs.Hub.{HubStep, mailbox_of}
use Rattle.x12_hub.specs.HubView.{HubView}
use Rattle.x12_hub.specs.Record.{mailbox_view}
use Rattle.x12_hub.proofs.DepositLemmas.{put_at_is, put_at_step, refuse_at_is, same_ok}
use Rattle.x12_hub.proofs.StoppedLemmas.{hub_step_is, hub_untouched}
use Rattle.x12_hub.proofs.hub.Hub.decide.Goals as goal

pub returns-in-Some-clause-decided : goal.returns-in-Some-clause-decided
returns-in-Some-clause-decided g c = λ answers.
    let before = c.put_new.ensures.goes_on.never_won_back answers in
    let keeps = c.self.invariant.2 (ap (λ (v : HubView g.row.H.Denot). v.answers) c.self.view_is ∙ before) in
    let h = c.args.self.now.hub in
    let directory : map mailbox_view c.self.inside.cached.directory.items ≡ h.directory = keeps.directory ∙ ap (λ (v : HubView g.row.H.Denot). v.hub.directory) c.self.view_is in
    let next : c.in_ok-item.item ≡ h.item + 1 = c.in_ok-item.ensures.next ∙ ap (λ k. k + 1) (keeps.item ∙ ap (λ (v : HubView g.row.H.Denot). v.hub.item) c.self.view_is) in
    let box : mailbox_of h.directory (x12.receiver c.args.bytes.now) ≡ Some c.in-Some.node = rw (receiver_is c.args.bytes.now c.args.header.now c.requires.header, ← directory, ← c.deref.ensures.value) (sym c.in-Some.ensures) in
    put_at_is x12 h c.args.at.now c.args.bytes.now c.in-Some.node c.in_ok-item.item c.put_new.new.self.hub c.put_new.result (le-leb (h.item + 1) MAX_CONTROL_NUMBER (subst (λ k. k ≤ MAX_CONTROL_NUMBER) next c.in_ok-item.ensures.left)) box next (c.put_new.ensures.put answers) c.put_new.ensures.decision

pub returns-in-None-clause-decided : goal.returns-in-None-clause-decided
returns-in-None-clause-decided g c = λ answers.
    let before = c.refuse.ensures.goes_on.never_won_back answers in
    let keeps = c.self.invariant.2 (ap (λ (v : HubView g.row.H.Denot). v.answers) c.self.view_is ∙ before) in
    let h = c.args.self.now.hub in
    let directory : map mailbox_view c.self.inside.cached.directory.items ≡ h.directory = keeps.directory ∙ ap (λ (v : HubView g.row.H.Denot). v.hub.directory) c.self.view_is in
    let next : c.in_ok-item.item ≡ h.item + 1 = c.in_ok-item.ensures.next ∙ ap (λ k. k + 1) (keeps.item ∙ ap (λ (v : HubView g.row.H.Denot). v.hub.item) c.self.view_is) in
    let box : mailbox_of h.directory (x12.receiver c.args.bytes.now) ≡ None = rw (receiver_is c.args.bytes.now c.args.header.now c.requires.header, ← directory, ← c.deref.ensures.value) (sym c.in-None.ensures) in
    let left = le-leb (h.item + 1) MAX_CONTROL_NUMBER (subst (λ k. k ≤ MAX_CONTROL_NUMBER) next c.in_ok-item.ensures.left) in
    same_ok c.refuse.result _ _ c.refuse.new.self.hub (refuse_at_is x12 h c.args.at.now c.args.bytes.now left box) (c.refuse.ensures.refused answers)

pub returns-in-None-clause-exhausted : goal.returns-in-None-clause-exhausted
returns-in-None-clause-exhausted g c = λ answers.
    let before = c.refuse.ensures.goes_on.never_won_back answers in
    let keeps = c.self.invariant.2 (ap (λ (v : HubView g.row.H.Denot). v.answers) c.self.view_is ∙ before) in
    let h = c.args.self.now.hub in
    let directory : map mailbox_view c.self.inside.cached.directory.items ≡ h.directory = keeps.directory ∙ ap (λ (v : HubView g.row.H.Denot). v.hub.directory) c.self.view_is in
    let next : c.in_ok-item.item ≡ h.item + 1 = c.in_ok-item.ensures.next ∙ ap (λ k. k + 1) (keeps.item ∙ ap (λ (v : HubView g.row.H.Denot). v.hub.item) c.self.view_is) in
    let box : mailbox_of h.directory (x12.receiver c.args.bytes.now) ≡ None = rw (receiver_is c.args.bytes.now c.args.header.now c.requires.header, ← directory, ← c.deref.ensures.value) (sym c.in-None.ensures) in
    let left = le-leb (h.item + 1) MAX_CONTROL_NUMBER (subst (λ k. k ≤ MAX_CONTROL_NUMBER) next c.in_ok-item.ensures.left) in
    subst (λ (o : Option HubStep). IfErr c.refuse.result (λ e. e ≡ hub.Exhausted → o ≡ None)) (sym (refuse_at_is x12 h c.args.at.now c.args.bytes.now left box)) (c.refuse.ensures.exhausted answers)

pub returns-in_err-item-clause-crash : goal.returns-in_err-item-clause-crash
returns-in_err-item-clause-crash g c =
    rw (← c.self.view_is) (hub_untouched g.H.HubRecords _ c.self.inside.cached.me (λ d answers may. g.met.H.HubRecords.left_is_held c.self.inside.records d c.self.invariant.0 answers may))

pub returns-in-Some-clause-crash : goal.returns-in-Some-clause-crash
returns-in-Some-clause-crash g c = hub_step_is g.H.HubRecords (λ answers.
    let keeps = c.self.invariant.2 (ap (λ (v : HubView g.row.H.Denot). v.answers) c.self.view_is ∙ answers) in
    let h = c.args.self.now.hub in
    let directory : map mailbox_view c.self.inside.cached.directory.items ≡ h.directory = keeps.directory ∙ ap (λ (v : HubView g.row.H.Denot). v.hub.directory) c.self.view_is in
    let next : c.in_ok-item.item ≡ h.item + 1 = c.in_ok-item.ensures.next ∙ ap (λ k. k + 1) (keeps.item ∙ ap (λ (v : HubView g.row.H.Denot). v.hub.item) c.self.view_is) in
    let left = le-leb (h.item + 1) MAX_CONTROL_NUMBER (subst (λ k. k ≤ MAX_CONTROL_NUMBER) next c.in_ok-item.ensures.left) in
    let box : mailbox_of h.directory (x12.receiver c.args.bytes.now) ≡ Some c.in-Some.node = rw (receiver_is c.args.bytes.now c.args.header.now c.requires.header, ← directory, ← c.deref.ensures.value) (sym c.in-Some.ensures) in
    put_at_step x12 h c.args.at.now c.args.bytes.now c.in-Some.node c.in_ok-item.item left box next)
    c.put_new.ensures.crash

pub returns-in-None-clause-crash : goal.returns-in-None-clause-crash
returns-in-None-clause-crash g c = hub_step_is g.H.HubRecords (λ answers.
    let keeps = c.self.invariant.2 (ap (λ (v : HubView g.row.H.Denot). v.answers) c.self.view_is ∙ answers) in
    let h = c.args.self.now.hub in
    let directory : map mailbox_view c.self.inside.cached.directory.items ≡ h.directory = keeps.directory ∙ ap (λ (v : HubView g.row.H.Denot). v.hub.directory) c.self.view_is in
    let next : c.in_ok-item.item ≡ h.item + 1 = c.in_ok-item.ensures.next ∙ ap (λ k. k + 1) (keeps.item ∙ ap (λ (v : HubView g.row.H.Denot). v.hub.item) c.self.view_is) in
    let left = le-leb (h.item + 1) MAX_CONTROL_NUMBER (subst (λ k. k ≤ MAX_CONTROL_NUMBER) next c.in_ok-item.ensures.left) in
    let box : mailbox_of h.directory (x12.receiver c.args.bytes.now) ≡ None = rw (receiver_is c.args.bytes.now c.args.header.now c.requires.header, ← directory, ← c.deref.ensures.value) (sym c.in-None.ensures) in
    sym (ap (option_map (λ t. t.hub)) (refuse_at_is x12 h c.args.at.now c.args.bytes.now left box)))
    c.refuse.ensures.crash
