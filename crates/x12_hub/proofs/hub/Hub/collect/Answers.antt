-- What is collected are the items of the mailbox, each with its bytes.
use Rattle.std.proofs.Common.{◌≡◌, ◌∙◌, sym, ap, subst, map, ℕ, List, IfOk, arith}
use Rattle.std.proofs.lemmas.Grind.{common_steps}
use Rattle.x12_profile.specs.Interchange.{Bytes}
use Rattle.x12_hub.specs.Hub.{Hub}
use Rattle.x12_hub.specs.HubView.{HubView}
use Rattle.x12_hub.specs.Mailbox.{item_view, with_bytes}
use Rattle.x12_hub.proofs.CollectLemmas.{Collected, collected}
use Rattle.x12_hub.proofs.StoppedLemmas.{hub_asked, hub_untouched}
use Rattle.x12_hub.proofs.hub.Hub.collect.Goals as goal

pub returns-clause-items : goal.returns-clause-items
returns-clause-items g c = λ answers.
    let before = c.with_bytes.ensures.asked.never_won_back answers in
    let s = g.H.HubRecords.content c.self.inside.records in
    let sound = g.met.H.HubRecords.sound c.self.inside.records c.self.invariant.0 before in
    let hub_is = ap (λ (v : HubView g.row.H.Denot). v.hub) c.self.view_is in
    let all = subst (λ (h : Hub). Collected h c.args.node s.decisions h.decisions s.waiting) hub_is (collected c.self.inside.cached.me s c.args.node sound) in
    let items = c.deref.ensures.value ∙ c.in_ok-items.ensures.items (sym (ap (λ (v : HubView g.row.H.Denot). v.answers) c.self.view_is) ∙ before) ∙ all.numbers in
    subst (λ (x : List (ℕ × Bytes)). IfOk c.with_bytes.result (λ v. map item_view v.items ≡ x)) (ap (with_bytes s.decisions) items ∙ sym all.items) (c.with_bytes.ensures.items answers)

pub returns-in_err-items-clause-crash : goal.returns-in_err-items-clause-crash
returns-in_err-items-clause-crash g c =
    rw (← c.self.view_is) (hub_untouched g.H.HubRecords _ c.self.inside.cached.me (λ d answers may. g.met.H.HubRecords.left_is_held c.self.inside.records d c.self.invariant.0 answers may))

pub returns-clause-crash : goal.returns-clause-crash
returns-clause-crash g c =
    rw (← c.self.view_is) (hub_asked g.H.HubRecords _ c.self.inside.cached.me (λ d answers may. g.met.H.HubRecords.left_is_held c.with_bytes.new.records d c.with_bytes.ensures.asked.valid answers may) c.with_bytes.ensures.asked.leaves)

pub returns-clause-bounded : goal.returns-clause-bounded
returns-clause-bounded g c = grind (arith, common_steps)
