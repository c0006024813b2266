-- A party that isn't enrolled is dismissed by doing nothing.
use Rattle.std.proofs.Common.{◌≡◌, ◌∙◌, sym, ap, map, None}
use Rattle.x12_hub.specs.Hub.{mailbox_of}
use Rattle.x12_hub.specs.HubView.{HubView}
use Rattle.x12_hub.specs.Record.{mailbox_view}
use Rattle.x12_hub.proofs.StepLemmas.{dismissed_same}
use Rattle.x12_numbers.proofs.Shelf.{none_if_not_some}
use Rattle.x12_hub.proofs.StoppedLemmas.{hub_untouched, hub_written}
use Rattle.std.proofs.Common.{refl}
use Rattle.x12_hub.proofs.hub.Hub.dismiss.Goals as goal

pub returns-then-is_none-clause-dismissed : goal.returns-then-is_none-clause-dismissed
returns-then-is_none-clause-dismissed g c = λ answers.
    let keeps = c.self.invariant.2 (ap (λ (v : HubView g.row.H.Denot). v.answers) c.self.view_is ∙ answers) in
    let directory = ap (map mailbox_view) c.deref.ensures.value ∙ keeps.directory ∙ ap (λ (v : HubView g.row.H.Denot). v.hub.directory) c.self.view_is in
    let none : mailbox_of c.args.self.now.hub.directory c.args.party.now ≡ None = ap (λ ms. mailbox_of ms c.args.party.now) (sym directory) ∙ sym c.node_of.ensures ∙ none_if_not_some c.node_of.result c.if-is_none.ensures in
    dismissed_same c.args.self.now.hub c.args.party.now none

pub returns-then-is_none-clause-crash : goal.returns-then-is_none-clause-crash
returns-then-is_none-clause-crash g c =
    rw (← c.self.view_is) (hub_untouched g.H.HubRecords _ c.self.inside.cached.me (λ d answers may. g.met.H.HubRecords.left_is_held c.self.inside.records d c.self.invariant.0 answers may))

pub returns-in_err-committed-clause-crash : goal.returns-in_err-committed-clause-crash
returns-in_err-committed-clause-crash g c =
    rw (← c.self.view_is)
    (hub_written g.H.HubRecords _ c.self.inside.cached.me _ (λ d answers may. g.met.H.HubRecords.left_is_held c.write.new.records d c.write.ensures.used.valid answers may) c.write.ensures.used
    (λ answers.
    let keeps = c.self.invariant.2 answers in
    let s = g.H.HubRecords.content c.self.inside.records in
    rw (c.new-plan.ensures, keeps.icn, keeps.item) refl))

pub returns-clause-crash : goal.returns-clause-crash
returns-clause-crash g c =
    rw (← c.self.view_is, c.absorb.ensures)
    (hub_written g.H.HubRecords _ c.self.inside.cached.me _ (λ d answers may. g.met.H.HubRecords.left_is_held c.write.new.records d c.write.ensures.used.valid answers may) c.write.ensures.used
    (λ answers.
    let keeps = c.self.invariant.2 answers in
    let s = g.H.HubRecords.content c.self.inside.records in
    rw (c.new-plan.ensures, keeps.icn, keeps.item) refl))
