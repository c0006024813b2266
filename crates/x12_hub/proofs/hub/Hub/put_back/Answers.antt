-- An item is put back into the mailbox that it was decided for.
use Rattle.std.proofs.Common.{◌≡◌, ◌∙◌, sym, subst, Some, IsTrue, rules}
use Rattle.x12_profile.specs.Interchange.{Bytes}
use Rattle.x12_hub.specs.Hub.{Boxed, decided}
use Rattle.x12_hub.specs.HubView.{HubView}
use Rattle.x12_hub.proofs.SoundLemmas.{sound_put_back}
use Rattle.x12_hub.proofs.StepLemmas.{put_back_is, keeps_put_back}
use Rattle.x12_hub.proofs.StoppedLemmas.{hub_untouched, hub_written}
use Rattle.x12_hub.proofs.AgainLemmas.{still_waits}
use Rattle.x12_hub.proofs.hub.Hub.put_back.Goals as goal

-- it waits there still
pub returns-then-contains-clause-back : goal.returns-then-contains-clause-back
returns-then-contains-clause-back g c =
    rw (← c.self.view_is)
    (λ answers.
    let keeps = c.self.invariant.2 answers in
    let s = g.H.HubRecords.content c.self.inside.records in
    still_waits c.self.inside.cached.me s c.args.node c.args.item (g.met.H.HubRecords.sound c.self.inside.records c.self.invariant.0 answers) (sym (keeps.waiting c.args.node c.args.item) ∙ sym c.contains.ensures ∙ c.if-contains.true))

pub returns-then-contains-clause-crash : goal.returns-then-contains-clause-crash
returns-then-contains-clause-crash g c =
    rw (← c.self.view_is)
    (hub_untouched g.H.HubRecords _ c.self.inside.cached.me (λ d answers may. g.met.H.HubRecords.left_is_held c.self.inside.records d c.self.invariant.0 answers may))

pub write_put-requires-clause-fits : goal.write_put-requires-clause-fits
write_put-requires-clause-fits g c = λ answers.
    let keeps = c.self.invariant.2 answers in
    let was = subst (λ (v : HubView g.row.H.Denot). IsTrue v.answers → (x : Bytes) × (decided v.hub.decisions x ≡ Some (Boxed c.args.node c.args.item))) (sym c.self.view_is) c.requires answers in
    let s = g.H.HubRecords.content c.self.inside.records in
    rw (c.new-plan.ensures, keeps.icn, keeps.item)
    (sound_put_back s was.0 c.args.node c.args.item (g.met.H.HubRecords.sound c.self.inside.records c.self.invariant.0 answers) was.1)

pub invariant_of-self-2 : goal.invariant_of-self-2
invariant_of-self-2 g c =
    rw (c.absorb.ensures, c.in_ok-committed.ensures.plan, c.new-plan.ensures) (
      c.in_ok-committed.ensures.used.valid,
      c.self.invariant.1,
      λ answers.
          let before = c.in_ok-committed.ensures.never_won_back.0 answers in
          let keeps = c.self.invariant.2 before in
          let was = subst (λ (v : HubView g.row.H.Denot). IsTrue v.answers → (x : Bytes) × (decided v.hub.decisions x ≡ Some (Boxed c.args.node c.args.item))) (sym c.self.view_is) c.requires before in
          let s = g.H.HubRecords.content c.self.inside.records in
          rw (c.in_ok-committed.ensures.written answers, c.new-plan.ensures)
          (keeps_put_back c.self.inside.cached s c.write_put.new.mailboxes c.args.node c.args.item keeps (g.met.H.HubRecords.sound c.self.inside.records c.self.invariant.0 before) was.0 was.1 c.in_ok-committed.ensures.put),
      c.in_ok-committed.ensures.used.hub c.self.inside.cached.me c.self.invariant.4 c.self.invariant.3,
      λ answers. c.in_ok-committed.ensures.used.party answers ∙ c.self.invariant.4 (c.in_ok-committed.ensures.never_won_back.0 answers),
    )

pub returns-clause-back : goal.returns-clause-back
returns-clause-back g c =
    rw (← c.self.view_is, c.absorb.ensures)
    (λ answers.
    let before = c.in_ok-committed.ensures.never_won_back.0 answers in
    let keeps = c.self.invariant.2 before in
    let was = subst (λ (v : HubView g.row.H.Denot). IsTrue v.answers → (x : Bytes) × (decided v.hub.decisions x ≡ Some (Boxed c.args.node c.args.item))) (sym c.self.view_is) c.requires before in
    let s = g.H.HubRecords.content c.self.inside.records in
    rw (c.in_ok-committed.ensures.written answers, c.new-plan.ensures, keeps.icn, keeps.item)
    (put_back_is c.self.inside.cached s c.write_put.new.mailboxes c.args.node c.args.item keeps (g.met.H.HubRecords.sound c.self.inside.records c.self.invariant.0 before) was.0 was.1 c.self.inside.cached.me))

pub invariant_of-self : goal.invariant_of-self
invariant_of-self g c = (
  c.in_err-committed.ensures.used.valid,
  c.self.invariant.1,
  search rules,
  c.in_err-committed.ensures.used.hub c.self.inside.cached.me c.self.invariant.4 c.self.invariant.3,
  λ answers. c.in_err-committed.ensures.used.party answers ∙ c.self.invariant.4 (c.in_err-committed.ensures.never_won_back.0 answers),
)

pub returns-in_err-committed-clause-crash : goal.returns-in_err-committed-clause-crash
returns-in_err-committed-clause-crash g c =
    rw (← c.self.view_is)
    (hub_written g.H.HubRecords _ c.self.inside.cached.me _ (λ d answers may. g.met.H.HubRecords.left_is_held c.write_put.new.records d c.write_put.ensures.used.valid answers may) c.write_put.ensures.used
    (λ answers.
    let keeps = c.self.invariant.2 answers in
    let s = g.H.HubRecords.content c.self.inside.records in
    let was = subst (λ (v : HubView g.row.H.Denot). IsTrue v.answers → (x : Bytes) × (decided v.hub.decisions x ≡ Some (Boxed c.args.node c.args.item))) (sym c.self.view_is) c.requires answers in
    rw (c.new-plan.ensures, keeps.icn, keeps.item)
    (put_back_is c.self.inside.cached s c.self.inside.cached.mailboxes c.args.node c.args.item keeps (g.met.H.HubRecords.sound c.self.inside.records c.self.invariant.0 answers) was.0 was.1 c.self.inside.cached.me)))

pub returns-clause-crash : goal.returns-clause-crash
returns-clause-crash g c =
    rw (← c.self.view_is, c.absorb.ensures)
    (hub_written g.H.HubRecords _ c.self.inside.cached.me _ (λ d answers may. g.met.H.HubRecords.left_is_held c.write_put.new.records d c.write_put.ensures.used.valid answers may) c.write_put.ensures.used
    (λ answers.
    let keeps = c.self.invariant.2 answers in
    let s = g.H.HubRecords.content c.self.inside.records in
    let was = subst (λ (v : HubView g.row.H.Denot). IsTrue v.answers → (x : Bytes) × (decided v.hub.decisions x ≡ Some (Boxed c.args.node c.args.item))) (sym c.self.view_is) c.requires answers in
    rw (c.new-plan.ensures, keeps.icn, keeps.item)
    (put_back_is c.self.inside.cached s c.self.inside.cached.mailboxes c.args.node c.args.item keeps (g.met.H.HubRecords.sound c.self.inside.records c.self.invariant.0 answers) was.0 was.1 c.self.inside.cached.me)))
