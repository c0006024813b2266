-- New bytes are put into a mailbox, as the next item.
use Rattle.std.proofs.Common.{◌≡◌, ◌∙◌, ◌+◌, sym, subst, None, IsTrue, rules}
use Rattle.x12_hub.specs.Hub.{decided}
use Rattle.x12_hub.specs.HubView.{HubView}
use Rattle.x12_hub.proofs.SoundLemmas.{sound_boxed}
use Rattle.x12_hub.proofs.StepLemmas.{put_new_is, keeps_put_new}
use Rattle.x12_hub.proofs.StoppedLemmas.{hub_untouched, hub_written}
use Rattle.x12_hub.proofs.hub.Hub.put_new.Goals as goal

pub write_put-requires-clause-fits : goal.write_put-requires-clause-fits
write_put-requires-clause-fits g c = λ answers.
    let both = subst (λ (v : HubView g.row.H.Denot). IsTrue v.answers → (c.args.item ≡ v.hub.item + 1) × (decided v.hub.decisions c.args.bytes.now ≡ None)) (sym c.self.view_is) c.requires.next answers in
    let next = both.0 in
    let new = both.1 in
    let keeps = c.self.invariant.2 answers in
    let s = g.H.HubRecords.content c.self.inside.records in
    rw (c.new-plan.ensures, c.in_ok-from_slice.ensures.items, keeps.icn, next)
    (sound_boxed s (g.met.H.HubRecords.sound c.self.inside.records c.self.invariant.0 answers) c.args.bytes.now new c.args.node)

pub invariant_of-self-2 : goal.invariant_of-self-2
invariant_of-self-2 g c =
    rw (c.absorb.ensures, c.in_ok-committed.ensures.plan, c.new-plan.ensures) (
      c.in_ok-committed.ensures.used.valid,
      c.self.invariant.1,
      λ answers.
          let before = c.in_ok-committed.ensures.never_won_back.0 answers in
          let keeps = c.self.invariant.2 before in
          let both = subst (λ (v : HubView g.row.H.Denot). IsTrue v.answers → (c.args.item ≡ v.hub.item + 1) × (decided v.hub.decisions c.args.bytes.now ≡ None)) (sym c.self.view_is) c.requires.next before in
          let next = both.0 in
          let new = both.1 in
          let s = g.H.HubRecords.content c.self.inside.records in
          rw (c.in_ok-committed.ensures.written answers, c.new-plan.ensures, c.in_ok-from_slice.ensures.items)
          (keeps_put_new c.self.inside.cached s keeps (g.met.H.HubRecords.sound c.self.inside.records c.self.invariant.0 before) c.args.bytes.now new c.write_put.new.mailboxes c.self.inside.cached.icn c.args.node c.args.item next c.in_ok-committed.ensures.put),
      c.in_ok-committed.ensures.used.hub c.self.inside.cached.me c.self.invariant.4 c.self.invariant.3,
      λ answers. c.in_ok-committed.ensures.used.party answers ∙ c.self.invariant.4 (c.in_ok-committed.ensures.never_won_back.0 answers),
    )

pub returns-clause-put : goal.returns-clause-put
returns-clause-put g c =
    rw (← c.self.view_is, c.absorb.ensures)
    (λ answers.
    let before = c.in_ok-committed.ensures.never_won_back.0 answers in
    let keeps = c.self.invariant.2 before in
    let both = subst (λ (v : HubView g.row.H.Denot). IsTrue v.answers → (c.args.item ≡ v.hub.item + 1) × (decided v.hub.decisions c.args.bytes.now ≡ None)) (sym c.self.view_is) c.requires.next before in
    let next = both.0 in
    let new = both.1 in
    let s = g.H.HubRecords.content c.self.inside.records in
    rw (c.in_ok-committed.ensures.written answers, c.new-plan.ensures, c.in_ok-from_slice.ensures.items, keeps.icn, next)
    (put_new_is c.self.inside.cached s keeps (g.met.H.HubRecords.sound c.self.inside.records c.self.invariant.0 before) c.args.bytes.now new c.self.inside.cached.me c.args.node))

pub invariant_of-self : goal.invariant_of-self
invariant_of-self g c = (
  c.in_err-committed.ensures.used.valid,
  c.self.invariant.1,
  search rules,
  c.in_err-committed.ensures.used.hub c.self.inside.cached.me c.self.invariant.4 c.self.invariant.3,
  λ answers. c.in_err-committed.ensures.used.party answers ∙ c.self.invariant.4 (c.in_err-committed.ensures.never_won_back.0 answers),
)

pub returns-in_err-from_slice-clause-crash : goal.returns-in_err-from_slice-clause-crash
returns-in_err-from_slice-clause-crash g c =
    rw (← c.self.view_is) (hub_untouched g.H.HubRecords _ c.self.inside.cached.me (λ d answers may. g.met.H.HubRecords.left_is_held c.self.inside.records d c.self.invariant.0 answers may))

pub returns-in_err-committed-clause-crash : goal.returns-in_err-committed-clause-crash
returns-in_err-committed-clause-crash g c =
    rw (← c.self.view_is)
    (hub_written g.H.HubRecords _ c.self.inside.cached.me _ (λ d answers may. g.met.H.HubRecords.left_is_held c.write_put.new.records d c.write_put.ensures.used.valid answers may) c.write_put.ensures.used
    (λ answers.
    let keeps = c.self.invariant.2 answers in
    let s = g.H.HubRecords.content c.self.inside.records in
    let both = subst (λ (v : HubView g.row.H.Denot). IsTrue v.answers → (c.args.item ≡ v.hub.item + 1) × (decided v.hub.decisions c.args.bytes.now ≡ None)) (sym c.self.view_is) c.requires.next answers in
    rw (c.new-plan.ensures, c.in_ok-from_slice.ensures.items, keeps.icn, both.0)
    (put_new_is c.self.inside.cached s keeps (g.met.H.HubRecords.sound c.self.inside.records c.self.invariant.0 answers) c.args.bytes.now both.1 c.self.inside.cached.me c.args.node)))

pub returns-clause-crash : goal.returns-clause-crash
returns-clause-crash g c =
    rw (← c.self.view_is, c.absorb.ensures)
    (hub_written g.H.HubRecords _ c.self.inside.cached.me _ (λ d answers may. g.met.H.HubRecords.left_is_held c.write_put.new.records d c.write_put.ensures.used.valid answers may) c.write_put.ensures.used
    (λ answers.
    let keeps = c.self.invariant.2 answers in
    let s = g.H.HubRecords.content c.self.inside.records in
    let both = subst (λ (v : HubView g.row.H.Denot). IsTrue v.answers → (c.args.item ≡ v.hub.item + 1) × (decided v.hub.decisions c.args.bytes.now ≡ None)) (sym c.self.view_is) c.requires.next answers in
    rw (c.new-plan.ensures, c.in_ok-from_slice.ensures.items, keeps.icn, both.0)
    (put_new_is c.self.inside.cached s keeps (g.met.H.HubRecords.sound c.self.inside.records c.self.invariant.0 answers) c.args.bytes.now both.1 c.self.inside.cached.me c.args.node)))
