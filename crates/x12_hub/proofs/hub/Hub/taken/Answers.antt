-- An item is taken out of the records where it waits there.
use Rattle.std.proofs.Common.{◌∙◌, sym, ap, false, cond, is_eq, rules}
use Rattle.std.specs.BTreeSet.{contains}
use Rattle.x12_hub.specs.declared.cached.Cached.{Cached}
use Rattle.x12_hub.specs.Mailbox.{key_order}
use Rattle.x12_hub.proofs.SoundLemmas.{sound_taken}
use Rattle.x12_hub.proofs.CollectLemmas.{was_there}
use Rattle.x12_hub.proofs.StepLemmas.{taken_held, taken_is, not_taken_is, keeps_taken}
use Rattle.x12_hub.proofs.StoppedLemmas.{hub_untouched, hub_written}
use Rattle.x12_hub.proofs.hub.Hub.taken.Goals as goal

pub returns-then-not-contains-clause-taken : goal.returns-then-not-contains-clause-taken
returns-then-not-contains-clause-taken g c =
    rw (← c.self.view_is)
    (λ answers.
    let keeps = c.self.invariant.2 answers in
    let s = g.H.HubRecords.content c.self.inside.records in
    not_taken_is c.self.inside.cached.me s c.args.node c.args.item (g.met.H.HubRecords.sound c.self.inside.records c.self.invariant.0 answers) (sym (keeps.waiting c.args.node c.args.item) ∙ sym c.contains.ensures ∙ c.if-not-contains.true))

pub returns-then-not-contains-clause-was_there : goal.returns-then-not-contains-clause-was_there
returns-then-not-contains-clause-was_there g c =
    rw (← c.self.view_is)
    (λ answers.
    let keeps = c.self.invariant.2 answers in
    let s = g.H.HubRecords.content c.self.inside.records in
    sym c.if-not-contains.true ∙ c.contains.ensures ∙ keeps.waiting c.args.node c.args.item ∙ sym (was_there c.self.inside.cached.me s c.args.node c.args.item (g.met.H.HubRecords.sound c.self.inside.records c.self.invariant.0 answers)))

pub write-requires-clause-fits : goal.write-requires-clause-fits
write-requires-clause-fits g c = λ answers.
    let keeps = c.self.invariant.2 answers in
    rw (c.new-plan.ensures, keeps.icn, keeps.item)
    (sound_taken (g.H.HubRecords.content c.self.inside.records) c.args.item (g.met.H.HubRecords.sound c.self.inside.records c.self.invariant.0 answers))

pub invariant_of-self-2 : goal.invariant_of-self-2
invariant_of-self-2 g c =
    rw (c.absorb.ensures, c.in_ok-committed.ensures.plan, c.new-plan.ensures) (
      c.in_ok-committed.ensures.used.valid,
      c.self.invariant.1,
      λ answers.
          let was = c.in_ok-committed.ensures.never_won_back.0 answers in
          let keeps = c.self.invariant.2 was in
          let s = g.H.HubRecords.content c.self.inside.records in
          rw (c.in_ok-committed.ensures.written answers, c.new-plan.ensures)
          (keeps_taken c.self.inside.cached s c.remove.new.self c.args.node c.args.item keeps (g.met.H.HubRecords.sound c.self.inside.records c.self.invariant.0 was) (sym c.contains.ensures ∙ c.if-not-contains.false)
          (λ q. c.remove.ensures.updates.0 q ∙ ap (λ (k : Cached). cond (is_eq (key_order (c.args.node, c.args.item) q)) false (contains key_order k.mailboxes q)) c.absorb.ensures)),
      c.in_ok-committed.ensures.used.hub c.self.inside.cached.me c.self.invariant.4 c.self.invariant.3,
      λ answers. c.in_ok-committed.ensures.used.party answers ∙ c.self.invariant.4 (c.in_ok-committed.ensures.never_won_back.0 answers),
    )

pub returns-clause-taken : goal.returns-clause-taken
returns-clause-taken g c =
    rw (← c.self.view_is, c.absorb.ensures)
    (λ answers.
    let was = c.in_ok-committed.ensures.never_won_back.0 answers in
    let keeps = c.self.invariant.2 was in
    let s = g.H.HubRecords.content c.self.inside.records in
    rw (c.in_ok-committed.ensures.written answers, c.new-plan.ensures, keeps.icn, keeps.item)
    (taken_is c.self.inside.cached.me s c.args.node c.args.item (g.met.H.HubRecords.sound c.self.inside.records c.self.invariant.0 was) (sym (keeps.waiting c.args.node c.args.item) ∙ sym c.contains.ensures ∙ c.if-not-contains.false)))

pub returns-clause-was_there : goal.returns-clause-was_there
returns-clause-was_there g c =
    rw (← c.self.view_is)
    (λ answers.
    let was = c.in_ok-committed.ensures.never_won_back.0 answers in
    let keeps = c.self.invariant.2 was in
    let s = g.H.HubRecords.content c.self.inside.records in
    sym c.if-not-contains.false ∙ c.contains.ensures ∙ keeps.waiting c.args.node c.args.item ∙ sym (was_there c.self.inside.cached.me s c.args.node c.args.item (g.met.H.HubRecords.sound c.self.inside.records c.self.invariant.0 was)))

pub invariant_of-self : goal.invariant_of-self
invariant_of-self g c = (
  c.in_err-committed.ensures.used.valid,
  c.self.invariant.1,
  search rules,
  c.in_err-committed.ensures.used.hub c.self.inside.cached.me c.self.invariant.4 c.self.invariant.3,
  λ answers. c.in_err-committed.ensures.used.party answers ∙ c.self.invariant.4 (c.in_err-committed.ensures.never_won_back.0 answers),
)

pub returns-then-not-contains-clause-crash : goal.returns-then-not-contains-clause-crash
returns-then-not-contains-clause-crash g c =
    rw (← c.self.view_is) (hub_untouched g.H.HubRecords _ c.self.inside.cached.me (λ d answers may. g.met.H.HubRecords.left_is_held c.self.inside.records d c.self.invariant.0 answers may))

pub returns-in_err-committed-clause-crash : goal.returns-in_err-committed-clause-crash
returns-in_err-committed-clause-crash g c =
    rw (← c.self.view_is)
    (hub_written g.H.HubRecords _ c.self.inside.cached.me _ (λ d answers may. g.met.H.HubRecords.left_is_held c.write.new.records d c.write.ensures.used.valid answers may) c.write.ensures.used
    (λ answers.
    let keeps = c.self.invariant.2 answers in
    let s = g.H.HubRecords.content c.self.inside.records in
    rw (c.new-plan.ensures, keeps.icn, keeps.item)
    (taken_held c.self.inside.cached.me s c.args.node c.args.item (g.met.H.HubRecords.sound c.self.inside.records c.self.invariant.0 answers) (sym (keeps.waiting c.args.node c.args.item) ∙ sym c.contains.ensures ∙ c.if-not-contains.false))))

pub returns-clause-crash : goal.returns-clause-crash
returns-clause-crash g c =
    rw (← c.self.view_is, c.absorb.ensures)
    (hub_written g.H.HubRecords _ c.self.inside.cached.me _ (λ d answers may. g.met.H.HubRecords.left_is_held c.write.new.records d c.write.ensures.used.valid answers may) c.write.ensures.used
    (λ answers.
    let keeps = c.self.invariant.2 answers in
    let s = g.H.HubRecords.content c.self.inside.records in
    rw (c.new-plan.ensures, keeps.icn, keeps.item)
    (taken_held c.self.inside.cached.me s c.args.node c.args.item (g.met.H.HubRecords.sound c.self.inside.records c.self.invariant.0 answers) (sym (keeps.waiting c.args.node c.args.item) ∙ sym c.contains.ensures ∙ c.if-not-contains.false))))
