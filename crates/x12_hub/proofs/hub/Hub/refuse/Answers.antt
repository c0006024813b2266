-- New bytes are refused, under the next numbers.
use Rattle.std.proofs.Common.{◌≡◌, ◌+◌, ◌≤◌, sym, subst, None, IsTrue, ◌∙◌, rules}
use Rattle.x12_numbers.specs.declared.book.TheConstants.{MAX_CONTROL_NUMBER}
use Rattle.x12_hub.specs.Hub.{decided}
use Rattle.x12_hub.specs.HubView.{HubView}
use Rattle.x12_hub.proofs.SoundLemmas.{sound_refused}
use Rattle.x12_hub.proofs.StepLemmas.{refused_held, refused_is}
use Rattle.x12_hub.proofs.StoppedLemmas.{hub_untouched, hub_written}
use Rattle.x12_hub.proofs.hub.Hub.refuse.Goals as goal

pub write-requires-clause-fits : goal.write-requires-clause-fits
write-requires-clause-fits g c = λ answers.
    let both = subst (λ (v : HubView g.row.H.Denot). IsTrue v.answers → (c.args.item ≡ v.hub.item + 1) × (decided v.hub.decisions c.args.bytes.now ≡ None)) (sym c.self.view_is) c.requires.next answers in
    let next = both.0 in
    let new = both.1 in
    let keeps = c.self.invariant.2 answers in
    let s = g.H.HubRecords.content c.self.inside.records in
    let icn : c.in_ok-icn.icn ≡ s.icn + 1 = subst (λ k. c.in_ok-icn.icn ≡ k + 1) keeps.icn c.in_ok-icn.ensures.next in
    rw (c.new.ensures, c.in_ok-from_slice.ensures.items, c.in_ok-copied.ensures, icn, next)
    (sound_refused s (g.met.H.HubRecords.sound c.self.inside.records c.self.invariant.0 answers) c.args.bytes.now new c.in_ok-reply.reply.items)

pub returns-clause-refused : goal.returns-clause-refused
returns-clause-refused g c =
    rw (← c.self.view_is, c.absorb.ensures)
    (λ answers.
    let before = c.in_ok-committed.ensures.never_won_back.0 answers in
    let keeps = c.self.invariant.2 before in
    let both = subst (λ (v : HubView g.row.H.Denot). IsTrue v.answers → (c.args.item ≡ v.hub.item + 1) × (decided v.hub.decisions c.args.bytes.now ≡ None)) (sym c.self.view_is) c.requires.next before in
    let next = both.0 in
    let s = g.H.HubRecords.content c.self.inside.records in
    let icn : c.in_ok-icn.icn ≡ s.icn + 1 = subst (λ k. c.in_ok-icn.icn ≡ k + 1) keeps.icn c.in_ok-icn.ensures.next in
    rw (c.in_ok-committed.ensures.written answers, c.new.ensures, c.in_ok-from_slice.ensures.items, c.in_ok-copied.ensures, icn, next)
    (refused_is c.self.inside.cached.me c.args.at.now s c.args.bytes.now c.args.header.now c.in_ok-reply.reply.items c.requires.header
    (subst (λ k. k ≤ MAX_CONTROL_NUMBER) icn c.in_ok-icn.ensures.left)
    (rw (← icn) c.in_ok-reply.ensures.refusal)))

pub invariant_of-self : goal.invariant_of-self
invariant_of-self g c = (
  c.in_err-committed.ensures.used.valid,
  c.self.invariant.1,
  search rules,
  c.in_err-committed.ensures.used.hub c.self.inside.cached.me c.self.invariant.4 c.self.invariant.3,
  λ answers. c.in_err-committed.ensures.used.party answers ∙ c.self.invariant.4 (c.in_err-committed.ensures.never_won_back.0 answers),
)

pub returns-in_err-icn-clause-crash : goal.returns-in_err-icn-clause-crash
returns-in_err-icn-clause-crash g c =
    rw (← c.self.view_is) (hub_untouched g.H.HubRecords _ c.self.inside.cached.me (λ d answers may. g.met.H.HubRecords.left_is_held c.self.inside.records d c.self.invariant.0 answers may))

pub returns-in_err-reply-clause-crash : goal.returns-in_err-reply-clause-crash
returns-in_err-reply-clause-crash g c =
    rw (← c.self.view_is) (hub_untouched g.H.HubRecords _ c.self.inside.cached.me (λ d answers may. g.met.H.HubRecords.left_is_held c.self.inside.records d c.self.invariant.0 answers may))

pub returns-in_err-from_slice-clause-crash : goal.returns-in_err-from_slice-clause-crash
returns-in_err-from_slice-clause-crash g c =
    rw (← c.self.view_is) (hub_untouched g.H.HubRecords _ c.self.inside.cached.me (λ d answers may. g.met.H.HubRecords.left_is_held c.self.inside.records d c.self.invariant.0 answers may))

pub returns-in_err-copied-clause-crash : goal.returns-in_err-copied-clause-crash
returns-in_err-copied-clause-crash g c =
    rw (← c.self.view_is) (hub_untouched g.H.HubRecords _ c.self.inside.cached.me (λ d answers may. g.met.H.HubRecords.left_is_held c.self.inside.records d c.self.invariant.0 answers may))

pub returns-in_err-committed-clause-crash : goal.returns-in_err-committed-clause-crash
returns-in_err-committed-clause-crash g c =
    rw (← c.self.view_is)
    (hub_written g.H.HubRecords _ c.self.inside.cached.me _ (λ d answers may. g.met.H.HubRecords.left_is_held c.write.new.records d c.write.ensures.used.valid answers may) c.write.ensures.used
    (λ answers.
    let keeps = c.self.invariant.2 answers in
    let s = g.H.HubRecords.content c.self.inside.records in
    let both = subst (λ (v : HubView g.row.H.Denot). IsTrue v.answers → (c.args.item ≡ v.hub.item + 1) × (decided v.hub.decisions c.args.bytes.now ≡ None)) (sym c.self.view_is) c.requires.next answers in
    let icn : c.in_ok-icn.icn ≡ s.icn + 1 = subst (λ k. c.in_ok-icn.icn ≡ k + 1) keeps.icn c.in_ok-icn.ensures.next in
    rw (c.new.ensures, c.in_ok-from_slice.ensures.items, c.in_ok-copied.ensures, icn, both.0)
    (refused_held c.self.inside.cached.me c.args.at.now s c.args.bytes.now c.args.header.now c.in_ok-reply.reply.items c.requires.header
    (subst (λ k. k ≤ MAX_CONTROL_NUMBER) icn c.in_ok-icn.ensures.left)
    (rw (← icn) c.in_ok-reply.ensures.refusal))))

pub returns-clause-crash : goal.returns-clause-crash
returns-clause-crash g c =
    rw (← c.self.view_is, c.absorb.ensures)
    (hub_written g.H.HubRecords _ c.self.inside.cached.me _ (λ d answers may. g.met.H.HubRecords.left_is_held c.write.new.records d c.write.ensures.used.valid answers may) c.write.ensures.used
    (λ answers.
    let keeps = c.self.invariant.2 answers in
    let s = g.H.HubRecords.content c.self.inside.records in
    let both = subst (λ (v : HubView g.row.H.Denot). IsTrue v.answers → (c.args.item ≡ v.hub.item + 1) × (decided v.hub.decisions c.args.bytes.now ≡ None)) (sym c.self.view_is) c.requires.next answers in
    let icn : c.in_ok-icn.icn ≡ s.icn + 1 = subst (λ k. c.in_ok-icn.icn ≡ k + 1) keeps.icn c.in_ok-icn.ensures.next in
    rw (c.new.ensures, c.in_ok-from_slice.ensures.items, c.in_ok-copied.ensures, icn, both.0)
    (refused_held c.self.inside.cached.me c.args.at.now s c.args.bytes.now c.args.header.now c.in_ok-reply.reply.items c.requires.header
    (subst (λ k. k ≤ MAX_CONTROL_NUMBER) icn c.in_ok-icn.ensures.left)
    (rw (← icn) c.in_ok-reply.ensures.refusal))))
