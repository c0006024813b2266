use Rattle.std.proofs.Common.{rules, ◌≡◌, ap, sym, subst, ◌∙◌}
use Rattle.x12_outbound.specs.Entry.{entry_row}
use Rattle.x12_outbound.specs.Ledger.{MayBeAdded, with_interchange}
use Rattle.x12_outbound.specs.Schedule.{sent_at, unsent_schedule}
use Rattle.x12_outbound.specs.Hubs.{hubs_of}
use Rattle.x12_station.specs.Plan.{Commit, stored_after}
use Rattle.x12_station.specs.Stored.{IsSound}
use Rattle.x12_station.specs.Durable.{IsHistoryOf}
use Rattle.x12_station.proofs.StandingLemmas.{left_after, refused_so, same_holds}
use Rattle.x12_station.proofs.EnteringLemmas.{change_is, durable_entered, durable_planned, keeps_entered, next, plan_of, ready_entered, sound_entered, state_entered, whole}
use Rattle.x12_station.proofs.entering.enter.Goals as goal

pub new-plan-requires : goal.new-plan-requires
new-plan-requires g c = whole c.args.memory.now c.requires.stands.ready c.args.prepared.book (entry_row c.args.prepared.entry) c.requires.may

pub write-requires : goal.write-requires
write-requires g c = record {
  valid = c.requires.stands.valid;
  fits = λ answers.
      let s = g.R.Records.content c.args.records.now in
      subst (λ p. IsSound (stored_after p s)) (sym c.new-plan.ensures)
      (sound_entered c.args.memory.now c.requires.stands.ready c.args.prepared.book (entry_row c.args.prepared.entry) c.requires.may s (c.requires.stands.held answers));
}

pub entry-entry-requires : goal.entry-entry-requires
entry-entry-requires g c = (entry_row c.args.prepared.entry, ap (λ (p : Commit). p.change) (c.in_ok-write.ensures.plan ∙ c.new-plan.ensures))

-- what comes back of the plan is what was planned
pub add-requires : goal.add-requires
add-requires g c =
    let m = c.args.memory.now in
    let e = entry_row c.args.prepared.entry in
    let same : e ≡ entry_row c.entry-entry.result = change_is e (entry_row c.entry-entry.result) (sym (ap (λ (p : Commit). p.change) (c.in_ok-write.ensures.plan ∙ c.new-plan.ensures)) ∙ c.entry-entry.ensures) in
    subst (MayBeAdded c.reserve.new.self.holds) same (next m c.requires.stands.ready c.args.prepared.book e c.requires.may c.reserve.new.self.holds c.in_ok-reserve.ensures.unchanged)

pub returns-clause-stands : goal.returns-clause-stands
returns-clause-stands g c =
    let m = c.args.memory.now in
    let e = entry_row c.args.prepared.entry in
    let same : e ≡ entry_row c.entry-entry.result = change_is e (entry_row c.entry-entry.result) (sym (ap (λ (p : Commit). p.change) (c.in_ok-write.ensures.plan ∙ c.new-plan.ensures)) ∙ c.entry-entry.ensures) in
    let mid = c.reserve.new.self.holds in
    let l = c.add.new.self in
    let s = g.R.Records.content c.args.records.now in
    let t = g.R.Records.content c.write.new.records in
    let added = subst (λ z. l.holds ≡ with_interchange z (sent_at mid.tick unsent_schedule) mid) (sym same) c.in-Ok.ensures.ok in
    record {
      valid = c.write.ensures.used.valid;
      ready = ready_entered m c.requires.stands.ready c.args.prepared.book e c.requires.may mid l c.in_ok-reserve.ensures.unchanged added;
      held = λ answers.
          let held = c.requires.stands.held (c.write.ensures.used.never_won_back answers) in
          let is : t ≡ stored_after (plan_of m c.args.prepared.book e) s = c.in_ok-write.ensures.written answers ∙ ap (λ p. stored_after p s) c.new-plan.ensures in (
            keeps_entered m c.requires.stands.ready c.args.prepared.book e c.requires.may mid l c.in_ok-reserve.ensures.unchanged added s t held is,
            durable_entered m c.requires.stands.ready c.args.prepared.book e c.requires.may mid l c.in_ok-reserve.ensures.unchanged added s t held is,
          );
      left = left_after g.R.Records m.me (hubs_of m.hubs) c.new-plan.result c.write.ensures.crash c.requires.stands.left
          (λ answers. subst (λ p. IsHistoryOf m.me (hubs_of m.hubs) (stored_after p s)) (sym c.new-plan.ensures) (durable_planned m c.requires.stands.ready c.args.prepared.book e c.requires.may s (c.requires.stands.held answers)));
      never_won_back = c.write.ensures.used.never_won_back;
      was_clean = c.write.ensures.crash.was_clean;
      answered = search rules;
      remembers = search rules;
    }

pub returns-clause-entered : goal.returns-clause-entered
returns-clause-entered g c = λ answers.
    let m = c.args.memory.now in
    let e = entry_row c.args.prepared.entry in
    let same : e ≡ entry_row c.entry-entry.result = change_is e (entry_row c.entry-entry.result) (sym (ap (λ (p : Commit). p.change) (c.in_ok-write.ensures.plan ∙ c.new-plan.ensures)) ∙ c.entry-entry.ensures) in
    let mid = c.reserve.new.self.holds in
    let l = c.add.new.self in
    let s = g.R.Records.content c.args.records.now in
    let t = g.R.Records.content c.write.new.records in
    let added = subst (λ z. l.holds ≡ with_interchange z (sent_at mid.tick unsent_schedule) mid) (sym same) c.in-Ok.ensures.ok in
    let held = c.requires.stands.held (c.write.ensures.used.never_won_back answers) in
    let is : t ≡ stored_after (plan_of m c.args.prepared.book e) s = c.in_ok-write.ensures.written answers ∙ ap (λ p. stored_after p s) c.new-plan.ensures in
    state_entered m c.requires.stands.ready c.args.prepared.book e c.requires.may mid l c.in_ok-reserve.ensures.unchanged added s t held is

-- nothing was entered; the plan may stand in the log all the same
pub returns-in_err-write-clause-stands : goal.returns-in_err-write-clause-stands
returns-in_err-write-clause-stands g c =
    let m = c.args.memory.now in
    let s = g.R.Records.content c.args.records.now in
    let e = entry_row c.args.prepared.entry in
    record {
      valid = c.write.ensures.used.valid;
      ready = search rules;
      held = search rules;
      left = left_after g.R.Records m.me (hubs_of m.hubs) c.new-plan.result c.write.ensures.crash c.requires.stands.left
          (λ answers. subst (λ p. IsHistoryOf m.me (hubs_of m.hubs) (stored_after p s)) (sym c.new-plan.ensures) (durable_planned m c.requires.stands.ready c.args.prepared.book e c.requires.may s (c.requires.stands.held answers)));
      never_won_back = c.write.ensures.used.never_won_back;
      was_clean = c.write.ensures.crash.was_clean;
      answered = search rules;
      remembers = refused_so c.from_residual-in_err-write.result (same_holds m c.reserve.new.self.holds c.in_ok-reserve.ensures.unchanged);
    }
