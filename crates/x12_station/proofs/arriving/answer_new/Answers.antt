use Rattle.std.proofs.Common.{rules, ◌||◌, ◌∙◌, ap, map, refl, sym, subst, nat_le}
use Rattle.x12_outbound.specs.Hubs.{hubs_of}
use Rattle.x12_station.specs.declared.cached.Cached.{Cached}
use Rattle.x12_station.specs.Entering.{IsHeld}
use Rattle.x12_station.specs.Keeps.{IsReady, cached_edition, memory_of}
use Rattle.x12_judge.specs.Agreement.{agreement_view}
use Rattle.x12_profile.specs.X12.{needs_of}
use Rattle.x12_station.specs.working.Drafting.{exhausted}
use Rattle.x12_station.specs.StationRefusal.{is_spent}
use Rattle.x12_station.proofs.ArrivedNewLemmas.{durable_filed, fits_filed, held_filed, left_filed, ready_filed, told_filed, took_filed}
use Rattle.x12_station.proofs.StandingLemmas.{left_after, left_of, still_left}
use Rattle.x12_station.proofs.StoppedLemmas.{step_committed, step_then}
use Rattle.x12_station.proofs.arriving.answer_new.Goals as goal

pub file-requires-clause-fits : goal.file-requires-clause-fits
file-requires-clause-fits g c = record {
  valid = c.weighed.ensures.asked.valid;
  fits = λ answers.
      let m = c.args.memory.now in
      let s = g.R.Records.content c.args.records.now in
      let w = c.in-Ok.weighed in
      let asked = c.weighed.ensures.asked in
      let was = c.requires.stands.held (asked.never_won_back answers) in
      rw (asked.same answers)
      (fits_filed m s c.requires.stands.ready was c.args.bytes.now c.args.header.now c.requires.new.0.header c.args.at.now w.0 w.1 c.in-Ok.ensures.weighed.1 (c.in-Ok.ensures.heard answers)
      c.x12_meets_the_laws.ensures.laws c.what_is_posted_was_accepted.ensures.law c.if-memory-ge-LAST_ITEM.false (c.requires.new.1 (asked.never_won_back answers)));
}

pub returns-in-Ok-file-clause-stands : goal.returns-in-Ok-file-clause-stands
returns-in-Ok-file-clause-stands g c =
    let m = c.args.memory.now in
    let s = g.R.Records.content c.args.records.now in
    let w = c.in-Ok.weighed in
    let asked = c.weighed.ensures.asked in
    let used = c.file.ensures.used in
    let taken = c.in-Ok-file.ensures.taken in
    record {
      valid = used.valid;
      ready = ready_filed m c.file.new.memory w.0 w.1 c.in-Ok-file.counts c.requires.stands.ready c.args.bytes.now c.args.header.now c.requires.new.0.header c.args.at.now c.in-Ok.ensures.weighed.1 c.if-memory-ge-LAST_ITEM.false taken;
      held = λ answers.
          let mid = used.never_won_back answers in
          let was = c.requires.stands.held (asked.never_won_back mid) in
          held_filed m s c.requires.stands.ready was c.args.bytes.now c.args.header.now c.requires.new.0.header c.args.at.now w.0 w.1 c.in-Ok.ensures.weighed.1 (c.in-Ok.ensures.heard mid)
          c.x12_meets_the_laws.ensures.laws c.what_is_posted_was_accepted.ensures.law c.if-memory-ge-LAST_ITEM.false (c.requires.new.1 (asked.never_won_back mid))
          (g.R.Records.content c.file.new.records) (rw (← asked.same mid) (c.in-Ok-file.ensures.written answers)) c.file.new.memory c.in-Ok-file.counts taken;
      left = left_of g.R.Records m.me m.hubs c.file.new.memory.me c.file.new.memory.hubs taken.me taken.hubs
          (left_after g.R.Records m.me (hubs_of m.hubs) _ c.file.ensures.crash (still_left g.R.Records m.me (hubs_of m.hubs) asked.leaves c.requires.stands.left)
          (λ answers. rw (asked.same answers)
          (durable_filed m s c.requires.stands.ready (c.requires.stands.held (asked.never_won_back answers)) c.args.bytes.now c.args.header.now c.requires.new.0.header c.args.at.now w.0 w.1 c.in-Ok.ensures.weighed.1 (c.in-Ok.ensures.heard answers)
          c.x12_meets_the_laws.ensures.laws c.what_is_posted_was_accepted.ensures.law c.if-memory-ge-LAST_ITEM.false (c.requires.new.1 (asked.never_won_back answers)))));
      never_won_back = λ answers. asked.never_won_back (used.never_won_back answers);
      was_clean = λ clean. asked.leaves.was_clean (c.file.ensures.crash.was_clean clean);
      answered = search rules;
      remembers = search rules;
    }

pub returns-in-Ok-file-clause-took : goal.returns-in-Ok-file-clause-took
returns-in-Ok-file-clause-took g c = λ answers.
    let m = c.args.memory.now in
    let s = g.R.Records.content c.args.records.now in
    let mid = c.file.ensures.used.never_won_back answers in
    let w = c.in-Ok.weighed in
    let was = c.requires.stands.held (c.weighed.ensures.asked.never_won_back mid) in (
      refl,
      told_filed m s c.requires.stands.ready was c.args.bytes.now c.args.header.now c.requires.new.0.header c.args.at.now w.0 w.1 c.in-Ok.ensures.weighed.1 (c.in-Ok.ensures.heard mid)
          c.x12_meets_the_laws.ensures.laws c.what_is_posted_was_accepted.ensures.law c.if-memory-ge-LAST_ITEM.false (c.requires.new.1 (c.weighed.ensures.asked.never_won_back mid))
          (g.R.Records.content c.file.new.records) (rw (← c.weighed.ensures.asked.same mid) (c.in-Ok-file.ensures.written answers)) c.file.new.memory c.in-Ok-file.counts c.in-Ok-file.ensures.taken,
      took_filed m s c.requires.stands.ready was c.args.bytes.now c.args.header.now c.requires.new.0.header c.args.at.now w.0 w.1 c.in-Ok.ensures.weighed.1 (c.in-Ok.ensures.heard mid)
          c.x12_meets_the_laws.ensures.laws c.what_is_posted_was_accepted.ensures.law c.if-memory-ge-LAST_ITEM.false (c.requires.new.1 (c.weighed.ensures.asked.never_won_back mid))
          (g.R.Records.content c.file.new.records) (rw (← c.weighed.ensures.asked.same mid) (c.in-Ok-file.ensures.written answers)) c.file.new.memory c.in-Ok-file.counts c.in-Ok-file.ensures.taken
          c.counts_are_small.ensures.0 c.counts_are_small.ensures.1,
    )

pub returns-in-Err-file-clause-fault : goal.returns-in-Err-file-clause-fault
returns-in-Err-file-clause-fault g c =
    let m = c.args.memory.now in
    c.in-Err-file.ensures.fault.0 (exhausted (is_spent m.book (needs_of (cached_edition m) m.me (map agreement_view m.agreements.items) c.args.bytes.now c.args.header.now) || nat_le 9223372036854775807 m.seq))

-- nothing was filed; the plan may stand in the log all the same
pub returns-in-Err-file-clause-stands : goal.returns-in-Err-file-clause-stands
returns-in-Err-file-clause-stands g c =
    let m = c.args.memory.now in
    let s = g.R.Records.content c.args.records.now in
    let n = c.file.new.memory in
    let w = c.in-Ok.weighed in
    let asked = c.weighed.ensures.asked in
    let used = c.file.ensures.used in
    let kept = c.in-Err-file.ensures.unchanged in
    record {
      valid = used.valid;
      ready = subst IsReady (sym kept.memory) c.requires.stands.ready;
      held = λ answers.
          let mid = used.never_won_back answers in
          subst (λ (x : Cached). IsHeld x (g.R.Records.content c.file.new.records)) (sym kept.memory) (subst (IsHeld m) (sym (kept.same answers ∙ asked.same mid)) (c.requires.stands.held (asked.never_won_back mid)));
      left = left_of g.R.Records m.me m.hubs n.me n.hubs (ap (λ (x : Cached). x.me) kept.memory) (ap (λ (x : Cached). x.hubs) kept.memory)
          (left_after g.R.Records m.me (hubs_of m.hubs) _ c.file.ensures.crash (still_left g.R.Records m.me (hubs_of m.hubs) asked.leaves c.requires.stands.left)
          (λ answers. rw (asked.same answers)
          (durable_filed m s c.requires.stands.ready (c.requires.stands.held (asked.never_won_back answers)) c.args.bytes.now c.args.header.now c.requires.new.0.header c.args.at.now w.0 w.1 c.in-Ok.ensures.weighed.1 (c.in-Ok.ensures.heard answers)
          c.x12_meets_the_laws.ensures.laws c.what_is_posted_was_accepted.ensures.law c.if-memory-ge-LAST_ITEM.false (c.requires.new.1 (asked.never_won_back answers)))));
      never_won_back = λ answers. asked.never_won_back (used.never_won_back answers);
      was_clean = λ clean. asked.leaves.was_clean (c.file.ensures.crash.was_clean clean);
      answered = search rules;
      remembers = ap memory_of kept.memory;
    }

pub returns-in-Ok-file-clause-crash : goal.returns-in-Ok-file-clause-crash
returns-in-Ok-file-clause-crash g c =
    let m = c.args.memory.now in
    let s = g.R.Records.content c.args.records.now in
    let w = c.in-Ok.weighed in
    let asked = c.weighed.ensures.asked in
    step_then g.R.Records _ _ asked.leaves asked.never_won_back c.file.ensures.crash.was_clean
    (step_committed g.R.Records _ _ c.file.ensures.crash (λ answers. rw (asked.same answers)
    (left_filed m s c.requires.stands.ready (c.requires.stands.held (asked.never_won_back answers)) c.args.bytes.now c.args.header.now c.requires.new.0.header c.args.at.now w.0 w.1 c.in-Ok.ensures.weighed.1 (c.in-Ok.ensures.heard answers)
    c.x12_meets_the_laws.ensures.laws c.what_is_posted_was_accepted.ensures.law c.if-memory-ge-LAST_ITEM.false (c.requires.new.1 (asked.never_won_back answers)))))
    (λ _. refl)

pub returns-in-Err-file-clause-crash : goal.returns-in-Err-file-clause-crash
returns-in-Err-file-clause-crash g c =
    let m = c.args.memory.now in
    let s = g.R.Records.content c.args.records.now in
    let w = c.in-Ok.weighed in
    let asked = c.weighed.ensures.asked in
    step_then g.R.Records _ _ asked.leaves asked.never_won_back c.file.ensures.crash.was_clean
    (step_committed g.R.Records _ _ c.file.ensures.crash (λ answers. rw (asked.same answers)
    (left_filed m s c.requires.stands.ready (c.requires.stands.held (asked.never_won_back answers)) c.args.bytes.now c.args.header.now c.requires.new.0.header c.args.at.now w.0 w.1 c.in-Ok.ensures.weighed.1 (c.in-Ok.ensures.heard answers)
    c.x12_meets_the_laws.ensures.laws c.what_is_posted_was_accepted.ensures.law c.if-memory-ge-LAST_ITEM.false (c.requires.new.1 (asked.never_won_back answers)))))
    (λ _. refl)
