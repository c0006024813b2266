use Rattle.std.proofs.Common.{rules, ◌∙◌, ap, sym, subst}
use Rattle.x12_outbound.specs.Hubs.{hubs_of}
use Rattle.x12_station.specs.Entering.{IsHeld}
use Rattle.x12_station.specs.Keeps.{IsReady, memory_of}
use Rattle.x12_station.proofs.ArrivingLemmas.{durable_noted, ready_noted, held_noted, took_noted}
use Rattle.x12_station.specs.declared.cached.Cached.{Cached}
use Rattle.x12_station.proofs.StandingLemmas.{left_after, left_of}
use Rattle.x12_station.proofs.StoppedLemmas.{step_noted}
use Rattle.x12_station.proofs.arriving.answer_other.Goals as goal

pub returns-in-Ok-clause-stands : goal.returns-in-Ok-clause-stands
returns-in-Ok-clause-stands g c =
    let m = c.args.memory.now in
    let n = c.refuse_other.new.memory in
    let number = c.in-Ok.ensures.number in
    let used = c.refuse_other.ensures.used in
    record {
      valid = used.valid;
      ready = ready_noted m n number.memory c.requires.stands.ready;
      held = λ answers.
          let s = g.R.Records.content c.args.records.now in
          let t = g.R.Records.content c.refuse_other.new.records in
          held_noted m s t n number.memory (number.written answers) (c.requires.stands.held (used.never_won_back answers));
      left = left_of g.R.Records m.me m.hubs n.me n.hubs (ap (λ (x : Cached). x.me) number.memory) (ap (λ (x : Cached). x.hubs) number.memory)
          (left_after g.R.Records m.me (hubs_of m.hubs) _ c.refuse_other.ensures.crash.taken c.requires.stands.left
          (λ answers. durable_noted m (g.R.Records.content c.args.records.now) c.requires.stands.ready (c.requires.stands.held answers)));
      never_won_back = used.never_won_back;
      was_clean = c.refuse_other.ensures.crash.taken.was_clean;
      answered = search rules;
      remembers = search rules;
    }

pub returns-in-Ok-clause-took : goal.returns-in-Ok-clause-took
returns-in-Ok-clause-took g c = λ answers.
    let s = g.R.Records.content c.args.records.now in
    let t = g.R.Records.content c.refuse_other.new.records in
    took_noted c.args.memory.now s t c.refuse_other.new.memory c.in-Ok.ensures.number.memory (c.in-Ok.ensures.number.written answers) (c.requires.stands.held (c.refuse_other.ensures.used.never_won_back answers))
    c.args.at.now c.args.bytes.now c.args.header.now c.requires.read (sym c.in_ok-is_silent.ensures ∙ c.if-branch.false) c.in-Ok.ensures.refusal.1 c.requires.stands.ready.me
    c.in-Ok.refusal.items c.in-Ok.ensures.refusal.0

-- nothing was done; the plan may stand in the log all the same
pub returns-in-Err-clause-stands : goal.returns-in-Err-clause-stands
returns-in-Err-clause-stands g c =
    let m = c.args.memory.now in
    let n = c.refuse_other.new.memory in
    let used = c.refuse_other.ensures.used in
    let kept = c.in-Err.ensures.unchanged in
    record {
      valid = used.valid;
      ready = subst IsReady (sym kept.memory) c.requires.stands.ready;
      held = λ answers. subst (λ (x : Cached). IsHeld x (g.R.Records.content c.refuse_other.new.records)) (sym kept.memory) (subst (IsHeld m) (sym (kept.same answers)) (c.requires.stands.held (used.never_won_back answers)));
      left = left_of g.R.Records m.me m.hubs n.me n.hubs (ap (λ (x : Cached). x.me) kept.memory) (ap (λ (x : Cached). x.hubs) kept.memory)
          (left_after g.R.Records m.me (hubs_of m.hubs) _ c.refuse_other.ensures.crash.taken c.requires.stands.left
          (λ answers. durable_noted m (g.R.Records.content c.args.records.now) c.requires.stands.ready (c.requires.stands.held answers)));
      never_won_back = used.never_won_back;
      was_clean = c.refuse_other.ensures.crash.taken.was_clean;
      answered = search rules;
      remembers = ap memory_of kept.memory;
    }

pub returns-in-Ok-clause-crash : goal.returns-in-Ok-clause-crash
returns-in-Ok-clause-crash g c =
    let e = c.refuse_other.ensures in
    step_noted g.R.Records c.args.memory.now c.args.at.now c.args.bytes.now (λ answers. (c.requires.stands.held answers).0) (sym c.in_ok-is_silent.ensures ∙ c.if-branch.false) e.crash.spent e.crash.taken

pub returns-in-Err-clause-crash : goal.returns-in-Err-clause-crash
returns-in-Err-clause-crash g c =
    let e = c.refuse_other.ensures in
    step_noted g.R.Records c.args.memory.now c.args.at.now c.args.bytes.now (λ answers. (c.requires.stands.held answers).0) (sym c.in_ok-is_silent.ensures ∙ c.if-branch.false) e.crash.spent e.crash.taken
