use Rattle.std.proofs.Common.{ℕ, List, IfErr, Option, option_map, sym, subst, refl, ◌∙◌}
use Rattle.std.specs.Borrow.{Bor}
use Rattle.x12_inbound.specs.Arrival.{arrived_view}
use Rattle.x12_station.specs.declared.fault.StationFault.{StationFault}
use Rattle.x12_station.specs.Fault.{IsRowOrWant}
use Rattle.x12_station.specs.Seen.{station_of}
use Rattle.x12_station.proofs.StandingLemmas.{on_ok_so}
use Rattle.x12_station.proofs.SightedLemmas.{each_new_taken, looked, looked_at, new_fault, new_is, new_step, other_fault, other_step, other_taken, same_taken, unreadable}
use Rattle.x12_station.proofs.StoppedLemmas.{step_then}
use Rattle.x12_station.proofs.answering.answer.Goals as goal

pub returns-in-Err-clause-fault : goal.returns-in-Err-clause-fault
returns-in-Err-clause-fault g c = λ answers. unreadable (station_of c.args.memory.now.ledger.holds c.args.memory.now.counts (g.R.Records.content c.args.records.now)) c.args.bytes.now c.in-Err.fault (sym c.read_header.ensures ∙ c.in-Err.is)

pub answer_new-requires-clause-new : goal.answer_new-requires-clause-new
answer_new-requires-clause-new g c =
    let h = c.in-Ok.header in
    let new = new_is c.args.bytes.now h (looked_at h.sender h.icn c.as_ref.result) (arrived_view c.in-New.arrived) c.in-New.ensures in (
      record { header = sym c.read_header.ensures ∙ c.in-Ok.is; arrived = new.1 },
      λ answers. rw (c.find_inbound.ensures.same answers)
          (sym (looked h.sender h.icn c.as_ref.result c.in-Ok-find_inbound.found c.as_ref.ensures.value ∙ c.in-Ok-find_inbound.ensures.found answers) ∙ new.0),
    )

pub returns-in-New-clause-took : goal.returns-in-New-clause-took
returns-in-New-clause-took g c = λ answers.
    let mid = c.answer_new.ensures.stands.never_won_back answers in
    let h = c.in-Ok.header in
    each_new_taken c.args.memory.now (g.R.Records.content c.args.records.now) (c.requires.stands.held (c.find_inbound.ensures.never_won_back mid)) c.args.bytes.now h (sym c.read_header.ensures ∙ c.in-Ok.is)
    (looked_at h.sender h.icn c.as_ref.result)
    (looked h.sender h.icn c.as_ref.result c.in-Ok-find_inbound.found c.as_ref.ensures.value ∙ c.in-Ok-find_inbound.ensures.found mid)
    (arrived_view c.in-New.arrived) c.in-New.ensures c.args.at.now
    (station_of c.answer_new.new.memory.ledger.holds c.answer_new.new.memory.counts (g.R.Records.content c.answer_new.new.records)) c.answer_new.result
    (rw (← c.find_inbound.ensures.same mid) (c.answer_new.ensures.took answers))

pub returns-in-New-clause-fault : goal.returns-in-New-clause-fault
returns-in-New-clause-fault g c = λ answers.
    let mid = c.answer_new.ensures.stands.never_won_back answers in
    let h = c.in-Ok.header in
    subst (λ (row : Option StationFault). IfErr c.answer_new.result (IsRowOrWant row))
    (new_fault c.args.memory.now (g.R.Records.content c.args.records.now) (c.requires.stands.held (c.find_inbound.ensures.never_won_back mid)) c.args.bytes.now h (sym c.read_header.ensures ∙ c.in-Ok.is)
    (looked_at h.sender h.icn c.as_ref.result)
    (looked h.sender h.icn c.as_ref.result c.in-Ok-find_inbound.found c.as_ref.ensures.value ∙ c.in-Ok-find_inbound.ensures.found mid)
    c.requires.stands.ready (arrived_view c.in-New.arrived) c.in-New.ensures)
    c.answer_new.ensures.fault

pub returns-in-Ok-repeated-clause-took : goal.returns-in-Ok-repeated-clause-took
returns-in-Ok-repeated-clause-took g c = λ answers.
    let h = c.in-Ok.header in
    rw (c.find_inbound.ensures.same answers)
    (same_taken c.args.memory.now (g.R.Records.content c.args.records.now) (c.requires.stands.held (c.find_inbound.ensures.never_won_back answers)) c.args.bytes.now h (sym c.read_header.ensures ∙ c.in-Ok.is)
    (looked_at h.sender h.icn c.as_ref.result)
    (looked h.sender h.icn c.as_ref.result c.in-Ok-find_inbound.found c.as_ref.ensures.value ∙ c.in-Ok-find_inbound.ensures.found answers)
    (option_map (λ (b : Bor (List ℕ)). b.now) c.in-Same.kept) c.in-Same.ensures c.args.at.now c.in-Ok-repeated.arrival
    c.in-Ok-repeated.ensures.kind c.in-Ok-repeated.ensures.counts c.in-Ok-repeated.ensures.reply)

pub returns-in-Ok-answer_other-clause-took : goal.returns-in-Ok-answer_other-clause-took
returns-in-Ok-answer_other-clause-took g c = λ answers.
    let mid = c.answer_other.ensures.stands.never_won_back answers in
    let h = c.in-Ok.header in
    other_taken c.args.memory.now (g.R.Records.content c.args.records.now) (c.requires.stands.held (c.find_inbound.ensures.never_won_back mid)) c.args.bytes.now h (sym c.read_header.ensures ∙ c.in-Ok.is)
    (looked_at h.sender h.icn c.as_ref.result)
    (looked h.sender h.icn c.as_ref.result c.in-Ok-find_inbound.found c.as_ref.ensures.value ∙ c.in-Ok-find_inbound.ensures.found mid)
    c.in-Other.ensures c.args.at.now
    (station_of c.answer_other.new.memory.ledger.holds c.answer_other.new.memory.counts (g.R.Records.content c.answer_other.new.records))
    _ refl c.nothing_told.ensures
    (rw (← c.find_inbound.ensures.same mid) (c.in-Ok-answer_other.ensures.took answers))

pub returns-clause-fault : goal.returns-clause-fault
returns-clause-fault g c = λ answers.
    let mid = c.answer_other.ensures.stands.never_won_back answers in
    let h = c.in-Ok.header in
    subst (λ (row : Option StationFault). IsRowOrWant row c.in-Err-answer_other.fault)
    (other_fault c.args.memory.now (g.R.Records.content c.args.records.now) (c.requires.stands.held (c.find_inbound.ensures.never_won_back mid)) c.args.bytes.now h (sym c.read_header.ensures ∙ c.in-Ok.is)
    (looked_at h.sender h.icn c.as_ref.result)
    (looked h.sender h.icn c.as_ref.result c.in-Ok-find_inbound.found c.as_ref.ensures.value ∙ c.in-Ok-find_inbound.ensures.found mid)
    c.in-Other.ensures)
    c.in-Err-answer_other.ensures.fault

-- what was found was found in records that answered
pub returns-in-New-clause-answered : goal.returns-in-New-clause-answered
returns-in-New-clause-answered g c clean =
    let stands = c.answer_new.ensures.stands in
    on_ok_so c.answer_new.result _ _ (stands.answered clean) (c.in-Ok-find_inbound.ensures.crash.answered (stands.was_clean clean))

pub returns-in-Ok-answer_other-clause-answered : goal.returns-in-Ok-answer_other-clause-answered
returns-in-Ok-answer_other-clause-answered g c clean =
    let stands = c.in-Ok-answer_other.ensures.stands in
    stands.answered clean (c.in-Ok-find_inbound.ensures.crash.answered (stands.was_clean clean))

pub returns-in-New-clause-crash : goal.returns-in-New-clause-crash
returns-in-New-clause-crash g c =
    let m = c.args.memory.now in
    let s = g.R.Records.content c.args.records.now in
    let h = c.in-Ok.header in
    let f = c.find_inbound.ensures in
    step_then g.R.Records _ _ (record { was_clean = f.crash.was_clean; left = f.crash.left }) f.never_won_back c.answer_new.ensures.stands.was_clean c.answer_new.ensures.crash
    (λ mid. rw (f.same mid)
    (new_step m s (c.requires.stands.held (f.never_won_back mid)) c.args.bytes.now h (sym c.read_header.ensures ∙ c.in-Ok.is)
    (looked_at h.sender h.icn c.as_ref.result)
    (looked h.sender h.icn c.as_ref.result c.in-Ok-find_inbound.found c.as_ref.ensures.value ∙ c.in-Ok-find_inbound.ensures.found mid)
    (arrived_view c.in-New.arrived) c.in-New.ensures c.args.at.now))

pub returns-in-Ok-answer_other-clause-crash : goal.returns-in-Ok-answer_other-clause-crash
returns-in-Ok-answer_other-clause-crash g c =
    let m = c.args.memory.now in
    let s = g.R.Records.content c.args.records.now in
    let h = c.in-Ok.header in
    let f = c.find_inbound.ensures in
    step_then g.R.Records _ _ (record { was_clean = f.crash.was_clean; left = f.crash.left }) f.never_won_back c.answer_other.ensures.stands.was_clean c.answer_other.ensures.crash
    (λ mid. rw (f.same mid)
    (other_step m s (c.requires.stands.held (f.never_won_back mid)) c.args.bytes.now h (sym c.read_header.ensures ∙ c.in-Ok.is)
    (looked_at h.sender h.icn c.as_ref.result)
    (looked h.sender h.icn c.as_ref.result c.in-Ok-find_inbound.found c.as_ref.ensures.value ∙ c.in-Ok-find_inbound.ensures.found mid)
    c.in-Other.ensures c.args.at.now))

pub returns-clause-crash : goal.returns-clause-crash
returns-clause-crash g c =
    let m = c.args.memory.now in
    let s = g.R.Records.content c.args.records.now in
    let h = c.in-Ok.header in
    let f = c.find_inbound.ensures in
    step_then g.R.Records _ _ (record { was_clean = f.crash.was_clean; left = f.crash.left }) f.never_won_back c.answer_other.ensures.stands.was_clean c.answer_other.ensures.crash
    (λ mid. rw (f.same mid)
    (other_step m s (c.requires.stands.held (f.never_won_back mid)) c.args.bytes.now h (sym c.read_header.ensures ∙ c.in-Ok.is)
    (looked_at h.sender h.icn c.as_ref.result)
    (looked h.sender h.icn c.as_ref.result c.in-Ok-find_inbound.found c.as_ref.ensures.value ∙ c.in-Ok-find_inbound.ensures.found mid)
    c.in-Other.ensures c.args.at.now))
