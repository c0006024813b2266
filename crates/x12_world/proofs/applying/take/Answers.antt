-- What was taken and held is the definition's step.
use Rattle.std.proofs.Common.{◌≡◌, suc, ◌++◌, length, subst, sym, ap, arith, List, Vec}
use Rattle.std.specs.Prelude.{if◌then◌else◌}
use Rattle.std.specs.Global.{Global}
use Rattle.x12_core.specs.declared.packet.Packet.{Packet as CodePacket}
use Rattle.x12_world.specs.EventView.{event_view}
use Rattle.x12_world.specs.Packet.{named}
use Rattle.x12_world.specs.Ran.{outcome_view}
use Rattle.x12_world.specs.Effect.{asked_by}
use Rattle.x12_world.specs.Running.{AskedAnswers, hubs_in, nodes_of, world_of}
use Rattle.x12_world.specs.Runs.{running}
use Rattle.x12_world.proofs.AnswerLemmas.{asked_of_all}
use Rattle.x12_core.specs.Sends.{sends_view}
use Rattle.x12_world.specs.Taking.{IsTaken}
use Rattle.x12_world.specs.View.{held_view}
use Rattle.x12_world.specs.Disks.{disks_beside, station_disks}
use Rattle.x12_world.proofs.DisksLemmas.{each_handed, each_refused}
use Rattle.x12_world.proofs.RanLemmas.{ran}
use Rattle.x12_world.proofs.SubmissionLemmas.{still_listed}
use Rattle.x12_world.proofs.applying.take.Goals as goal

pub returns-clause-ran : goal.returns-clause-ran
returns-clause-ran g c = λ answers.
    let h = c.args.hubs.now in
    let ss = c.args.stations.now.items in
    let held = c.args.held.now in
    let room = c.reserve.new.self in
    let new = c.keep.new.held in
    let nodes = nodes_of (hubs_in c.act.new.hubs) c.act.new.stations.items in
    let e = event_view c.args.event.now in
    let sends = sends_view c.in_ok-sends.sends in
    let same : room.items ≡ held.items = c.in_ok-reserve.ensures.items in
    let taken : IsTaken (world_of h ss held.items) e nodes sends = subst (λ (v : List (Vec CodePacket Global)). IsTaken (world_of h ss v) e nodes sends) same (c.in_ok-sends.ensures.took (subst (λ (v : List (Vec CodePacket Global)). AskedAnswers (world_of h ss v) e (running c.act.new.hubs c.act.new.stations.items v)) (sym same) answers)) in
    let next : c.in_ok-number.number ≡ suc (length held.items) = let k = c.in_ok-number.ensures.number in let ok = held.ok.0 in omega arith in
    let last : length new.items ≡ c.in_ok-number.number =
    let a = new.ok.0 in let b = c.keep.ensures.len in let d = room.ok.0 in let f = ap length same in let k = next in omega arith in
    ran (world_of h ss held.items) e nodes sends taken (outcome_view c.keep.result) (held_view new.items) c.in_ok-number.number (length new.items) next last
    (subst (λ (v : List (Vec CodePacket Global)). held_view new.items ≡ (if c.keep.result.lost then held_view v else held_view v ++ named c.in_ok-number.number 1 sends)) same c.keep.ensures.held)
    c.keep.ensures.outcome

pub returns-in_err-sends-clause-listed : goal.returns-in_err-sends-clause-listed
returns-in_err-sends-clause-listed g c = λ all.
    let now = running c.act.new.hubs c.act.new.stations.items c.reserve.new.self.items in
    let asked = asked_of_all now all (asked_by now.world.packets (event_view c.args.event.now)) in
    still_listed (hubs_in c.args.hubs.now) (hubs_in c.act.new.hubs) c.args.stations.now.items c.act.new.stations.items c.args.submitted.now.items c.reserve-2.new.self.items
    (c.in_err-sends.ensures.unchanged asked) c.in_ok-reserve-2.ensures.items

pub returns-in_err-sends-clause-disks : goal.returns-in_err-sends-clause-disks
returns-in_err-sends-clause-disks g c =
    each_refused c.from_residual-in_err-sends.result _ (disks_beside c.args.hubs.now (station_disks c.args.stations.now.items)) (disks_beside c.act.new.hubs (station_disks c.act.new.stations.items)) _ c.from_residual-in_err-sends.ensures.1 c.in_err-sends.ensures.disks

pub returns-clause-disks : goal.returns-clause-disks
returns-clause-disks g c = each_handed _ _ (disks_beside c.args.hubs.now (station_disks c.args.stations.now.items)) (disks_beside c.act.new.hubs (station_disks c.act.new.stations.items)) (λ P p. p) c.in_ok-sends.ensures.disks
