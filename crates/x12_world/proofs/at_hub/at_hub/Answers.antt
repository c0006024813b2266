-- What was counted at the first hub, or at the second.
use Rattle.x12_world.proofs.FailingLemmas.{asked_first, asked_second}
use Rattle.std.proofs.Common.{◌++◌, refl, Some, map, subst, sym}
use Rattle.x12_core.specs.Disk.{hub_disk}
use Rattle.x12_world.specs.Disks.{KeepsEach}
use Rattle.x12_world.specs.Running.{founders_beside, founders_clean_beside}
use Rattle.x12_world.proofs.DisksLemmas.{each_first, each_second}
use Rattle.std.specs.Prelude.{option_to_list}
use Rattle.x12_world.proofs.at_hub.at_hub.Goals as goal

pub returns-then-site-eq-HUB_NODE-clause-store : goal.returns-then-site-eq-HUB_NODE-clause-store
returns-then-site-eq-HUB_NODE-clause-store g c = λ fs.
    asked_first c.ask_hub.result c.args.hubs.now (record c.args.hubs.now { first = c.ask_hub.new.hub }) fs refl c.ask_hub.ensures.store

pub returns-in-Some-clause-store : goal.returns-in-Some-clause-store
returns-in-Some-clause-store g c = λ fs.
    asked_second c.ask_hub-in-Some.result c.args.hubs.now (record c.args.hubs.now { second = Some c.ask_hub-in-Some.new.hub }) fs c.in-Some.hub c.ask_hub-in-Some.new.hub c.in-Some.is refl refl c.ask_hub-in-Some.ensures.store

pub returns-then-site-eq-HUB_NODE-clause-submits : goal.returns-then-site-eq-HUB_NODE-clause-submits
returns-then-site-eq-HUB_NODE-clause-submits g c = c.ask_hub.ensures.nothing.submits

pub returns-in-Some-clause-submits : goal.returns-in-Some-clause-submits
returns-in-Some-clause-submits g c = c.ask_hub-in-Some.ensures.nothing.submits

pub returns-then-site-eq-HUB_NODE-clause-disks : goal.returns-then-site-eq-HUB_NODE-clause-disks
returns-then-site-eq-HUB_NODE-clause-disks g c = λ d same.
    let more = option_to_list c.args.hubs.now.second in
    each_first c.ask_hub.result (hub_disk c.args.hubs.now.first) (hub_disk c.ask_hub.new.hub) (d.answers ++ map (λ k. k.answers) more) (d.clean ++ map (λ k. k.clean) more) c.ask_hub.ensures.disk

pub returns-in-Some-clause-disks : goal.returns-in-Some-clause-disks
returns-in-Some-clause-disks g c = λ d same.
    let first = c.args.hubs.now.first in
    let new = Some c.ask_hub-in-Some.new.hub in
    subst (λ o. KeepsEach c.ask_hub-in-Some.result (record { answers = founders_beside first o d.answers; clean = founders_clean_beside first o d.clean }) (record { answers = founders_beside first new d.answers; clean = founders_clean_beside first new d.clean })) (sym c.in-Some.is)
    (each_second c.ask_hub-in-Some.result first c.in-Some.hub c.ask_hub-in-Some.new.hub d same c.ask_hub-in-Some.ensures.disk)
