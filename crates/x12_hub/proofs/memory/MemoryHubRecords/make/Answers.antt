-- A first decision of a sound plan is on new bytes.
use Rattle.std.proofs.Common.{◌∙◌, ap, sym}
use Rattle.x12_hub.specs.Record.{hub_act_view, decision_view}
use Rattle.x12_hub.specs.Memory.{hub_memory_view}
use Rattle.x12_hub.proofs.MemoryLemmas.{first_is_new}
use Rattle.x12_hub.proofs.memory.MemoryHubRecords.make.Goals as goal

pub decide-requires : goal.decide-requires
decide-requires c =
    rw c.deref.ensures.value
    (first_is_new c.args.plan.now (hub_memory_view c.args.self.now) c.in-Decided.bytes.items (decision_view c.in-Decided.decision) (sym c.view-view.ensures.change ∙ ap hub_act_view c.in-Decided.is) c.requires)
