-- What the map finds under bytes was decided on them.
use Rattle.std.proofs.Common.{◌∙◌, ap, sym}
use Rattle.std.specs.Option.{option_copied}
use Rattle.x12_hub.specs.Record.{decision_view}
use Rattle.x12_hub.proofs.MemoryLemmas.{some_found, none_found}
use Rattle.x12_hub.proofs.memory.MemoryHubRecords.decision.Goals as goal

pub returns-in_ok-copied-in-Some : goal.returns-in_ok-copied-in-Some
returns-in_ok-copied-in-Some c =
    some_found c.args.self.now.decisions.entries c.args.bytes.now c.in-Some.decision.now (decision_view c.in_ok-copied-in-Some.field-0)
    (sym c.get.ensures.value ∙ ap option_copied c.in-Some.is) c.in_ok-copied-in-Some.ensures

pub returns-in-None : goal.returns-in-None
returns-in-None c =
    none_found c.args.self.now.decisions.entries c.args.bytes.now
    (sym c.get.ensures.value ∙ ap option_copied c.in-None.is)
