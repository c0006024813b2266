-- A decision on new bytes joins at the end.
use Rattle.std.proofs.Common.{◌∙◌, ap, map, refl}
use Rattle.x12_hub.specs.Memory.{decided_view}
use Rattle.x12_hub.proofs.MemoryLemmas.{pushed_is}
use Rattle.x12_numbers.proofs.Shelf.{from_ok}
use Rattle.x12_hub.proofs.memory.push.Goals as goal

pub returns : goal.returns
returns c =
    ap (map decided_view) (from_ok c.insert.result (c.insert.ensures.succeeds c.requires.room) c.insert.ensures.entries)
    ∙ pushed_is _ (λ a b. refl) c.args.decisions.now.entries c.args.bytes c.args.decision c.requires.new
