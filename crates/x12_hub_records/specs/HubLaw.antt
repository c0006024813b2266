-- Two laws of records whose store is open: the disk has returned what was written, and a crash leaves
-- what is held.
use Rattle.std.proofs.Common.{◌≡◌, ◌∙◌, sym, ap, IsTrue}
use Rattle.sqlite.specs.Effect.{Database}
use Rattle.sqlite.specs.State.{State}
use Rattle.sqlite.specs.Tree.{Trees}
use Rattle.x12_hub.specs.Stored.{HubStored}
use Rattle.x12_hub_records.specs.HubContent.{IsValidHub, MayHoldHub, hub_content_of}

-- where a crash leaves what was committed, it leaves what is held
pub hub_sure_of : {last : _} (s : State) (d : HubStored)
    → ((db : Trees) → s.may_leave db → db ≡ s.committed.trees)
    → IsValidHub last s → IsTrue s.is_open → MayHoldHub s d → d ≡ hub_content_of s.now.trees
hub_sure_of s d law valid open1 left =
    let committed = ap (λ (db : Database). db.trees) (valid.settled open1) in
    left.2 ∙ ap hub_content_of (law left.0 left.1 ∙ sym committed)
