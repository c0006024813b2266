-- A law of a station's records whose store is open: a crash leaves what is held.
use Rattle.std.proofs.Common.{◌≡◌, ◌∙◌, sym, ap, IsTrue}
use Rattle.sqlite.specs.Effect.{Database}
use Rattle.sqlite.specs.State.{State}
use Rattle.sqlite.specs.Tree.{Trees}
use Rattle.x12_station.specs.Stored.{Stored}
use Rattle.x12_station_records.specs.StationContent.{MayHold, content_of, IsValid}
use Rattle.x12_station_records.specs.declared.station_committing.NextRows.{NextRows}

-- where a crash leaves what was committed, it leaves what is held
pub sure_of : {next : NextRows} (s : State) (d : Stored)
    → ((db : Trees) → s.may_leave db → db ≡ s.committed.trees)
    → IsValid next s → IsTrue s.is_open → MayHold s d → d ≡ content_of s.now.trees
sure_of s d law valid open1 left =
    let committed = ap (λ (db : Database). db.trees) (valid.settled open1) in
    left.2 ∙ ap content_of (law left.0 left.1 ∙ sym committed)
