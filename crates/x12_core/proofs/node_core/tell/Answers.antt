-- A fault of the records is one of any table.
use Rattle.std.proofs.Common.{refl, None}
use Rattle.x12_acks.specs.Key.{key_view}
use Rattle.x12_core.specs.Ask.{Fate}
use Rattle.x12_core.proofs.AskLemmas.{records_refuse}
use Rattle.x12_core.proofs.DiskLemmas.{stops}
use Rattle.x12_core.proofs.node_core.tell.Goals as goal

pub returns-in_err-fate-clause-refused : goal.returns-in_err-fate-clause-refused
returns-in_err-fate-clause-refused g c =
    let s = c.args.station.now.state in
    records_refuse c.from_residual.result c.in_err-fate.field-0.0 (Fate (key_view c.args.key.now)) s (λ i. refl) c.in_err-fate.ensures.fault c.from_residual.ensures.1

-- A fate that is told leaves the disk as it was.

pub returns-in_err-fate-clause-crash :
    goal.returns-in_err-fate-clause-crash
returns-in_err-fate-clause-crash g c =
    stops g.R.Records None None None _ c.args.station.now c.fate.new.self refl (λ d h. absurd h) c.fate.ensures.crash

pub returns-clause-crash :
    goal.returns-clause-crash
returns-clause-crash g c =
    stops g.R.Records None None None _ c.args.station.now c.fate.new.self refl (λ d h. absurd h) c.fate.ensures.crash
