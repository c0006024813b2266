use Rattle.std.proofs.Common.{subst, map, IfSome}
use Rattle.std.specs.Prelude.{Contains}
use Rattle.x12_outbound.specs.Entry.{entry_row}
use Rattle.x12_station.specs.Stored.{entries}
use Rattle.x12_verify.proofs.EntryLemmas.{closed_found, open_found}
use Rattle.x12_verify.proofs.entries.entry_under.Goals as goal

pub returns-in-Some-clause-found : goal.returns-in-Some-clause-found
returns-in-Some-clause-found g c = λ answers.
    let rows = map entry_row c.args.loaded.now.entries.items in
    open_found (entries (g.R.Records.content c.args.records.now)) rows (c.requires.open answers) (entry_row c.in-Some.entry) (subst (λ o. IfSome o (λ e. Contains rows (entry_row e))) c.in-Some.is c.in_ok-entry.ensures)

pub returns-in_ok-find_closed-in-None-clause-found : goal.returns-in_ok-find_closed-in-None-clause-found
returns-in_ok-find_closed-in-None-clause-found g c = λ answers.
    let found = c.in_ok-find_closed-in-None.ensures in
    closed_found (g.R.Records.content c.args.records.now) c.args.icn c.in_ok-find_closed-in-None.field-0 (found.found answers) found.sound
