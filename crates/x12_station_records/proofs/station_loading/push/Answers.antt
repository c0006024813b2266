use Rattle.std.proofs.Common.{rules, ◌∙◌, ◌+◌, max, map, ap, List}
use Rattle.x12_outbound.specs.declared.entry.EntryGroup.{EntryGroup}
use Rattle.x12_outbound.specs.Entry.{group_row}
use Rattle.x12_station.specs.Closed.{above_groups}
use Rattle.x12_station_records.proofs.StationOpenLemmas.{pushed}
use Rattle.x12_station_records.proofs.station_loading.push.Goals as goal

pub returns-clause-holds : goal.returns-clause-holds
returns-clause-holds c =
    pushed c.args.book c.args.opened.now (record { entries = c.push.new.self; icn = c.from-icn.result + 1; gcn = c.above-gcn.result }) c.args.entry (search rules) (ap (λ n. n + 1) c.from-icn.ensures)
    (c.above-gcn.ensures ∙ ap (λ (gs : List EntryGroup). max c.args.opened.now.gcn (above_groups (map group_row gs))) c.deref.ensures.value) c.requires.holds c.requires.fit c.requires.follows
