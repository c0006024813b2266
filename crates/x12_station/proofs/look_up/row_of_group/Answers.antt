-- The closure compares a submission's last group.
use Rattle.std.proofs.Common.{rules, of_calls, ltb}
use Rattle.std.proofs.lemmas.List.Sorted.{IsPartitionPoint-from_clause, IsPartitionedBy-ltb}
use Rattle.x12_station.specs.declared.submissions.NumberedEntry.{NumberedEntry}
use Rattle.x12_outbound.specs.Entry.{last_number_of}
use Rattle.x12_station.proofs.LookUpLemmas.{groups_in, last_rises, one_row}
use Rattle.x12_station.proofs.look_up.row_of_group.Goals as goal

pub returns : goal.returns
returns c =
    let rows = c.args.rows.now in
    let last = λ (r : NumberedEntry). last_number_of (groups_in r) in
    one_row rows c.requires c.args.number c.partition_point.result
    (IsPartitionPoint-from_clause (λ (r : NumberedEntry). ltb (last r) c.args.number) rows c.partition_point.result c.partition_point.ensures.partitioned (IsPartitionedBy-ltb last rows c.args.number (last_rises rows c.requires)) (λ a r k called. search (rules, of_calls)))
