use Rattle.std.proofs.Common.{rules, of_calls, ltb}
use Rattle.std.proofs.lemmas.List.Sorted.{IsPartitionPoint-from_clause, IsPartitionedBy-ltb}
use Rattle.x12_outbound.specs.declared.row.Row.{Row}
use Rattle.x12_outbound.specs.Group.{groups_of_row, last_gcn}
use Rattle.x12_outbound.proofs.GroupLemmas.{last_rises, one_row}
use Rattle.x12_outbound.proofs.group.row_of_group.Goals as goal

-- the closure compares a row's last group
pub returns : goal.returns
returns c =
    let rows = c.args.rows.now in
    let last = λ (r : Row). last_gcn (groups_of_row r) in
    one_row rows c.requires c.args.number c.partition_point.result
    (IsPartitionPoint-from_clause (λ (r : Row). ltb (last r) c.args.number) rows c.partition_point.result c.partition_point.ensures.partitioned (IsPartitionedBy-ltb last rows c.args.number (last_rises rows c.requires)) (λ a r k called. search (rules, of_calls)))
