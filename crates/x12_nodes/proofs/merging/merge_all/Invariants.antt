-- what was merged, and what is left merged onto it, is the merge of all
use Rattle.std.proofs.Common.{◌≡◌, drop, map}
use Rattle.x12_nodes.specs.Merging.{all_merged, merged_onto, stamp_itself}
use Rattle.x12_nodes.proofs.merging.merge_all.Given as goal

abbrev pub invariant-loop-list : goal.invariant-loop-list
invariant-loop-list l =
    merged_onto stamp_itself l.out.items (map (λ v. v.items) (drop l.list-index l.lists))
    ≡ all_merged stamp_itself (map (λ v. v.items) l.lists)
