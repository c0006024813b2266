use Rattle.std.proofs.Common.{rules}
use Rattle.std.proofs.lemmas.List.Sorted.{answers_always}
use Rattle.x12_outbound.specs.declared.entry.EntryGroup.{EntryGroup}
use Rattle.x12_outbound.proofs.SearchLemmas.{searched}
use Rattle.x12_outbound.proofs.GroupLemmas.{GroupFound, group_found}
use Rattle.x12_outbound.proofs.group.group_of.Goals as goal
use Rattle.x12_outbound.proofs.group.group_of.Goals.{After-ok}

-- the closure gives a group's number
by_number : (c : After-ok) → GroupFound c.args.number c.args.groups.now c.ok.result
by_number c =
    let facts = c.binary_search_by_key.ensures in
    let position = facts.position (λ (g : EntryGroup). g.gcn) (answers_always _ _ _ (λ f a r g called. search rules)) in
    rw c.ok.ensures.value (group_found c.args.number c.args.groups.now _ (searched (λ (g : EntryGroup). g.gcn) c.args.groups.now c.requires c.args.number _ facts.bound position))

pub returns-clause-found : goal.returns-clause-found
returns-clause-found c = (by_number c).found

pub returns-clause-none : goal.returns-clause-none
returns-clause-none c = (by_number c).none
