use Rattle.std.proofs.Common.{rules, map}
use Rattle.std.proofs.lemmas.List.Sorted.{answers_always}
use Rattle.x12_nodes.specs.declared.log.LogEntry.{LogEntry as CodeEntry}
use Rattle.x12_nodes.specs.Log.{LogEntry}
use Rattle.x12_nodes.specs.View.{log_entry_view}
use Rattle.x12_nodes.proofs.GetLemmas.{index_and_entry, stamps_apart}
use Rattle.x12_outbound.proofs.SearchLemmas.{Found, find_by_number}
use Rattle.x12_nodes.proofs.finding.find_index.Goals as goal
use Rattle.x12_nodes.proofs.finding.find_index.Goals.{After-ok}

-- the closure gives an entry's stamp
by_stamp : (c : After-ok) → Found log_entry_view (λ (e : LogEntry). e.stamp) c.args.log.now c.args.stamp c.ok.result
by_stamp c =
    let facts = c.binary_search_by_key.ensures in
    let position = facts.position (λ (e : CodeEntry). e.stamp) (answers_always _ _ _ (λ f a r g called. search rules)) in
    rw c.ok.ensures.value (find_by_number log_entry_view (λ (e : LogEntry). e.stamp) _ _ (stamps_apart 0 (map log_entry_view c.args.log.now) c.requires.rises) _ facts.bound position)

pub returns-clause-found : goal.returns-clause-found
returns-clause-found c = index_and_entry c.ok.result _ _ _ (by_stamp c).found

pub returns-clause-none : goal.returns-clause-none
returns-clause-none c = (by_stamp c).none
