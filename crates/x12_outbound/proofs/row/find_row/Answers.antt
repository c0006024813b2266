use Rattle.std.proofs.Common.{rules}
use Rattle.std.proofs.lemmas.List.Sorted.{answers_always}
use Rattle.x12_outbound.specs.declared.row.Row.{Row}
use Rattle.x12_outbound.specs.Ledger.{LedgerRow, row_view}
use Rattle.x12_outbound.proofs.SearchLemmas.{Found, find_by_number}
use Rattle.x12_outbound.proofs.row.find_row.Goals as goal
use Rattle.x12_outbound.proofs.row.find_row.Goals.{After-ok}

-- the closure gives a row's number
by_number : (c : After-ok) → Found row_view (λ (r : LedgerRow). r.interchange.icn) c.args.rows.now c.args.icn c.ok.result
by_number c =
    let facts = c.binary_search_by_key.ensures in
    let position = facts.position (λ (row : Row). row.entry.icn) (answers_always _ _ _ (λ f a r g called. search rules)) in
    rw c.ok.ensures.value (find_by_number row_view (λ (r : LedgerRow). r.interchange.icn) _ _ c.requires _ facts.bound position)

pub returns-clause-found : goal.returns-clause-found
returns-clause-found c = (by_number c).found

pub returns-clause-none : goal.returns-clause-none
returns-clause-none c = (by_number c).none
