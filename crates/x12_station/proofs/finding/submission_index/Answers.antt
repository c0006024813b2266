-- A search by number ends at the submission of this number, if there is one.
use Rattle.std.proofs.Common.{rules}
use Rattle.std.proofs.lemmas.List.Sorted.{answers_always}
use Rattle.x12_outbound.proofs.SearchLemmas.{Found, find_by_number}
use Rattle.x12_station.specs.declared.submissions.NumberedEntry.{NumberedEntry}
use Rattle.x12_station.specs.Memory.{NumberedRow, numbered_row}
use Rattle.x12_station.proofs.FindingLemmas.{found_there}
use Rattle.x12_station.proofs.finding.submission_index.Goals as goal
use Rattle.x12_station.proofs.finding.submission_index.Goals.{After-ok}

-- the closure gives a submission's number
by_number : (c : After-ok) → Found numbered_row (λ (n : NumberedRow). n.seq) c.args.rows.now c.args.seq c.ok.result
by_number c =
    let facts = c.binary_search_by_key.ensures in
    let position = facts.position (λ (row : NumberedEntry). row.seq) (answers_always _ _ _ (λ f a r g called. search rules)) in
    rw c.ok.ensures.value (find_by_number numbered_row (λ (n : NumberedRow). n.seq) _ _ c.requires _ facts.bound position)

pub returns-clause-found : goal.returns-clause-found
returns-clause-found c = found_there numbered_row (λ (n : NumberedRow). n.seq) c.args.rows.now c.args.seq c.ok.result (by_number c)

pub returns-clause-none : goal.returns-clause-none
returns-clause-none c = (by_number c).none
