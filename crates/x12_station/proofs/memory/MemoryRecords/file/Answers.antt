-- What is filed joins at the end, and the sets are settled.
use Rattle.std.proofs.Common.{◌≡◌, ◌∙◌, ◌++◌, ◌∷◌, [], List, ap, map}
use Rattle.std.specs.Vec.{with_items}
use Rattle.std.proofs.lemmas.List.{map-append}
use Rattle.x12_acks.specs.Accepted.{AcceptedSet}
use Rattle.x12_inbound.specs.Posting.{posting_view}
use Rattle.x12_outbound.specs.Settling.{target_view}
use Rattle.x12_outbound.proofs.WriteLemmas.{written}
use Rattle.x12_station.specs.declared.submissions.NumberedEntry.{NumberedEntry}
use Rattle.x12_station.specs.Stored.{StoredArrival}
use Rattle.x12_station.specs.Memory.{numbered_row, numbered_settled_by, arrival_view, memory_view}
use Rattle.x12_station.proofs.MemoryLemmas.{whole_all_settled, stored_same, sets_settled, submitted_settled, arrival_is}
use Rattle.x12_station.proofs.memory.MemoryRecords.file.Goals as goal
use Rattle.x12_station.proofs.memory.MemoryRecords.file.Goals.{After-drop-postings-2}

-- the rows once the sets are settled
rows_are : (c : After-drop-postings-2) → map numbered_row (with_items c.args.self.now.submitted c.settle.new.rows).items
    ≡ map (numbered_settled_by (map target_view c.args.settled.now)) (map numbered_row c.args.self.now.submitted.items)
rows_are c =
    ap (map numbered_row) (written c.args.self.now.submitted c.deref_mut.result.now c.settle.new.rows c.deref_mut.ensures.value c.settle.auto.rows)
    ∙ c.settle.ensures
    ∙ ap (λ (items : List NumberedEntry). map (numbered_settled_by (map target_view c.args.settled.now)) (map numbered_row items)) c.deref_mut.ensures.value

pub returns-clause-ok : goal.returns-clause-ok
returns-clause-ok c =
    let ts = map target_view c.args.settled.now in
    let old = map numbered_row c.args.self.now.submitted.items in
    let new = map numbered_row (with_items c.args.self.now.submitted c.settle.new.rows).items in
    let filed = arrival_is c.key_of-key.result c.args.seq c.in_ok-filed.filed c.view-icn.result.0.now c.view-icn.result.1 c.view-icn.result.2.now c.args.kept.now.filed c.key_of-key.ensures (c.in_ok-filed.ensures c.view-icn.result.0.now c.view-icn.result.1) c.view-icn.ensures.filed in
    stored_same (memory_view c.args.self.now) _ _ _ _ _ _ _ _ (submitted_settled ts old new (rows_are c)) (sets_settled ts old new (rows_are c))
    (c.file.ensures ∙ ap (λ es. map arrival_view es ++ arrival_view (c.key_of-key.result, record { seq = c.args.seq; filed = c.in_ok-filed.filed }) ∷ []) c.in_ok-reserve.ensures.entries
    ∙ ap (λ (a : StoredArrival). map arrival_view c.args.self.now.arrivals.entries ++ a ∷ []) filed)
    (ap (map posting_view) c.in_ok-append.ensures.items ∙ map-append posting_view c.args.self.now.postings.items c.in_ok-postings.postings.items
    ∙ ap (λ (ps : List AcceptedSet). map posting_view c.args.self.now.postings.items ++ ps) (c.in_ok-postings.ensures ∙ c.view-icn.ensures.postings))

pub returns-clause-whole : goal.returns-clause-whole
returns-clause-whole c =
    whole_all_settled (map target_view c.args.settled.now) (map numbered_row c.args.self.now.submitted.items) (map numbered_row (with_items c.args.self.now.submitted c.settle.new.rows).items) (rows_are c) c.requires.kept
