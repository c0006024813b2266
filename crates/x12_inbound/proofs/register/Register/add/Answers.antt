use Rattle.std.proofs.Common.{ℕ, ◌≡◌, ◌∙◌, ◌++◌, ◌∷◌, [], List, ap, map, take, drop}
use Rattle.x12_inbound.specs.declared.filing.FiledRow.{FiledRow}
use Rattle.x12_inbound.specs.declared.posting.Posting.{Posting}
use Rattle.x12_inbound.specs.Filing.{filed_key, filed_row_view}
use Rattle.x12_inbound.specs.Posting.{posting_view}
use Rattle.x12_inbound.proofs.PutLemmas.{map_put}
use Rattle.x12_inbound.proofs.FoundLemmas.{files_put}
use Rattle.x12_inbound.proofs.RegisterLemmas.{none_posted, in_order_put}
use Rattle.x12_inbound.proofs.register.Register.add.Goals as goal

-- what the rows and the postings stand for afterwards
filed_as : (new before rows : List FiledRow) (row : FiledRow) (at : ℕ) → new ≡ take at before ++ (row ∷ [] ++ drop at before)
    → before ≡ rows → map filed_row_view new ≡ take at (map filed_row_view rows) ++ (filed_row_view row ∷ [] ++ drop at (map filed_row_view rows))
filed_as new before rows row at is same =
    ap (map filed_row_view) (is ∙ ap (λ (l : List FiledRow). take at l ++ (row ∷ [] ++ drop at l)) same) ∙ map_put filed_row_view rows (row ∷ []) at

posted_as : (new postings more : List Posting) (at : ℕ) → new ≡ take at postings ++ (more ++ drop at postings)
    → map posting_view new ≡ take at (map posting_view postings) ++ (map posting_view more ++ drop at (map posting_view postings))
posted_as new postings more at is = ap (map posting_view) is ∙ map_put posting_view postings more at

pub postings_place-behind-requires-clause-new : goal.postings_place-behind-requires-clause-new
postings_place-behind-requires-clause-new c =
    let none = rw (← c.self.view_is, ← c.kept.view_is) at c.requires in
    rw c.deref-2.ensures.value
    (none_posted (map filed_row_view c.self.inside.rows.items) (map posting_view c.self.inside.postings.items) (filed_key (filed_row_view c.kept.inside.row)) c.self.invariant.of_filed none)

pub invariant_of-self-2 : goal.invariant_of-self-2
invariant_of-self-2 c =
    let row : FiledRow = c.kept.inside.row in
    let rows = c.self.inside.rows.items in
    let postings = c.self.inside.postings.items in
    let at = c.interchange_place-at.result in
    let behind = c.postings_place-behind.result in
    let filed_place = rw c.deref.ensures.value at c.interchange_place-at.ensures in
    let posted_place = rw c.deref-2.ensures.value at c.postings_place-behind.ensures in
    let filed = filed_as c.put_at.new.items.items c.reserve.new.self.items rows row at c.put_at.ensures c.reserve.ensures.items in
    let posted = posted_as c.append_at.new.items.items postings c.kept.inside.postings.items behind c.in_default-append_at.ensures.ok in
    rw (filed, posted)
    (in_order_put (map filed_row_view rows) (map posting_view postings) (map posting_view c.kept.inside.postings.items) (filed_row_view row) at behind c.self.invariant c.kept.invariant filed_place posted_place)

pub returns-clause-ok : goal.returns-clause-ok
returns-clause-ok c =
    let row : FiledRow = c.kept.inside.row in
    let rows = c.self.inside.rows.items in
    let postings = c.self.inside.postings.items in
    let at = c.interchange_place-at.result in
    let behind = c.postings_place-behind.result in
    let filed = filed_as c.put_at.new.items.items c.reserve.new.self.items rows row at c.put_at.ensures c.reserve.ensures.items in
    let posted = posted_as c.append_at.new.items.items postings c.kept.inside.postings.items behind c.in_default-append_at.ensures.ok in
    let filed_place = rw c.deref.ensures.value at c.interchange_place-at.ensures in
    let posted_place = rw c.deref-2.ensures.value at c.postings_place-behind.ensures in
    rw (← c.self.view_is, ← c.kept.view_is)
    (files_put (map filed_row_view rows) (map filed_row_view c.put_at.new.items.items) (map posting_view postings) (map posting_view c.append_at.new.items.items) (map posting_view c.kept.inside.postings.items) (filed_row_view row) at behind _ _ _ _ c.self.invariant c.kept.invariant filed_place posted_place filed posted)
