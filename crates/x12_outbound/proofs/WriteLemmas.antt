-- What a write into a group, or into a row, stands for.
use Rattle.std.proofs.Common.{ℕ, ◌≡◌, ◌∙◌, ap, sym, Vec, List, map, length}
use Rattle.std.specs.Vec.{with_items}
use Rattle.std.proofs.lemmas.List.{with_items_is}
use Rattle.x12_outbound.specs.declared.entry.EntrySet.{EntrySet}
use Rattle.x12_outbound.specs.declared.entry.EntryGroup.{EntryGroup}
use Rattle.x12_outbound.specs.declared.row.Row.{Row}
use Rattle.x12_outbound.specs.Entry.{SetRow, GroupRow, set_row, group_row, with_place, with_set_at}
use Rattle.x12_outbound.specs.Ledger.{row_view}

-- a vector whose elements were written over has those elements
pub written : {X Z : Type 0} (v : Vec X Z) (before new : List X) → before ≡ v.items → length new ≡ length before
    → (with_items v new).items ≡ new
written v before new is same = with_items_is v new (same ∙ ap length is ∙ sym v.ok.0)

pub group_written : (old group : EntryGroup) (before new : List EntrySet) (f : SetRow → SetRow) (place : ℕ)
    → group ≡ old → before ≡ old.sets.items → length new ≡ length before
    → map set_row new ≡ with_place f place (map set_row before)
    → group_row (record { functional = old.functional; gcn = old.gcn; sets = with_items old.sets new })
    ≡ record (group_row group) { sets = with_place f place (map set_row group.sets.items) }
group_written old group before new f place same is long changed =
    let sets : map set_row (with_items old.sets new).items ≡ with_place f place (map set_row old.sets.items) =
    ap (map set_row) (written old.sets before new is long) ∙ changed
    ∙ ap (λ (s : List EntrySet). with_place f place (map set_row s)) is in
    ap (λ (s : List SetRow). record (group_row old) { sets = s }) sets
    ∙ ap (λ (g : EntryGroup). record (group_row g) { sets = with_place f place (map set_row g.sets.items) }) (sym same)

pub row_written : (old row : Row) (before new : List EntryGroup) (f : SetRow → SetRow) (group set : ℕ)
    → row ≡ old → before ≡ old.entry.groups.items → length new ≡ length before
    → map group_row new ≡ with_place (λ (g : GroupRow). record g { sets = with_place f set g.sets }) group (map group_row before)
    → row_view (record old { entry = record old.entry { groups = with_items old.entry.groups new } })
    ≡ record (row_view row) { interchange = with_set_at f group set (row_view row).interchange }
unfolding with_set_at
row_written old row before new f group set same is long changed =
    let change = λ (gs : List GroupRow). with_place (λ (g : GroupRow). record g { sets = with_place f set g.sets }) group gs in
    let groups : map group_row (with_items old.entry.groups new).items ≡ change (map group_row old.entry.groups.items) =
    ap (map group_row) (written old.entry.groups before new is long) ∙ changed
    ∙ ap (λ (gs : List EntryGroup). change (map group_row gs)) is in
    ap (λ (gs : List GroupRow). record (row_view old) { interchange = record (row_view old).interchange { groups = gs } }) groups
    ∙ ap (λ (r : Row). record (row_view r) { interchange = with_set_at f group set (row_view r).interchange }) (sym same)
