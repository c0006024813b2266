-- Rows of submissions of which no set is lifted.
use Rattle.std.specs.Prelude.{◌≡◌, ℕ, ◌==◌, ◌&&◌, not, List, [], ◌∷◌, map, All, Contains, Option, Some, None, option_map, IfSome, refl, false}
use mathlib.Core.Path.{sym, ap, ap₂, subst}
use Rattle.std.proofs.lemmas.List.Elements.{All-contains, All-head, All-tail}
use Rattle.x12_numbers.proofs.Shelf.{found_passes}
use Rattle.x12_outbound.specs.declared.entry.Entry.{Entry}
use Rattle.x12_outbound.specs.Entry.{InterchangeRow, GroupRow, SetRow, entry_row, row_is_open}
use Rattle.x12_profile.proofs.ListLemmas.{in_filter}
use Rattle.x12_station.specs.Record.{HasNoneOut, IsSoundClosed, Loaded, loaded_of}
use Rattle.x12_station.specs.Stored.{Stored, closed_entry, entries}
use Rattle.x12_verify.specs.Entries.{AreOpenIn, set_at_rest, group_at_rest, entry_at_rest}

sets_rest : (ts : List SetRow) → All (λ t. t.is_out ≡ false) ts → map set_at_rest ts ≡ ts
sets_rest [] laid = refl
sets_rest (t ∷ ts) laid = ap₂ (λ (a : SetRow) (l : List SetRow). a ∷ l) (ap (λ o. record t { is_out = o }) (sym (All-head (λ (t : SetRow). t.is_out ≡ false) t ts laid))) (sets_rest ts (All-tail (λ (t : SetRow). t.is_out ≡ false) t ts laid))

groups_rest : (gs : List GroupRow) → All (λ g. All (λ t. t.is_out ≡ false) g.sets) gs → map group_at_rest gs ≡ gs
groups_rest [] laid = refl
groups_rest (g ∷ gs) laid = ap₂ (λ (a : GroupRow) (l : List GroupRow). a ∷ l) (ap (λ ts. record g { sets = ts }) (sets_rest g.sets (All-head (λ (g : GroupRow). All (λ t. t.is_out ≡ false) g.sets) g gs laid))) (groups_rest gs (All-tail (λ (g : GroupRow). All (λ t. t.is_out ≡ false) g.sets) g gs laid))

at_rest : (e : InterchangeRow) → HasNoneOut e → entry_at_rest e ≡ e
at_rest e laid = ap (λ gs. record e { groups = gs }) (groups_rest e.groups laid)

-- What is found stands there.

pub open_found : (es rows : List InterchangeRow) → AreOpenIn es rows → (e : InterchangeRow) → Contains rows e → Contains es (entry_at_rest e)
open_found es rows are e at = subst (Contains es) (sym (at_rest e (All-contains HasNoneOut rows e are.laid at))) (are.there e at)

pub closed_found : (s : Stored) (icn : ℕ) (o : Option Entry) → option_map entry_row o ≡ closed_entry s icn → IfSome o (λ e. IsSoundClosed (entry_row e))
    → IfSome o (λ e. Contains (entries s) (entry_at_rest (entry_row e)))
closed_found s icn None is sound = tt
closed_found s icn (Some e) is sound =
    subst (Contains (entries s)) (sym (at_rest (entry_row e) sound.laid)) (found_passes (λ (q : InterchangeRow). q.icn == icn && not (row_is_open q)) (entries s) (entry_row e) (sym is)).0

pub are_open : (s : Stored) (l : Loaded) → l ≡ loaded_of s → All HasNoneOut l.entries → AreOpenIn (entries s) l.entries
are_open s l is laid = record {
  there = λ e at. (in_filter row_is_open (entries s) e (subst (λ (q : Loaded). Contains q.entries e) is at)).0;
  laid = laid;
}
