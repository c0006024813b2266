-- A station that was asked to do nothing yet, over records without marks.
use Rattle.std.proofs.Common.{◌≡◌, ◌∙◌, ap, sym, refl, List, [], ◌∷◌, length, map, filter}
use Rattle.x12_judge.specs.Agreement.{agreement_view}
use Rattle.x12_outbound.specs.Entry.{row_is_open}
use Rattle.x12_outbound.specs.Ledger.{LedgerRow}
use Rattle.x12_profile.specs.Edition.{Marks}
use Rattle.x12_station.specs.declared.cached.Cached.{Cached}
use Rattle.x12_station.specs.Durable.{IsHistoryOf, items_of, fared_entries}
use Rattle.x12_station.specs.History.{Item}
use Rattle.x12_station.specs.Keeps.{Caches, IsUntouched}
use Rattle.x12_station.specs.Seen.{station_of}
use Rattle.x12_station.specs.Station.{Station, new_station}
use Rattle.x12_station.specs.Stored.{Stored}
use Rattle.x12_station.proofs.ItemLemmas.{length_items}

nothing_mapped : {X Y : Type 0} (f : X → Y) (xs : List X) → map f xs ≡ [] → xs ≡ []
nothing_mapped f [] e = refl
nothing_mapped f (x ∷ xs) e = absurd cc

module _ (m : Cached) (s : Stored) (keeps : Caches m s) (durable : IsHistoryOf m.ledger.holds.me m.ledger.holds.hubs s) where
  no_items : s.seq ≡ 0 → items_of s ≡ []
  unfolding items_of
  no_items none = rw none refl

  no_rows : items_of s ≡ [] → m.ledger.holds.rows ≡ []
  unfolding fared_entries
  no_rows none = nothing_mapped (λ (r : LedgerRow). r.interchange) m.ledger.holds.rows (keeps.open_ones ∙ ap (filter row_is_open) (durable.fates ∙ no_entries (items_of s) none))
    where
      no_entries : (items : List Item) → items ≡ [] → fared_entries m.ledger.holds.me m.ledger.holds.hubs items ≡ []
      no_entries items e = rw e refl

  unmarked : IsUntouched m → (s.origin.noted ≡ 0) × (s.origin.era ≡ 0)
  unmarked untouched = (
    ap (λ (k : Marks). k.noted) (sym keeps.marks) ∙ untouched.noted,
    ap (λ (k : Marks). k.era) (sym keeps.marks) ∙ untouched.era,
  )

  pub state_new : IsUntouched m → station_of m.ledger.holds m.counts s ≡ new_station m.ledger.holds.me m.ledger.holds.hubs
  state_new untouched =
      let none = no_items (sym keeps.seq ∙ untouched.seq) in
      rw (none, sym keeps.agreements ∙ ap (map agreement_view) untouched.agreements, sym keeps.book ∙ untouched.book, untouched.tick, no_rows none, untouched.counts, (unmarked untouched).0, (unmarked untouched).1) refl

  pub untouched_by : station_of m.ledger.holds m.counts s ≡ new_station m.ledger.holds.me m.ledger.holds.hubs → IsUntouched m
  untouched_by e = record {
    noted = ap (λ (k : Marks). k.noted) (keeps.marks ∙ ap (λ (st : Station). st.marks) e);
    era = ap (λ (k : Marks). k.era) (keeps.marks ∙ ap (λ (st : Station). st.marks) e);
    seq = keeps.seq ∙ sym (length_items s durable.sound.numbered) ∙ ap (λ (st : Station). length st.items) e;
    agreements = nothing_mapped agreement_view m.agreements.items (keeps.agreements ∙ ap (λ (st : Station). st.agreements) e);
    book = keeps.book ∙ ap (λ (st : Station). st.book) e;
    tick = ap (λ (st : Station). st.tick) e;
    counts = ap (λ (st : Station). st.counts) e;
  }
