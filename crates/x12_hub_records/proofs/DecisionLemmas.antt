-- The table of decisions.
use Rattle.std.proofs.Common.{◌≡◌, ◌<◌, ◌^◌, ◌+◌, ◌++◌, ℕ, pos, List, [], ◌∷◌, length, Ok, refl, sym, ap, subst, ◌∙◌, arith, append-nil, IsPermutation}
use Rattle.std.specs.List.{enumerate_from}
use Rattle.std.proofs.lemmas.List.Sorted.{IsPermutation-sym, IsPermutation-middle}
use Rattle.sqlite.specs.declared.types.Value.TheVariants.{Int, Blob}
use Rattle.sqlite.specs.Cast.{cast_row}
use Rattle.sqlite.specs.State.{State, Executes}
use Rattle.sql_rows.specs.Keyed.{with_id}
use Rattle.sql_rows.proofs.Tests.{cast_int, cast_null}
use Rattle.sql_rows.proofs.Statements.{adds}
use Rattle.x12_hub.specs.Hub.{Decision, HubOutcome, Boxed, Refused}
use Rattle.x12_hub.specs.Stored.{HubStored}
use Rattle.x12_numbers.proofs.Shelf.{all_and_one, enumerate_push}
use Rattle.x12_tables.proofs.KeyLemmas.{places_rise}
use Rattle.x12_hub_records.proofs.HubCompile.{refuse_text, box_terms, box_text, refuse_terms, refuse_is, box_is}
use Rattle.x12_hub_records.proofs.TableLemmas.{decision_is_free, with_decisions}
use Rattle.x12_hub_records.specs.HubChange.{decided_too}
use Rattle.x12_hub_records.specs.HubSchema.{decision, hub_schema}
use Rattle.x12_hub_records.specs.HubTables.{decision_row, IsWideOutcome, HasHubTables}
use Rattle.sqlite.specs.Order.{Row}

casts : (item : ℕ) (b : List ℕ) (o : HubOutcome) → cast_row (decision 2) (with_id decision_row (item, record { body = b; outcome = o })) ≡ with_id decision_row (item, record { body = b; outcome = o })
casts item b (Boxed node m) = rw (cast_int item, cast_null, cast_int node) refl
casts item b (Refused reply) = rw (cast_int item, cast_null) refl

module _ (old new : State) (item count last : ℕ) (s : HubStored) (has : HasHubTables last old.now s) (next : item ≡ 1 + length s.decisions) (b : List ℕ) where
  moved : (d : Decision) → IsPermutation ((item, d) ∷ enumerate_from 1 s.decisions) (enumerate_from 1 (s.decisions ++ d ∷ []))
  moved d =
      let is : enumerate_from 1 (s.decisions ++ d ∷ []) ≡ enumerate_from 1 s.decisions ++ (item, d) ∷ [] = enumerate_push 1 s.decisions d ∙ ap (λ k. enumerate_from 1 s.decisions ++ (k, d) ∷ []) (sym next) in
      subst (IsPermutation ((item, d) ∷ enumerate_from 1 s.decisions)) (sym is) (subst (λ xs. IsPermutation ((item, d) ∷ xs) (enumerate_from 1 s.decisions ++ (item, d) ∷ [])) (append-nil (enumerate_from 1 s.decisions)) (IsPermutation-sym _ _ (IsPermutation-middle (enumerate_from 1 s.decisions) (item, d) [])))

  pub boxes : (node m : ℕ) → node < 2 ^ 16 → Executes box_text (Int (pos item) ∷ Int (pos node) ∷ Blob b ∷ []) old new (Ok count) → HasHubTables last new.now (decided_too (record { body = b; outcome = Boxed node m }) s)
  boxes node m narrow h =
      let d : Decision = record { body = b; outcome = Boxed node m } in
      let params : Row = Int (pos item) ∷ Int (pos node) ∷ Blob b ∷ [] in
      let did = adds box_text params old new hub_schema has.schema 1 (decision 2) refl decision_is_free box_is.1 (λ db. refl) decision_row (enumerate_from 1 s.decisions) has.decisions
      box_terms 5 (item, d) (enumerate_from 1 (s.decisions ++ d ∷ [])) refl refl (casts item b (Boxed node m)) box_is.0 count h (moved d) (places_rise 0 1 (s.decisions ++ d ∷ []) (omega arith)) in
      with_decisions last s old new has did.1 (s.decisions ++ d ∷ []) did.0 (all_and_one (λ d. IsWideOutcome d.outcome) s.decisions d has.boxed narrow)

  pub refuses : (reply : List ℕ) → Executes refuse_text (Int (pos item) ∷ Blob reply ∷ Blob b ∷ []) old new (Ok count) → HasHubTables last new.now (decided_too (record { body = b; outcome = Refused reply }) s)
  refuses reply h =
      let d : Decision = record { body = b; outcome = Refused reply } in
      let params : Row = Int (pos item) ∷ Blob reply ∷ Blob b ∷ [] in
      let did = adds refuse_text params old new hub_schema has.schema 1 (decision 2) refl decision_is_free refuse_is.1 (λ db. refl) decision_row (enumerate_from 1 s.decisions) has.decisions
      refuse_terms 5 (item, d) (enumerate_from 1 (s.decisions ++ d ∷ [])) refl refl (casts item b (Refused reply)) refuse_is.0 count h (moved d) (places_rise 0 1 (s.decisions ++ d ∷ []) (omega arith)) in
      with_decisions last s old new has did.1 (s.decisions ++ d ∷ []) did.0 (all_and_one (λ d. IsWideOutcome d.outcome) s.decisions d has.boxed tt)
