-- The table of the directory.
use Rattle.std.proofs.Common.{◌≡◌, ◌≤◌, ◌<◌, ◌^◌, ◌++◌, ℕ, pos, List, [], ◌∷◌, map, filter, not, Bool, Ok, refl, sym, ap, subst, ◌∙◌, inl, inr, arith, append-nil, IsPermutation}
use Rattle.std.specs.List.{AllByRecursion}
use Rattle.std.specs.Str.{bytes_eq}
use Rattle.std.proofs.lemmas.Bool.{cases_Bool}
use Rattle.std.proofs.lemmas.List.Sorted.{IsPermutation-sym, IsPermutation-middle}
use Rattle.sqlite.specs.declared.types.Value.TheVariants.{Int, Blob}
use Rattle.sqlite.specs.State.{State, Executes}
use Rattle.sql_rows.specs.Keyed.{RisesFrom}
use Rattle.sql_rows.proofs.Tests.{blob_test, one_and, cast_int, cast_null}
use Rattle.sql_rows.proofs.Statements.{drops, adds}
use Rattle.x12_envelopes.specs.declared.party.Party.{Party}
use Rattle.x12_judge.specs.Agreement.{is_same_party}
use Rattle.x12_hub.specs.Hub.{Mailbox, entries_of_others}
use Rattle.x12_hub.specs.Stored.{HubStored}
use Rattle.x12_numbers.proofs.Shelf.{all_and_one, all_filtered}
use Rattle.x12_tables.proofs.KeyLemmas.{is}
use Rattle.x12_tables.proofs.PartyLemmas.{split_eq}
use Rattle.x12_tables.specs.Party.{bytes_of_party, IsWideParty}
use Rattle.x12_hub_records.proofs.HubCompile.{dismiss_text, dismiss_is, enter_text, enter_terms, enter_is}
use Rattle.x12_hub_records.proofs.TableLemmas.{directory_is_free, with_directory}
use Rattle.x12_hub_records.specs.HubSchema.{hub_schema, directory}
use Rattle.x12_hub_records.specs.HubTables.{IsWideEntry, directory_row, HasHubTables}
use Rattle.sqlite.specs.Order.{Row}

module _ (party : Party) (two : IsWideParty party) where
  others_are : (ms : List Mailbox) → AllByRecursion IsWideEntry ms → filter (λ m. not (bytes_eq (bytes_of_party m.party) (bytes_of_party party))) ms ≡ entries_of_others party ms
  others_are [] h = refl
  others_are (m ∷ ms) h = elim (cases_Bool (is_same_party m.party party)) [
    | inl yes1 ↦ rw (split_eq m.party.qualifier party.qualifier m.party.id party.id (h.0.0.0 ∙ sym two.0), yes1) (others_are ms h.1)
    | inr no1 ↦ rw (split_eq m.party.qualifier party.qualifier m.party.id party.id (h.0.0.0 ∙ sym two.0), no1) (ap (λ more. m ∷ more) (others_are ms h.1))
  ]

behind_others : (p : Mailbox → Bool) (at : List (ℕ × Mailbox)) → map (λ (x : ℕ × Mailbox). x.1) (filter (λ (x : ℕ × Mailbox). not (p x.1)) at) ≡ filter (λ m. not (p m)) (map (λ (x : ℕ × Mailbox). x.1) at)
behind_others p [] = refl
behind_others p (x ∷ at) = elim (cases_Bool (p x.1)) [
  | inl yes1 ↦ rw (yes1, behind_others p at) refl
  | inr no1 ↦ rw (no1, behind_others p at) refl
]

module _ {X : Type 0} where
  raised : (low high : ℕ) (at : List (ℕ × X)) → low ≤ high → AllByRecursion (λ x. x.0 ≤ low) at → AllByRecursion (λ x. x.0 ≤ high) at
  raised low high [] up h = tt
  raised low high (x ∷ at) up h = (omega (arith, up, h.0), raised low high at up h.1)

  rises_to : (n last : ℕ) (at : List (ℕ × X)) (x : ℕ × X) → n < x.0 → last < x.0 → RisesFrom n at → AllByRecursion (λ x. x.0 ≤ last) at → RisesFrom n (at ++ x ∷ [])
  rises_to n last [] x low above rise within = (low, tt)
  rises_to n last (y ∷ ys) x low above rise within = (rise.0, rises_to y.0 last ys x (omega (arith, above, within.0)) above rise.1 within.1)

map_last : (at : List (ℕ × Mailbox)) (x : ℕ × Mailbox) → map (λ (x : ℕ × Mailbox). x.1) (at ++ x ∷ []) ≡ map (λ (x : ℕ × Mailbox). x.1) at ++ x.1 ∷ []
map_last [] x = refl
map_last (y ∷ ys) x = ap (λ more. y.1 ∷ more) (map_last ys x)

pub dismisses : (old new : State) (party : Party) (count last : ℕ) (s : HubStored) → IsWideParty party → HasHubTables last old.now s → Executes dismiss_text (Blob (bytes_of_party party) ∷ []) old new (Ok count)
    → HasHubTables last new.now (record s { directory = entries_of_others party s.directory })
dismisses old new party count last s two has h =
    let params : Row = Blob (bytes_of_party party) ∷ [] in
    let holds = has.directory in
    let of : Mailbox → Bool = λ m. bytes_eq (bytes_of_party m.party) (bytes_of_party party) in
    let is_of_party : ℕ × Mailbox → Bool = λ x. bytes_eq (bytes_of_party x.1.party) (bytes_of_party party) in
    let did = drops dismiss_text params old new hub_schema has.schema 0 (directory 0) refl directory_is_free dismiss_is.1 (λ db. refl) directory_row holds.at holds.are
    (is 2 0 ∷ []) is_of_party (λ x. rw (blob_test (bytes_of_party x.1.party) (bytes_of_party party)) (one_and (bytes_eq (bytes_of_party x.1.party) (bytes_of_party party)))) dismiss_is.0 count h in
    with_directory last s old new has did.1 last (entries_of_others party s.directory) (record {
      at = filter (λ (x : ℕ × Mailbox). not (of x.1)) holds.at;
      are = did.0;
      within = all_filtered (λ x. x.0 ≤ last) (λ (x : ℕ × Mailbox). not (of x.1)) holds.at holds.within;
      entries_are = behind_others of holds.at ∙ ap (filter (λ m. not (of m))) holds.entries_are ∙ others_are party two s.directory holds.wide;
      few = holds.few;
      wide = all_filtered IsWideEntry (λ m. not (is_same_party m.party party)) s.directory holds.wide;
    })

pub enters : (old new : State) (party : Party) (node at count last : ℕ) (s : HubStored) → IsWideEntry (record { party = party; node = node }) → at < 2 ^ 32 → last < at → HasHubTables last old.now s
    → Executes enter_text (Int (pos at) ∷ Blob (bytes_of_party party) ∷ Int (pos node) ∷ []) old new (Ok count) → HasHubTables at new.now (record s { directory = s.directory ++ record { party = party; node = node } ∷ [] })
enters old new party node at count last s wide few above has h =
    let params : Row = Int (pos at) ∷ Blob (bytes_of_party party) ∷ Int (pos node) ∷ [] in
    let m : Mailbox = record { party = party; node = node } in
    let holds = has.directory in
    let moved : IsPermutation ((at, m) ∷ holds.at) (holds.at ++ (at, m) ∷ []) =
    subst (λ xs. IsPermutation ((at, m) ∷ xs) (holds.at ++ (at, m) ∷ [])) (append-nil holds.at) (IsPermutation-sym _ _ (IsPermutation-middle holds.at (at, m) [])) in
    let rise : RisesFrom 0 (holds.at ++ (at, m) ∷ []) = rises_to 0 last holds.at (at, m) (omega (arith, above)) above holds.are.rise holds.within in
    let did = adds enter_text params old new hub_schema has.schema 0 (directory 0) refl directory_is_free enter_is.1 (λ db. refl) directory_row holds.at holds.are
    enter_terms 4 (at, m) (holds.at ++ (at, m) ∷ []) refl refl (rw (cast_int at, cast_null, cast_int node) refl) enter_is.0 count h moved rise in
    with_directory last s old new has did.1 at (s.directory ++ m ∷ []) (record {
      at = holds.at ++ (at, m) ∷ [];
      are = did.0;
      within = all_and_one (λ x. x.0 ≤ at) holds.at (at, m) (raised last at holds.at (omega (arith, above)) holds.within) (omega arith);
      entries_are = map_last holds.at (at, m) ∙ ap (λ ms. ms ++ m ∷ []) holds.entries_are;
      few = few;
      wide = all_and_one IsWideEntry s.directory m holds.wide wide;
    })
