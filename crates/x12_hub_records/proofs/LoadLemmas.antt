-- What a hub loads of its tables.
use Rattle.std.proofs.Common.{◌≡◌, ℕ, pos, List, [], ◌∷◌, map, true, false, codes, refl, sym, ap, subst, ◌∙◌, IsPermutation}
use Rattle.std.specs.List.{AllByRecursion}
use Rattle.sqlite.specs.declared.types.Value.TheVariants.{Null, Int, Blob}
use Rattle.sqlite.specs.Collation.TheVariants.{Binary}
use Rattle.sqlite.specs.Command.{Command}
use Rattle.sqlite.specs.Command.TheVariants.{Select}
use Rattle.sqlite.specs.Listing.{understood, reads_listing}
use Rattle.sqlite.specs.Order.{Row}
use Rattle.sqlite.specs.Program.{overlay}
use Rattle.sqlite.specs.Query.{Output, IsAnswer, output}
use Rattle.sqlite.specs.State.{State, Shown}
use Rattle.sqlite.specs.Term.{Term, col}
use Rattle.sqlite.specs.Tree.{Trees}
use Rattle.sqlite.proofs.Callers.{IsPlain, command_of, reads_as}
use Rattle.sqlite_tied.specs.Compute.{everything}
use Rattle.sqlite_value.specs.declared.keys.Key.{Key}
use Rattle.sql_rows.specs.Keyed.{with_id, RisesFrom, AreRows}
use Rattle.sql_rows.proofs.Selects.{one_table, answers}
use Rattle.sql_rows.proofs.Sorted.{HasKey, key_of, Rises, ordered_is}
use Rattle.sql_rows.specs.Query.{IsQuery}
use Rattle.sql_rows.proofs.Queries.{select_asks}
use Rattle.x12_hub.specs.Hub.{Mailbox}
use Rattle.x12_hub.specs.Stored.{HubStored, WaitingItem}
use Rattle.x12_tables.proofs.AllRows.{all_pass}
use Rattle.x12_tables.proofs.PartyLemmas.{party_back}
use Rattle.x12_tables.specs.Party.{bytes_of_party}
use Rattle.x12_hub_records.specs.HubRead.{entry_shown, waiting_shown}
use Rattle.x12_hub_records.specs.HubSchema.{hub_schema}
use Rattle.x12_hub_records.specs.HubTables.{IsWideEntry, waiting_pair, directory_row, waiting_row, HasHubTables}

abbrev by_at : List (Term × Key)
by_at = (col 1 0, record { collation = Binary; descending = false }) ∷ []

abbrev pub directory_text : List ℕ
directory_text = codes "SELECT party, node FROM directory ORDER BY at"

abbrev directory_command : Command
directory_command = Select (record { lets = []; body = one_table 0 [] (col 1 2 ∷ col 1 3 ∷ []) by_at }) (codes "party" ∷ codes "node" ∷ [])

pub directory_is : (command_of (understood hub_schema directory_text) ≡ directory_command) × (reads_listing hub_schema directory_text ≡ false) × IsPlain (understood hub_schema directory_text)
unfolding understood everything
directory_is = (refl, refl, (refl, refl))

pub directory_asks : IsQuery directory_text
unfolding everything
directory_asks = select_asks directory_text ((λ s base. refl), (λ s. refl))

abbrev pub waiting_text : List ℕ
waiting_text = codes "SELECT item, node FROM mailbox ORDER BY item"

abbrev pub waiting_command : Command
waiting_command = Select (record { lets = []; body = one_table 4 [] (col 1 0 ∷ col 1 2 ∷ []) by_at }) (codes "item" ∷ codes "node" ∷ [])

pub waiting_is : (command_of (understood hub_schema waiting_text) ≡ waiting_command) × (reads_listing hub_schema waiting_text ≡ false) × IsPlain (understood hub_schema waiting_text)
unfolding understood everything
waiting_is = (refl, refl, (refl, refl))

pub waiting_asks : IsQuery waiting_text
unfolding everything
waiting_asks = select_asks waiting_text ((λ s base. refl), (λ s. refl))

-- all rows of a table, by its key
module _ {X : Type 0} (enc : X → Row) (tree : ℕ) (project : List Term) (show : ℕ × X → Row) where
  abbrev keyed_out : ℕ × X → Output
  keyed_out x = (Int (pos x.0) ∷ [], show x)

  keyed : (ys : List (ℕ × X)) → AllByRecursion HasKey (map keyed_out ys)
  keyed [] = tt
  keyed (y ∷ ys) = (refl, keyed ys)

  rises : (n : ℕ) (ys : List (ℕ × X)) → RisesFrom n ys → Rises key_of n (map keyed_out ys)
  rises n [] h = tt
  rises n (y ∷ ys) h = (h.0, rises y.0 ys h.1)

  shown_back : (ys : List (ℕ × X)) → map (λ (o : Output). o.1) (map keyed_out ys) ≡ map show ys
  shown_back [] = refl
  shown_back (y ∷ ys) = ap (λ more. show y ∷ more) (shown_back ys)

  pub in_order : ((x : ℕ × X) → output (one_table tree [] project by_at) ([] ∷ with_id enc x ∷ []) ≡ keyed_out x) → (db : Trees) (at : List (ℕ × X)) (rows : List Row) → AreRows enc at (db tree)
      → IsAnswer (one_table tree [] project by_at) db [] rows → rows ≡ map show at
  in_order shows db at rows are a =
      let q = one_table tree [] project by_at in
      let got = answers [] tree [] project by_at (with_id enc) (λ (x : ℕ × X). true) keyed_out (λ x. refl) shows db at rows are.same a in
      let same = subst (λ xs. IsPermutation (map keyed_out xs) got.0) (all_pass at) got.1 in
      let exact : got.0 ≡ map keyed_out at = ordered_is q refl (map keyed_out at) got.0 (keyed at) (rises 0 at are.rise) same got.2 in
      got.3 ∙ ap (map (λ (o : Output). o.1)) exact ∙ shown_back at

abbrev entry_row : ℕ × Mailbox → Row
entry_row x = Blob (bytes_of_party x.1.party) ∷ Int (pos x.1.node) ∷ []

entries_back : (at : List (ℕ × Mailbox)) → AllByRecursion IsWideEntry (map (λ (x : ℕ × Mailbox). x.1) at) → map entry_shown (map entry_row at) ≡ map (λ (x : ℕ × Mailbox). x.1) at
entries_back [] h = refl
entries_back (x ∷ at) h = rw (party_back x.1.party h.0.0, entries_back at h.1) refl

abbrev waits_row : ℕ × ℕ → Row
waits_row x = Int (pos x.0) ∷ Int (pos x.1) ∷ []

waits_back : (ws : List WaitingItem) → map waiting_shown (map waits_row (map waiting_pair ws)) ≡ ws
waits_back [] = refl
waits_back (w ∷ ws) = ap (λ more. w ∷ more) (waits_back ws)

module _ (old new : State) (last : ℕ) (rows : List Row) (s : HubStored) (has : HasHubTables last old.now s) where
  pub loads_directory : Shown directory_text [] old new rows → map entry_shown rows ≡ s.directory
  loads_directory h =
      let got = reads_as directory_text [] old new hub_schema has.schema directory_command directory_is.0 directory_is.2 directory_is.1 rows h in
      let holds = has.directory in
      let exact : rows ≡ map entry_row holds.at = in_order directory_row 0 (col 1 2 ∷ col 1 3 ∷ []) entry_row (λ x. refl) (overlay old.now.trees []) holds.at rows holds.are (got.answer Null) in
      ap (map entry_shown) exact ∙ entries_back holds.at (subst (AllByRecursion IsWideEntry) (sym holds.entries_are) holds.wide) ∙ holds.entries_are

  pub loads_waiting : Shown waiting_text [] old new rows → map waiting_shown rows ≡ s.waiting
  loads_waiting h =
      let got = reads_as waiting_text [] old new hub_schema has.schema waiting_command waiting_is.0 waiting_is.2 waiting_is.1 rows h in
      let exact : rows ≡ map waits_row (map waiting_pair s.waiting) = in_order waiting_row 4 (col 1 0 ∷ col 1 2 ∷ []) waits_row (λ x. refl) (overlay old.now.trees []) (map waiting_pair s.waiting) rows has.waiting (got.answer Null) in
      ap (map waiting_shown) exact ∙ waits_back s.waiting
