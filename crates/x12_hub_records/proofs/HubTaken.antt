-- The rows of sound records of a hub are what is tested before they are taken over.
use Rattle.std.proofs.Common.{◌≡◌, ◌<◌, ◌≤◌, ◌+◌, ◌-◌, ◌^◌, ◌∙◌, ℕ, zero, suc, pos, List, [], ◌∷◌, map, length, slice_get, Option, Some, None, refl, sym, ap, subst, arith}
use Rattle.std.specs.Prelude.{is_none}
use Rattle.std.specs.List.{AllByRecursion, enumerate_from, count_by}
use Rattle.std.proofs.lemmas.List.{length-append, length-map}
use Rattle.std.proofs.lemmas.List.Sums.{count_by-le-length}
use Rattle.std.specs.Ordering.{is_eq}
use Rattle.sqlite.specs.declared.types.Value.TheVariants.{Null, Int, Blob}
use Rattle.sqlite.specs.Effect.{Database}
use Rattle.sqlite.specs.Ops.{binary, from_truth}
use Rattle.sqlite.specs.Order.{Row, value_cmp}
use Rattle.sqlite.specs.Program.{overlay}
use Rattle.sqlite.specs.State.{State, Shown}
use Rattle.sqlite.specs.Term.{col, lit, op2}
use Rattle.sqlite_value.proofs.OrderLemmas.{value_cmp-Null}
use Rattle.sqlite_sql.specs.declared.ops.BinaryOp.TheVariants.{Is}
use Rattle.sqlite.specs.Collation.TheVariants.{Binary}
use Rattle.sql_rows.specs.Keyed.{RisesFrom}
use Rattle.x12_hub.specs.Hub.{Mailbox, Decision, HubOutcome, Boxed, Refused}
use Rattle.x12_hub.specs.Stored.{WaitingItem, AreRising, AllWaitRightly, WaitsRightly, decision_at, is_refusal, count_of_refusals}
use Rattle.x12_tables.proofs.OneRowLemmas.{shows_one}
use Rattle.x12_tables.specs.Party.{bytes_of_party}
use Rattle.x12_hub_records.proofs.AdoptReads.{entries_reads, decided_reads, waiting_reads, by_first, decided_text, entries_text}
use Rattle.x12_hub_records.proofs.LoadLemmas.{in_order, waiting_text}
use Rattle.x12_hub_records.proofs.NumbersKept.{numbers_text, numbers_is, numbers_names, numbers_shows}
use Rattle.x12_hub_records.proofs.RecordsFound.{refusals_are}
use Rattle.x12_tables.proofs.TakesLemmas.{shown_answer}
use Rattle.x12_hub_records.specs.HubAdopt.{AreEntries, IsDecided, AreDecisions, boxed_for, IsWaiting, AreWaiting, HoldsSoundHub, AreNumbers, FindsDecided, HoldsHubBy}
use Rattle.x12_hub_records.specs.HubContent.{hub_content_of}
use Rattle.x12_hub_records.specs.HubSchema.{hub_schema}
use Rattle.x12_hub_records.specs.HubTables.{IsWideEntry, refusal_value, node_value, IsWideOutcome, waiting_pair, directory_row, waiting_row, hub_numbers_of, decision_row, hubnumber_row}
use Rattle.x12_hub_records.specs.declared.hub_numbers.HubNumbers.{HubNumbers}

abbrev entry_shows : ℕ × Mailbox → Row
entry_shows x = Int (pos x.0) ∷ Blob (bytes_of_party x.1.party) ∷ Int (pos x.1.node) ∷ []

-- entries by rising number, from above one up to one of 32 bits, are those that are tested
entries : (from last : ℕ) (at : List (ℕ × Mailbox)) → last < 2 ^ 32 → RisesFrom from at → AllByRecursion (λ x. x.0 ≤ last) at
    → AllByRecursion IsWideEntry (map (λ (x : ℕ × Mailbox). x.1) at) → (end : ℕ) × AreEntries from end (map entry_shows at)
entries from last [] low rise within wide = (from, refl)
entries from last (x ∷ at) low rise within wide =
    let rest = entries x.0 last at low rise.1 within.1 wide.1 in (
      rest.0,
      (
        x.0,
        record {
          above = rise.0;
          at_is = refl;
          bytes = bytes_of_party x.1.party;
          party_is = refl;
          width = length-append x.1.party.qualifier x.1.party.id ∙ rw (wide.0.0.0, wide.0.0.1) refl;
          node = x.1.node;
          node_is = refl;
          narrow = (omega (arith, low, within.0), wide.0.1);
        },
        rest.1,
      ),
    )

abbrev decision_shows : ℕ × Decision → Row
decision_shows x = Int (pos x.0) ∷ node_value x.1.outcome ∷ from_truth (Some (is_eq (value_cmp (refusal_value x.1.outcome) Null))) ∷ []

one_decided : (n : ℕ) (b : List ℕ) (o : HubOutcome) → n < 2 ^ 32 → IsWideOutcome o
    → (node : Option ℕ) × IsDecided n node (decision_shows (n, record { body = b; outcome = o }))
unfolding value_cmp
one_decided n b (Boxed node item) low wide = (Some node, (refl, refl, ap (λ o. from_truth (Some (is_eq o))) (value_cmp-Null Null), low, wide))
one_decided n b (Refused reply) low wide = (None, (refl, refl, refl, low))

-- decisions under their places are those that are tested
decided : (n : ℕ) (ds : List Decision) → n + length ds ≤ 2 ^ 32 → AllByRecursion (λ d. IsWideOutcome d.outcome) ds → AreDecisions n (map decision_shows (enumerate_from n ds))
decided n [] low wide = tt
decided n (d ∷ ds) low wide = (one_decided n d.body d.outcome (omega (arith, low)) wide.0, decided (n + 1) ds (omega (arith, low)) wide.1)

abbrev waiting_shows : ℕ × ℕ → Row
waiting_shows x = Int (pos x.0) ∷ Int (pos x.1) ∷ []

module _ {X : Type 0} (P : X → Type 0) where
  all_at : (xs : List X) (k : ℕ) (x : X) → AllByRecursion P xs → slice_get xs k ≡ Some x → P x
  all_at [] k x all at = absurd cc
  all_at (y ∷ xs) zero x all at = let same : y ≡ x = cc in subst P same all.0
  all_at (y ∷ xs) (suc k) x all at = all_at xs k x all.1 at

boxed_at : (ds : List Decision) (k : ℕ) (d : Decision) → slice_get ds k ≡ Some d → (slice_get (map boxed_for ds) k ≡ Some (boxed_for d)) × (k < length ds)
boxed_at [] k d at = absurd cc
boxed_at (e ∷ ds) zero d at = let same : e ≡ d = cc in (ap (λ x. Some (boxed_for x)) same, omega arith)
boxed_at (e ∷ ds) (suc k) d at = let rest = boxed_at ds k d at in (rest.0, omega (arith, rest.1))

one_waits : (ds : List Decision) (from : ℕ) (w : WaitingItem) → length ds < 2 ^ 32 → AllByRecursion (λ d. IsWideOutcome d.outcome) ds → from < w.item → WaitsRightly ds w
    → IsWaiting (map boxed_for ds) from w.item (waiting_shows (waiting_pair w))
one_waits ds from w low wide above right = at w.item w.node above right.0 right.1
  where
    at : (item node : ℕ) → from < item → (b : List ℕ) → decision_at ds item ≡ Some (record { body = b; outcome = Boxed node item }) → IsWaiting (map boxed_for ds) from item (waiting_shows (item, node))
    at zero node up b is = absurd (omega (arith, up))
    at (suc k) node up b is =
        let d : Decision = record { body = b; outcome = Boxed node (suc k) } in
        let boxed = boxed_at ds k d is in
        let place : suc k - 1 ≡ k = omega arith in
        record {
          above = up;
          item_is = refl;
          node = node;
          node_is = refl;
          narrow = (omega (arith, low, boxed.1), all_at (λ d. IsWideOutcome d.outcome) ds k d wide is);
          boxed_so = ap (slice_get (map boxed_for ds)) place ∙ boxed.0;
        }

-- what waits is what is tested
waits : (ds : List Decision) (from : ℕ) (ws : List WaitingItem) → length ds < 2 ^ 32 → AllByRecursion (λ d. IsWideOutcome d.outcome) ds → AreRising from ws → AllWaitRightly ds ws
    → AreWaiting (map boxed_for ds) from (map waiting_shows (map waiting_pair ws))
waits ds from [] low wide rise right = tt
waits ds from (w ∷ ws) low wide rise right = (w.item, one_waits ds from w low wide rise.0 right.0, waits ds w.item ws low wide rise.1 right.1)

refusals_within : (ds : List Decision) → count_of_refusals ds ≤ length ds
refusals_within ds = count_by-le-length (λ (d : Decision). is_refusal d.outcome) ds

module _ (old new : State) (h : HoldsSoundHub old.now) (rows : List Row) where
  pub entries_taken : Shown entries_text [] old new rows → (end : ℕ) × AreEntries 0 end rows
  entries_taken shown =
      let holds = h.holds.directory in
      let exact : rows ≡ map entry_shows holds.at = in_order directory_row 0 (col 1 0 ∷ col 1 2 ∷ col 1 3 ∷ []) entry_shows (λ x. refl) (overlay old.now.trees []) holds.at rows holds.are
      (shown_answer hub_schema 0 _ by_first _ entries_text entries_reads old new h.holds.schema rows shown) in
      let got = entries 0 h.last holds.at holds.few holds.are.rise holds.within (subst (AllByRecursion IsWideEntry) (sym holds.entries_are) holds.wide) in
      (got.0, subst (AreEntries 0 got.0) (sym exact) got.1)

  pub decided_taken : Shown decided_text [] old new rows → AreDecisions 1 rows
  unfolding binary
  decided_taken shown =
      let ds = (hub_content_of old.now.trees).decisions in
      let exact : rows ≡ map decision_shows (enumerate_from 1 ds) = in_order decision_row 2 (col 1 0 ∷ col 1 2 ∷ op2 (Is Binary) (col 1 3) (lit Null) ∷ []) decision_shows (λ x. refl) (overlay old.now.trees []) (enumerate_from 1 ds) rows h.holds.decisions
      (shown_answer hub_schema 2 _ by_first _ decided_text decided_reads old new h.holds.schema rows shown) in
      subst (AreDecisions 1) (sym exact) (decided 1 ds (omega (arith, h.holds.numbers.few, h.sound.count)) h.holds.boxed)

  pub waiting_taken : Shown waiting_text [] old new rows → AreWaiting (map boxed_for (hub_content_of old.now.trees).decisions) 0 rows
  waiting_taken shown =
      let c = hub_content_of old.now.trees in
      let exact : rows ≡ map waiting_shows (map waiting_pair c.waiting) = in_order waiting_row 4 (col 1 0 ∷ col 1 2 ∷ []) waiting_shows (λ x. refl) (overlay old.now.trees []) (map waiting_pair c.waiting) rows h.holds.waiting
      (shown_answer hub_schema 4 _ by_first _ waiting_text waiting_reads old new h.holds.schema rows shown) in
      subst (AreWaiting (map boxed_for c.decisions) 0) (sym exact) (waits c.decisions 0 c.waiting (omega (arith, h.holds.numbers.few, h.sound.count)) h.holds.boxed h.sound.rising h.sound.waits)

  pub numbers_taken : Shown numbers_text [] old new rows → (n : HubNumbers) × AreNumbers n rows
  numbers_taken shown =
      let c = hub_content_of old.now.trees in
      let n = hub_numbers_of c in
      let exact = shows_one numbers_text old new hub_schema h.holds.schema 5 numbers_shows numbers_names numbers_is hubnumber_row n h.holds.numbers.are (λ x. refl) rows shown in
      let few : c.icn ≤ c.item = omega (arith, refusals_within c.decisions, h.sound.refused, h.sound.count) in (
        n,
        subst (AreNumbers n) (sym exact) (record {
          row = (refl, (refl, (refl, (refl, (refl, tt)))));
          party = h.holds.numbers.party;
          narrow = (omega (arith, few, h.holds.numbers.few), h.holds.numbers.few);
        }),
      )

-- the decisions of sound records are as many as their numbers say
pub as_many : (db : Database) (n : HubNumbers) (nodes : List (Option ℕ)) → FindsDecided db nodes → HoldsHubBy n db → (length nodes ≡ n.item) × (count_by is_none nodes ≡ n.icn)
as_many db n nodes found such =
    let c = hub_content_of db.trees in (
      ap length (sym found.boxed) ∙ length-map c.decisions boxed_for ∙ sym such.0.sound.count ∙ ap (λ (k : HubNumbers). k.item) such.1,
      ap (count_by is_none) (sym found.boxed) ∙ refusals_are c.decisions ∙ sym such.0.sound.refused ∙ ap (λ (k : HubNumbers). k.icn) such.1,
    )
