-- What the two look-ups of a decision answer.
use Rattle.std.proofs.Common.{◌≡◌, ◌≤◌, ◌<◌, ◌==◌, ◌+◌, ℕ, pos, zero, suc, List, [], ◌∷◌, length, map, filter, slice_get, Bool, false, Some, None, option_map, codes, refl, ap, subst, ◌∙◌, inl, inr, arith}
use Rattle.std.specs.List.{enumerate_from}
use Rattle.std.specs.Str.{bytes_eq}
use Rattle.std.proofs.lemmas.Bool.{cases_Bool}
use Rattle.std.proofs.lemmas.List.{length-map}
use Rattle.std.specs.Cmp.Lexicographic.{bytes_decides}
use Rattle.sqlite.specs.declared.types.Value.TheVariants.{Null, Int, Blob}
use Rattle.sqlite.specs.Command.{Command}
use Rattle.sqlite.specs.Command.TheVariants.{Select}
use Rattle.sqlite.specs.Listing.{understood, reads_listing}
use Rattle.sqlite.specs.Order.{Row}
use Rattle.sqlite.specs.Program.{overlay}
use Rattle.sqlite.specs.Query.{Output, IsAnswer}
use Rattle.sqlite.specs.State.{State, Shown}
use Rattle.sqlite.specs.Term.{Term, col}
use Rattle.sqlite.proofs.Callers.{IsPlain, command_of, reads_as}
use Rattle.sqlite_tied.specs.Compute.{everything}
use Rattle.sql_rows.specs.Keyed.{with_id}
use Rattle.sql_rows.proofs.Selects.{one_table, answers, few}
use Rattle.sql_rows.proofs.Tests.{int_test, blob_test, one_and}
use Rattle.sql_rows.specs.Query.{IsQuery}
use Rattle.sql_rows.proofs.Queries.{select_asks}
use Rattle.x12_hub.specs.DecidesOnce.{AreOnce}
use Rattle.x12_hub.specs.Hub.{Decision, HubOutcome, Boxed, Refused, decided}
use Rattle.x12_hub.specs.Stored.{HubStored, HaveItemNumbers, IsNumbered, IsSoundHub, bytes_at}
use Rattle.x12_numbers.proofs.Shelf.{differs_from_less}
use Rattle.x12_tables.proofs.FirstLemmas.{first_bytes}
use Rattle.x12_tables.proofs.KeyLemmas.{is, seconds, level, higher}
use Rattle.x12_hub_records.specs.HubRead.{first_outcome}
use Rattle.x12_hub_records.specs.HubSchema.{hub_schema}
use Rattle.x12_hub_records.specs.HubTables.{refusal_value, node_value, decision_row, HasHubTables}

abbrev pub find_text : List ℕ
find_text = codes "SELECT item, node, refusal FROM decision WHERE bytes = ?1"

abbrev find_shows : List Term
find_shows = col 1 0 ∷ col 1 2 ∷ col 1 3 ∷ []

abbrev find_command : Command
find_command = Select (record { lets = []; body = one_table 2 (is 4 0 ∷ []) find_shows [] }) (codes "item" ∷ codes "node" ∷ codes "refusal" ∷ [])

pub find_is : (command_of (understood hub_schema find_text) ≡ find_command) × (reads_listing hub_schema find_text ≡ false) × IsPlain (understood hub_schema find_text)
unfolding understood everything
find_is = (refl, refl, (refl, refl))

pub find_asks : IsQuery find_text
unfolding everything
find_asks = select_asks find_text ((λ s base. refl), (λ s. refl))

abbrev pub bytes_text : List ℕ
bytes_text = codes "SELECT bytes FROM decision WHERE item = ?1"

abbrev bytes_command : Command
bytes_command = Select (record { lets = []; body = one_table 2 (is 0 0 ∷ []) (col 1 4 ∷ []) [] }) (codes "bytes" ∷ [])

pub bytes_is : (command_of (understood hub_schema bytes_text) ≡ bytes_command) × (reads_listing hub_schema bytes_text ≡ false) × IsPlain (understood hub_schema bytes_text)
unfolding understood everything
bytes_is = (refl, refl, (refl, refl))

pub bytes_asks : IsQuery bytes_text
unfolding everything
bytes_asks = select_asks bytes_text ((λ s base. refl), (λ s. refl))

abbrev Placed : Type 0
Placed = ℕ × Decision

abbrev on_bytes : List ℕ → Placed → Bool
on_bytes b x = bytes_eq x.1.body b

abbrev outcome_row : Placed → Row
outcome_row x = Int (pos x.0) ∷ node_value x.1.outcome ∷ refusal_value x.1.outcome ∷ []

undecided : (b : List ℕ) (n : ℕ) (ds : List Decision) → decided ds b ≡ None → filter (on_bytes b) (enumerate_from n ds) ≡ []
undecided b n [] h = refl
undecided b n (d ∷ ds) h = elim (cases_Bool (bytes_eq d.body b)) [
  | inl yes1 ↦ absurd (let e = rw yes1 at h in cc)
  | inr no1 ↦ rw no1 (undecided b (n + 1) ds (rw no1 at h))
]

-- no bytes stand twice: at most one row passes, and it holds the decision on them
pub on_them : (b : List ℕ) (n : ℕ) (ds : List Decision) → AreOnce ds → length (filter (on_bytes b) (enumerate_from n ds)) ≤ 1
on_them b n [] once = omega arith
on_them b n (d ∷ ds) once = elim (cases_Bool (bytes_eq d.body b)) [
  | inl yes1 ↦ (let none : decided ds b ≡ None = subst (λ k. decided ds k ≡ None) ((bytes_decides d.body b).0 yes1) once.0 in rw (yes1, undecided b (n + 1) ds none) (omega arith))
  | inr no1 ↦ rw no1 (on_them b (n + 1) ds once.1)
]

outcome_back : (n : ℕ) (o : HubOutcome) → IsNumbered n o → first_outcome (outcome_row (n, record { body = []; outcome = o }) ∷ []) ≡ Some o
outcome_back n (Boxed node item) is_n = rw is_n refl
outcome_back n (Refused reply) is_n = refl

pub found_on : (b : List ℕ) (n : ℕ) (ds : List Decision) → HaveItemNumbers n ds → first_outcome (map outcome_row (filter (on_bytes b) (enumerate_from n ds))) ≡ decided ds b
found_on b n [] numbered = refl
found_on b n (d ∷ ds) numbered = elim (cases_Bool (bytes_eq d.body b)) [
  | inl yes1 ↦ rw yes1 (outcome_back n d.outcome numbered.0)
  | inr no1 ↦ rw no1 (found_on b (n + 1) ds numbered.1)
]

pub finds : (old new : State) (last : ℕ) (b : List ℕ) (rows : List Row) (s : HubStored) → HasHubTables last old.now s → IsSoundHub s → Shown find_text (Blob b ∷ []) old new rows
    → first_outcome rows ≡ decided s.decisions b
finds old new last b rows s has sound h =
    let params : Row = Blob b ∷ [] in
    let at = enumerate_from 1 s.decisions in
    let out : Placed → Output = λ x. ([], outcome_row x) in
    let got_rows = reads_as find_text params old new hub_schema has.schema find_command find_is.0 find_is.2 find_is.1 rows h in
    let a : IsAnswer (one_table 2 (is 4 0 ∷ []) find_shows []) (overlay old.now.trees []) params rows = got_rows.answer Null in
    let got = answers params 2 (is 4 0 ∷ []) find_shows [] (with_id decision_row) (on_bytes b) out (λ x. rw (blob_test x.1.body b) (one_and (bytes_eq x.1.body b))) (λ x. refl) (overlay old.now.trees []) at rows has.decisions.same a in
    let ys = filter (on_bytes b) at in
    let low : length (map out ys) ≤ 1 = omega (arith, length-map ys out, on_them b 1 s.decisions sound.once) in
    let exact : rows ≡ map outcome_row ys = got.3 ∙ ap (map (λ (o : Output). o.1)) (few (map out ys) got.0 low got.1) ∙ seconds outcome_row ys in
    ap first_outcome exact ∙ found_on b 1 s.decisions sound.numbered

abbrev at_item : ℕ → Placed → Bool
at_item item x = x.0 == item

abbrev bytes_row : Placed → Row
bytes_row x = Blob x.1.body ∷ []

none_above : (item n : ℕ) (ds : List Decision) → item < n → filter (at_item item) (enumerate_from n ds) ≡ []
none_above item n [] low = refl
none_above item n (d ∷ ds) low = rw (differs_from_less n item low) (none_above item (n + 1) ds (omega (arith, low)))

-- a place has one row, which holds its bytes
pub at_place : (n k : ℕ) (ds : List Decision) → (length (filter (at_item (n + k)) (enumerate_from n ds)) ≤ 1)
    × (first_bytes (map bytes_row (filter (at_item (n + k)) (enumerate_from n ds))) ≡ option_map (λ (d : Decision). d.body) (slice_get ds k))
at_place n k [] = (omega arith, refl)
at_place n zero (d ∷ ds) = rw (level n, none_above (n + 0) (n + 1) ds (omega arith)) (omega arith, refl)
at_place n (suc k) (d ∷ ds) =
    let next : n + 1 + k ≡ n + suc k = omega arith in
    let more = at_place (n + 1) k ds in
    rw (higher n k) (rw next at more)

pub gets : (item : ℕ) (ds : List Decision) → (length (filter (at_item item) (enumerate_from 1 ds)) ≤ 1) × (first_bytes (map bytes_row (filter (at_item item) (enumerate_from 1 ds))) ≡ bytes_at ds item)
gets zero ds = rw (none_above 0 1 ds (omega arith)) (omega arith, refl)
gets (suc k) ds =
    let e : 1 + k ≡ suc k = omega arith in
    rw e at (at_place 1 k ds)

pub finds_bytes : (old new : State) (last item : ℕ) (rows : List Row) (s : HubStored) → HasHubTables last old.now s → Shown bytes_text (Int (pos item) ∷ []) old new rows
    → first_bytes rows ≡ bytes_at s.decisions item
finds_bytes old new last item rows s has h =
    let params : Row = Int (pos item) ∷ [] in
    let at = enumerate_from 1 s.decisions in
    let out : Placed → Output = λ x. ([], bytes_row x) in
    let got_rows = reads_as bytes_text params old new hub_schema has.schema bytes_command bytes_is.0 bytes_is.2 bytes_is.1 rows h in
    let a : IsAnswer (one_table 2 (is 0 0 ∷ []) (col 1 4 ∷ []) []) (overlay old.now.trees []) params rows = got_rows.answer Null in
    let got = answers params 2 (is 0 0 ∷ []) (col 1 4 ∷ []) [] (with_id decision_row) (at_item item) out (λ x. rw (int_test x.0 item) (one_and (x.0 == item))) (λ x. refl) (overlay old.now.trees []) at rows has.decisions.same a in
    let ys = filter (at_item item) at in
    let both = gets item s.decisions in
    let low : length (map out ys) ≤ 1 = omega (arith, length-map ys out, both.0) in
    let exact : rows ≡ map bytes_row ys = got.3 ∙ ap (map (λ (o : Output). o.1)) (few (map out ys) got.0 low got.1) ∙ seconds bytes_row ys in
    ap first_bytes exact ∙ both.1
