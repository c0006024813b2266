-- What was checked of passes makes their receipts those of the merge.
use Rattle.std.proofs.Common.{◌≡◌, ℕ, suc, ◌<◌, List, [], ◌∷◌, Bool, false, true, ◌==◌, nat_lt, Option, Some, None, IsTrue, Contains, map, length, refl, option_and_then, sym, ap, subst, ◌∙◌, inl, inr, arith}
use Rattle.std.proofs.lemmas.Bool.{and_parts}
use Rattle.std.proofs.lemmas.Option.{slice_get_within}
use Rattle.std.specs.List.{list_all, list_any}
use Rattle.x12_nodes.specs.Cell.{CellView, IsReplayed}
use Rattle.x12_nodes.specs.Cells.{cell_at, nodes_now}
use Rattle.x12_nodes.specs.Check.{stamps_logged}
use Rattle.x12_nodes.specs.Finding.{entry_at}
use Rattle.x12_nodes.specs.Law.{FairAmongIsFair, HeadlineOfMerge, MergeIsRun}
use Rattle.x12_nodes.specs.Log.{LogEntry}
use Rattle.x12_nodes.specs.Merge.{Logged}
use Rattle.x12_nodes.specs.Merging.{merged_onto, stamp_itself, stamps_rise_from}
use Rattle.x12_nodes.specs.Receiving.{is_received, no_stranger, receipt_is, receipt_stands, stamps_passed, stamps_received}
use Rattle.x12_nodes.specs.Settlement.{AreReceiptsOf, AreSettled, PassReceipt}
use Rattle.x12_nodes.specs.Settling.{all_cells_answer, FindNothing}
use Rattle.x12_nodes.specs.View.{Receipt, receipt_of}
use Rattle.x12_nodes.proofs.ComparingLemmas.{receipt_of_entry}
use Rattle.x12_nodes.proofs.CellsLemmas.{number_of, same_number}
use Rattle.x12_nodes.proofs.OwnLemmas.{Apart}
use Rattle.x12_nodes.proofs.LabelLemmas.{all_labelled, labelled_from, own_of, came_from}
use Rattle.x12_nodes.proofs.MergingLemmas.{map_onto}
use Rattle.x12_nodes.proofs.SettlingLemmas.{apart_by, in_merge, less_known, logged_at, merged_logs, passes_all, run_of_logs, stamp_in, stamps_are, stands_in}
use Rattle.x12_numbers.proofs.Shelf.{contains_head, contains_tail, contains_cons, contains_mapped, none_in_nil, found_passes, map_twice}
use Rattle.x12_acks.proofs.CutLemmas.{any_is}
use Rattle.x12_station.proofs.ListLemmas.{contains_filter, contains_map, get_contains}
use Rattle.x12_world.proofs.NodesLemmas.{contains_get}

-- lists with the same rising stamps are one, where all that is in the first is in the second
module _ {X : Type 0} (stamp : X → ℕ) where
  above : (s : ℕ) (xs : List X) (x : X) → stamps_rise_from s (map stamp xs) ≡ true → Contains xs x → s < stamp x
  above s [] x up h = none_in_nil x h
  above s (y ∷ xs) x up h =
      let parts = and_parts (nat_lt s (stamp y)) (stamps_rise_from (stamp y) (map stamp xs)) up in
      let here : s < stamp y = less_known s (stamp y) parts.0 in
      elim (contains_cons x y xs h) [
        | inl is ↦ subst (λ z. s < stamp z) is here
        | inr past ↦ (let more : stamp y < stamp x = above (stamp y) xs x parts.1 past in omega (arith, here, more))
      ]

  pub same_by_stamp : (s : ℕ) (xs ys : List X) → map stamp xs ≡ map stamp ys → stamps_rise_from s (map stamp ys) ≡ true → ((x : X) → Contains xs x → Contains ys x) → xs ≡ ys
  same_by_stamp s [] [] is up within = refl
  same_by_stamp s [] (y ∷ ys) is up within = absurd cc
  same_by_stamp s (x ∷ xs) [] is up within = absurd cc
  same_by_stamp s (x ∷ xs) (y ∷ ys) is up within =
      let head : stamp x ≡ stamp y = cc in
      let tail : map stamp xs ≡ map stamp ys = cc in
      let parts = and_parts (nat_lt s (stamp y)) (stamps_rise_from (stamp y) (map stamp ys)) up in
      let left : stamps_rise_from (stamp y) (map stamp xs) ≡ true = ap (stamps_rise_from (stamp y)) tail ∙ parts.1 in
      let first : x ≡ y = elim (contains_cons x y ys (within x (contains_head x xs))) [
        | inl same ↦ sym same
        | inr past ↦ absurd (let more : stamp y < stamp x = above (stamp y) ys x parts.1 past in omega (arith, head, more))
      ] in
      ap (λ z. z ∷ xs) first
      ∙ ap (λ l. y ∷ l) (same_by_stamp (stamp y) xs ys tail parts.1 (λ z h. elim (contains_cons z y ys (within z (contains_tail z x xs h))) [
        | inl same ↦ absurd (let more : stamp y < stamp z = above (stamp y) xs z left h in let alike : stamp y ≡ stamp z = ap stamp same in omega (arith, alike, more))
        | inr past ↦ past
      ]))

-- numbers that rise, and are in one another, are the same
above_it : (s : ℕ) (xs : List ℕ) (x : ℕ) → stamps_rise_from s xs ≡ true → Contains xs x → s < x
above_it s [] x up h = none_in_nil x h
above_it s (y ∷ xs) x up h =
    let parts = and_parts (nat_lt s y) (stamps_rise_from y xs) up in
    let here : s < y = less_known s y parts.0 in
    elim (contains_cons x y xs h) [
      | inl is ↦ subst (λ z. s < z) is here
      | inr past ↦ (let more : y < x = above_it y xs x parts.1 past in omega (arith, here, more))
    ]

rising_alike : (s : ℕ) (xs ys : List ℕ) → stamps_rise_from s xs ≡ true → stamps_rise_from s ys ≡ true → ((x : ℕ) → Contains xs x → Contains ys x) → ((x : ℕ) → Contains ys x → Contains xs x) → xs ≡ ys
rising_alike s [] [] up up' to from = refl
rising_alike s [] (y ∷ ys) up up' to from = absurd (let lt = (from y (contains_head y ys)).1 in omega (arith, lt))
rising_alike s (x ∷ xs) [] up up' to from = absurd (let lt = (to x (contains_head x xs)).1 in omega (arith, lt))
rising_alike s (x ∷ xs) (y ∷ ys) up up' to from =
    let p = and_parts (nat_lt s x) (stamps_rise_from x xs) up in
    let q = and_parts (nat_lt s y) (stamps_rise_from y ys) up' in
    let first : x ≡ y = elim (contains_cons x y ys (to x (contains_head x xs))) [
      | inl same ↦ sym same
      | inr past ↦ elim (contains_cons y x xs (from y (contains_head y ys))) [
        | inl is ↦ is
        | inr later ↦ absurd (let more : y < x = above_it y ys x q.1 past in let back : x < y = above_it x xs y p.1 later in omega (arith, more, back))
      ]
    ] in
    ap (λ z. z ∷ xs) first
    ∙ ap (λ l. y ∷ l) (rising_alike x xs ys p.1 (subst (λ z. stamps_rise_from z ys ≡ true) (sym first) q.1)
    (λ z h. elim (contains_cons z y ys (to z (contains_tail z x xs h))) [
      | inl same ↦ absurd (let more : x < z = above_it x xs z p.1 h in omega (arith, more, first, same))
      | inr past ↦ past
    ])
    (λ z h. elim (contains_cons z x xs (from z (contains_tail z y ys h))) [
      | inl same ↦ absurd (let more : y < z = above_it y ys z q.1 h in omega (arith, more, first, same))
      | inr past ↦ past
    ]))

abbrev all_of : List Receipt → List Receipt
all_of pass = pass

abbrev held_at : ℕ → Receipt → PassReceipt
held_at j r = record { pass = j; receipt = r }

abbrev pass_in : PassReceipt → ℕ
pass_in h = h.pass

abbrev receipt_in : PassReceipt → Receipt
receipt_in h = h.receipt

abbrev stamp_held : PassReceipt → ℕ
stamp_held h = h.receipt.stamp

abbrev told_by : Logged → Receipt
told_by x = receipt_of x.node x.entry

-- the receipts of all passes, merged
abbrev all_held : List (List Receipt) → List PassReceipt
all_held passes = all_labelled all_of held_at pass_in (λ j r. refl) stamp_held passes

stamps_from : (n : ℕ) (passes : List (List Receipt)) → map (map stamp_held) (labelled_from all_of held_at pass_in (λ j r. refl) stamp_held n passes) ≡ map stamps_received passes
stamps_from n [] = refl
stamps_from n (p ∷ passes) =
    ap (λ l. l ∷ map (map stamp_held) (labelled_from all_of held_at pass_in (λ j r. refl) stamp_held (suc n) passes)) (map_twice stamp_held (held_at n) p)
    ∙ ap (λ l. stamps_received p ∷ l) (stamps_from (suc n) passes)

stamps_held : (passes : List (List Receipt)) → map stamp_held (all_held passes) ≡ stamps_passed passes
stamps_held passes = map_onto stamp_held [] (labelled_from all_of held_at pass_in (λ j r. refl) stamp_held 0 passes) ∙ ap (merged_onto stamp_itself []) (stamps_from 0 passes)

receipts_back : (j : ℕ) (rs : List Receipt) → map receipt_in (map (held_at j) rs) ≡ rs
receipts_back j [] = refl
receipts_back j (r ∷ rs) = ap (λ l. r ∷ l) (receipts_back j rs)

-- the entry that a receipt is of
record IsOfEntry (cells : List CellView) (r : Receipt) : Type 0 where
  cell : CellView
  there : cell_at cells r.node ≡ Some cell
  entry : LogEntry
  within : Contains cell.log entry
  is : receipt_of r.node entry ≡ r

entry_by : (cells : List CellView) (r : Receipt) (c : CellView) → cell_at cells r.node ≡ Some c → (o : Option LogEntry) → entry_at c.log r.stamp ≡ o → receipt_is r o ≡ true → IsOfEntry cells r
entry_by cells r c at None is e = absurd cc
entry_by cells r c at (Some d) is e =
    let passes = found_passes (λ (x : LogEntry). x.stamp == r.stamp) c.log d is in
    record { cell = c; there = at; entry = d; within = passes.0; is = receipt_of_entry r d (same_number d.stamp r.stamp passes.1) e }

stood_by : (cells : List CellView) (r : Receipt) (o : Option CellView) → cell_at cells r.node ≡ o → receipt_is r (option_and_then (λ (c : CellView). entry_at c.log r.stamp) o) ≡ true → IsOfEntry cells r
stood_by cells r None at e = absurd cc
stood_by cells r (Some c) at e = entry_by cells r c at (entry_at c.log r.stamp) refl e

in_told : (cells : List CellView) → Apart number_of cells → (r : Receipt) → receipt_stands cells r ≡ true → Contains (map told_by (merged_logs cells)) r
in_told cells apart r e =
    let of = stood_by cells r (cell_at cells r.node) refl e in
    subst (Contains (map told_by (merged_logs cells))) of.is
    (contains_mapped told_by (merged_logs cells) (logged_at r.node of.entry) (in_merge cells apart r.node of.cell of.entry of.there of.within))

module _ (cells : List CellView) (apart : Apart number_of cells) (passes : List (List Receipt)) (stand : list_all (list_all (receipt_stands cells)) passes ≡ true) where
  pub held_stands : (h : PassReceipt) → Contains (all_held passes) h → receipt_stands cells h.receipt ≡ true
  held_stands h at =
      let r = came_from all_of held_at pass_in (λ j r. refl) stamp_held passes h at in
      let stood = passes_all (receipt_stands cells) r.1 r.3 (passes_all (list_all (receipt_stands cells)) passes r.1 stand (get_contains passes r.0 r.1 r.2)) r.4 in
      subst (λ (z : PassReceipt). receipt_stands cells z.receipt ≡ true) r.5 stood

  told_of_all : (rs : List PassReceipt) → ((h : PassReceipt) → Contains rs h → receipt_stands cells h.receipt ≡ true) → (r : Receipt) → Contains (map receipt_in rs) r → Contains (map told_by (merged_logs cells)) r
  told_of_all [] all r at = none_in_nil r at
  told_of_all (h ∷ rs) all r at = elim (contains_cons r h.receipt (map receipt_in rs) at) [
    | inl is ↦ subst (Contains (map told_by (merged_logs cells))) is (in_told cells apart h.receipt (all h (contains_head h rs)))
    | inr past ↦ told_of_all rs (λ k there. all k (contains_tail k h rs there)) r past
  ]

  -- a stamp that is in a pass is in a log
  pub logged_stamp : (x : ℕ) → Contains (stamps_passed passes) x → Contains (stamps_logged cells) x
  logged_stamp x at =
      let h = contains_map stamp_held (all_held passes) x (subst (λ l. Contains l x) (sym (stamps_held passes)) at) in
      let told = in_told cells apart h.0.receipt (held_stands h.0 h.1) in
      subst (λ n. Contains (stamps_logged cells) n) h.2
      (subst (λ l. Contains l h.0.receipt.stamp) (map_twice (λ (r : Receipt). r.stamp) told_by (merged_logs cells) ∙ stamps_are cells)
      (contains_mapped (λ (r : Receipt). r.stamp) (map told_by (merged_logs cells)) h.0.receipt told))

  -- where no entry is in no pass, a stamp that is in a log is in a pass
  pub passed_stamp : no_stranger cells passes ≡ true → (x : ℕ) → Contains (stamps_logged cells) x → Contains (stamps_passed passes) x
  passed_stamp none x at =
      let l = contains_map stamp_in (merged_logs cells) x (subst (λ z. Contains z x) (sym (stamps_are cells)) at) in
      let in_log = stands_in cells apart l.0 l.1 in
      let received = passes_all (λ (e : LogEntry). is_received passes e.stamp) in_log.cell.log l.0.entry
      (passes_all (λ (c : CellView). list_all (λ (e : LogEntry). is_received passes e.stamp) c.log) cells in_log.cell none in_log.has) in_log.within in
      let p = any_is (list_any (λ (r : Receipt). r.stamp == l.0.entry.stamp)) passes received in
      let r = any_is (λ (r : Receipt). r.stamp == l.0.entry.stamp) p.0 p.2 in
      let j = contains_get passes p.0 p.1 in
      let held : Contains (all_held passes) (held_at j.0 r.0) = contains_filter (λ (h : PassReceipt). h.pass == j.0) (all_held passes) (held_at j.0 r.0)
      (subst (λ z. Contains z (held_at j.0 r.0)) (sym (own_of all_of held_at pass_in (λ k q. refl) stamp_held j.0 passes p.0 j.1)) (contains_mapped (held_at j.0) p.0 r.0 r.1)) in
      subst (Contains (stamps_passed passes)) (same_number r.0.stamp l.0.entry.stamp r.2 ∙ l.2)
      (subst (λ z. Contains z r.0.stamp) (stamps_held passes) (contains_mapped stamp_held (all_held passes) (held_at j.0 r.0) held))

  -- and then the stamps of both are the same, where they rise
  pub same_stamps : no_stranger cells passes ≡ true → stamps_rise_from 0 (stamps_passed passes) ≡ true → stamps_rise_from 0 (stamps_logged cells) ≡ true → stamps_passed passes ≡ stamps_logged cells
  same_stamps none up up' = rising_alike 0 (stamps_passed passes) (stamps_logged cells) up up' logged_stamp (passed_stamp none)

module _ (cells : List CellView) (apart : Apart number_of cells) (passes : List (List Receipt)) (stand : list_all (list_all (receipt_stands cells)) passes ≡ true)
    (up : stamps_rise_from 0 (stamps_logged cells) ≡ true) (same : stamps_passed passes ≡ stamps_logged cells) where
  all_are : map receipt_in (all_held passes) ≡ map told_by (merged_logs cells)
  all_are =
      let logged : map (λ (r : Receipt). r.stamp) (map told_by (merged_logs cells)) ≡ stamps_logged cells = map_twice (λ (r : Receipt). r.stamp) told_by (merged_logs cells) ∙ stamps_are cells in
      let held : map (λ (r : Receipt). r.stamp) (map receipt_in (all_held passes)) ≡ stamps_passed passes = map_twice (λ (r : Receipt). r.stamp) receipt_in (all_held passes) ∙ stamps_held passes in
      same_by_stamp (λ (r : Receipt). r.stamp) 0 (map receipt_in (all_held passes)) (map told_by (merged_logs cells)) (held ∙ same ∙ sym logged) (ap (stamps_rise_from 0) logged ∙ up)
      (told_of_all cells apart passes stand (all_held passes) (held_stands cells apart passes stand))

  pub are_receipts : AreReceiptsOf (merged_logs cells) passes
  are_receipts = record {
    held = all_held passes;
    all = all_are;
    each = λ j p at. ap (map receipt_in) (own_of all_of held_at pass_in (λ k r. refl) stamp_held j passes p at) ∙ receipts_back j p;
    within = λ h at.
        let r = came_from all_of held_at pass_in (λ j r. refl) stamp_held passes h at in
        subst (λ n. n < length passes) (ap pass_in r.5) (slice_get_within passes r.0 r.1 r.2);
  }

-- and so they are a settled network
pub are_settled : (cells : List CellView) (passes : List (List Receipt)) → ((c : CellView) → Contains cells c → IsReplayed c) → ((c : CellView) → Contains cells c → IsTrue c.answers)
    → FindNothing cells → list_all (list_all (receipt_stands cells)) passes ≡ true → stamps_passed passes ≡ stamps_logged cells → MergeIsRun → FairAmongIsFair → HeadlineOfMerge → AreSettled cells passes
are_settled cells passes replayed answer nothing stand same law fair headline =
    let found = run_of_logs cells replayed answer nothing.stamp nothing.packet nothing.replay law fair in
    let one = found.0 in
    record {
      one_run = one;
      receipts = subst (λ (merge : List Logged). AreReceiptsOf merge passes) (sym found.1) (are_receipts cells (apart_by cells nothing.replay) passes stand nothing.stamp same);
      headline = headline one.net one.network one.merge (nodes_now cells) one.is_run;
    }

-- where the stamps differ, an entry is in no pass
pub stranger_found : (cells : List CellView) (passes : List (List Receipt)) → FindNothing cells → list_all (list_all (receipt_stands cells)) passes ≡ true → stamps_rise_from 0 (stamps_passed passes) ≡ true → ¬ (stamps_passed passes ≡ stamps_logged cells)
    → no_stranger cells passes ≡ false
stranger_found cells passes nothing stand up differ = by (no_stranger cells passes) refl
  where
    by : (b : Bool) → no_stranger cells passes ≡ b → b ≡ false
    by true none = absurd (differ (same_stamps cells (apart_by cells nothing.replay) passes stand none up nothing.stamp))
    by false none = refl

-- of the lists that were checked, and so of those that they are
pub settled_alike : (cells seen : List CellView) (passes taken : List (List Receipt)) → seen ≡ cells → taken ≡ passes → (IsTrue (all_cells_answer seen) → AreSettled seen taken) → IsTrue (all_cells_answer cells) → AreSettled cells passes
settled_alike cells seen passes taken one two settled =
    subst (λ (z : List CellView). IsTrue (all_cells_answer z) → AreSettled z passes) one
    (subst (λ (z : List (List Receipt)). IsTrue (all_cells_answer seen) → AreSettled seen z) two settled)
