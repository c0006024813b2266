-- What records in memory answer, and that what they answer is sound.
use Rattle.std.proofs.Common.{ℕ, ◌≡◌, ◌<◌, ◌==◌, ◌∙◌, ap, sym, subst, refl, arith, Bool, true, false, cond, List, [], ◌∷◌, map, filter, find, length, get_or, Option, Some, option_map, option_and_then}
use Rattle.std.proofs.lemmas.List.{get_or-map, length-map}
use Rattle.x12_envelopes.specs.declared.party.Party.{Party}
use Rattle.x12_acks.specs.Submission.{TransactionSetKey}
use Rattle.x12_outbound.specs.Entry.{InterchangeRow, SetRow, row_is_open, set_row_at, submission_of_entry}
use Rattle.x12_outbound.specs.Ledger.{AreInOrder}
use Rattle.x12_station.specs.declared.memory.MemoryRecords.{MemoryRecords}
use Rattle.x12_station.specs.declared.submissions.NumberedEntry.{NumberedEntry}
use Rattle.x12_station.specs.Stored.{StoredSubmission, row_of_entry, entries, open_entries, stored_fate, submitted_bytes, closed_entry, closed_entry_with_group}
use Rattle.x12_station.specs.Memory.{NumberedRow, RowsRise, AreOrdered, entries_in, rows_in, numbered_row, memory_view, is_closed_numbered, is_closed_with, IsKeptWhole}
use Rattle.x12_station.proofs.EntryLemmas.{SameHeads, same_heads, entries_back, entries_rise, NumbersRise as EntriesRise}
use Rattle.x12_station.proofs.FateLookupLemmas.{fate_of_rows}
use Rattle.x12_station.proofs.LookUpLemmas.{ordered_rise}
use Rattle.x12_station.proofs.MemoryLemmas.{row_in}

-- entries with the same heads have the same numbers
heads_of : (ns : List NumberedRow) → SameHeads (map row_in ns) (entries_in ns)
heads_of [] = refl
heads_of (n ∷ ns) = ap (λ l. row_of_entry 0 n.entry ∷ l) (heads_of ns)

rise_by_heads : (es fs : List InterchangeRow) → map (row_of_entry 0) es ≡ map (row_of_entry 0) fs → EntriesRise es → EntriesRise fs
rise_by_heads es fs same rise i j d before at =
    let head = row_of_entry 0 in
    let long : length es ≡ length fs = sym (length-map es head) ∙ ap length same ∙ length-map fs head in
    let one = λ (k : ℕ) (in_es : k < length es) (in_fs : k < length fs). sym (get_or-map head es k d (head d) in_es) ∙ ap (λ l. get_or l k (head d)) same ∙ get_or-map head fs k d (head d) in_fs in
    let icn = λ (r : StoredSubmission). r.icn in
    omega (arith, rise i j d before (omega arith), ap icn (one i (omega arith) (omega arith)), ap icn (one j (omega arith) at))

module _ (r : MemoryRecords) (kept : IsKeptWhole r) where
  kept_rise : EntriesRise (entries_in (rows_in r))
  unfolding entries
  kept_rise = rise_by_heads (entries (memory_view r)) (entries_in (rows_in r)) (sym (same_heads (memory_view r).sets (memory_view r).submitted) ∙ heads_of (rows_in r)) (entries_rise (memory_view r) kept.sound)

  -- what is put together is what is held
  pub kept_entries : entries (memory_view r) ≡ entries_in (rows_in r)
  unfolding entries
  kept_entries = entries_back (memory_view r).sets (memory_view r).submitted (entries_in (rows_in r)) (heads_of (rows_in r)) kept.whole kept_rise refl

  pub kept_ordered : AreOrdered (rows_in r)
  kept_ordered me = subst (λ es. AreInOrder (map (submission_of_entry me) es)) kept_entries (kept.sound.in_order me)

  pub kept_numbers : RowsRise (rows_in r)
  kept_numbers = ordered_rise (rows_in r) kept_ordered

  module _ (items : List NumberedEntry) (same : items ≡ r.submitted.items) where
    pub numbers_of : RowsRise (map numbered_row items)
    numbers_of = subst (λ l. RowsRise (map numbered_row l)) (sym same) kept_numbers

    pub order_of : AreOrdered (map numbered_row items)
    order_of = subst (λ l. AreOrdered (map numbered_row l)) (sym same) kept_ordered

    pub closed_is : (icn : ℕ) → find (is_closed_numbered icn) (entries_in (map numbered_row items)) ≡ closed_entry (memory_view r) icn
    closed_is icn = ap (λ l. find (is_closed_numbered icn) (entries_in (map numbered_row l))) same ∙ ap (find (is_closed_numbered icn)) (sym kept_entries)

    pub closed_group_is : (partner : Party) (functional : List ℕ) (gcn : ℕ) → find (is_closed_with partner functional gcn) (entries_in (map numbered_row items)) ≡ closed_entry_with_group (memory_view r) partner functional gcn
    closed_group_is partner functional gcn = ap (λ l. find (is_closed_with partner functional gcn) (entries_in (map numbered_row l))) same ∙ ap (find (is_closed_with partner functional gcn)) (sym kept_entries)

    pub open_is : filter row_is_open (entries_in (map numbered_row items)) ≡ open_entries (memory_view r)
    open_is = ap (λ l. filter row_is_open (entries_in (map numbered_row l))) same ∙ ap (filter row_is_open) (sym kept_entries)

    pub fate_is : (key : TransactionSetKey) → option_map (λ (s : SetRow). s.fate) (option_and_then (λ n. set_row_at key.group key.set n.entry) (find (λ n. n.entry.icn == key.icn) (map numbered_row items))) ≡ stored_fate (memory_view r).sets key
    fate_is key =
        ap (λ l. option_map (λ (s : SetRow). s.fate) (option_and_then (λ n. set_row_at key.group key.set n.entry) (find (λ n. n.entry.icn == key.icn) (map numbered_row l)))) same
        ∙ ap (option_map (λ (s : SetRow). s.fate)) (among (rows_in r))
        ∙ sym (fate_of_rows key (entries_in (rows_in r)) kept_rise)
      where
        by : (n : NumberedRow) (t : Bool) (a : Option NumberedRow) (b : Option InterchangeRow) → option_and_then (λ (m : NumberedRow). set_row_at key.group key.set m.entry) a ≡ option_and_then (set_row_at key.group key.set) b
            → option_and_then (λ (m : NumberedRow). set_row_at key.group key.set m.entry) (cond t (Some n) a) ≡ option_and_then (set_row_at key.group key.set) (cond t (Some n.entry) b)
        by n true a b rest = refl
        by n false a b rest = rest

        among : (ns : List NumberedRow) → option_and_then (λ n. set_row_at key.group key.set n.entry) (find (λ n. n.entry.icn == key.icn) ns) ≡ option_and_then (set_row_at key.group key.set) (find (λ e. e.icn == key.icn) (entries_in ns))
        among [] = refl
        among (n ∷ ns) = by n (n.entry.icn == key.icn) (find (λ m. m.entry.icn == key.icn) ns) (find (λ e. e.icn == key.icn) (entries_in ns)) (among ns)

    pub bytes_is : (icn : ℕ) → option_map (λ (n : NumberedRow). n.entry.bytes) (find (λ n. n.entry.icn == icn) (map numbered_row items)) ≡ submitted_bytes (memory_view r) icn
    bytes_is icn = ap (λ l. option_map (λ (n : NumberedRow). n.entry.bytes) (find (λ n. n.entry.icn == icn) (map numbered_row l))) same ∙ held (rows_in r)
      where
        by : (n : NumberedRow) (t : Bool) (a : Option NumberedRow) (b : Option StoredSubmission) → option_map (λ (m : NumberedRow). m.entry.bytes) a ≡ option_map (λ (q : StoredSubmission). q.bytes) b
            → option_map (λ (m : NumberedRow). m.entry.bytes) (cond t (Some n) a) ≡ option_map (λ (q : StoredSubmission). q.bytes) (cond t (Some (row_in n)) b)
        by n true a b rest = refl
        by n false a b rest = rest

        held : (ns : List NumberedRow) → option_map (λ (n : NumberedRow). n.entry.bytes) (find (λ n. n.entry.icn == icn) ns) ≡ option_map (λ (q : StoredSubmission). q.bytes) (find (λ q. q.icn == icn) (map row_in ns))
        held [] = refl
        held (n ∷ ns) = by n (n.entry.icn == icn) (find (λ m. m.entry.icn == icn) ns) (find (λ q. q.icn == icn) (map row_in ns)) (held ns)
