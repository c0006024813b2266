-- Submissions in memory: found by their numbers, and settled.
use Rattle.std.proofs.Common.{ℕ, ◌≡◌, ◌+◌, ◌≤◌, subst, drop, ◌≢◌, ◌<◌, ◌==◌, ◌∙◌, ap, sym, inl, inr, List, [], ◌∷◌, map, length, get_or, set, Some, None, find, arith, refl, ne_eqb}
use Rattle.std.specs.Vec.{with_items}
use Rattle.std.proofs.lemmas.Bool.Decides.{eqb_tells}
use Rattle.std.proofs.lemmas.List.{get_or_default, get_or-map, length-map, drop_more, drop_all}
use Rattle.x12_acks.specs.declared.key.SetKey.{SetKey}
use Rattle.x12_acks.specs.Submission.{TransactionSetKey}
use Rattle.x12_outbound.specs.declared.entry.EntryGroup.{EntryGroup}
use Rattle.x12_outbound.specs.declared.fate.Fate.{Fate}
use Rattle.x12_outbound.specs.Entry.{SetRow, GroupRow, group_row, with_place, with_set_at}
use Rattle.x12_outbound.specs.Settling.{target_view}
use Rattle.x12_outbound.proofs.PlaceLemmas.{map_only}
use Rattle.x12_outbound.proofs.WriteLemmas.{written}
use Rattle.x12_station.specs.declared.submissions.NumberedEntry.{NumberedEntry}
use Rattle.x12_station.specs.Stored.{StoredSubmission}
use Rattle.x12_station.specs.Memory.{NumberedRow, RowsRise, numbered_row, numbered_settled, numbered_settled_by}
use Rattle.x12_station.proofs.SettledLemmas.{head_settled}

-- the groups of a submission were written over
pub numbered_written : (old row : NumberedEntry) (before new : List EntryGroup) (f : SetRow → SetRow) (group set : ℕ)
    → row ≡ old → before ≡ old.entry.groups.items → length new ≡ length before
    → map group_row new ≡ with_place (λ (g : GroupRow). record g { sets = with_place f set g.sets }) group (map group_row before)
    → numbered_row (record old { entry = record old.entry { groups = with_items old.entry.groups new } })
    ≡ record (numbered_row row) { entry = with_set_at f group set (numbered_row row).entry }
unfolding with_set_at
numbered_written old row before new f group set same is long changed =
    let change = λ (gs : List GroupRow). with_place (λ (g : GroupRow). record g { sets = with_place f set g.sets }) group gs in
    let groups : map group_row (with_items old.entry.groups new).items ≡ change (map group_row old.entry.groups.items) =
    ap (map group_row) (written old.entry.groups before new is long) ∙ changed
    ∙ ap (λ (gs : List EntryGroup). change (map group_row gs)) is in
    ap (λ (gs : List GroupRow). record (numbered_row old) { entry = record (numbered_row old).entry { groups = gs } }) groups
    ∙ ap (λ (r : NumberedEntry). record (numbered_row r) { entry = with_set_at f group set (numbered_row r).entry }) (sym same)

-- a submission of another number is as it was
other_kept : (t : TransactionSetKey × Fate) (r : NumberedRow) → r.entry.icn ≢ t.0.icn → numbered_settled t r ≡ r
other_kept t r differ = rw (ne_eqb r.entry.icn t.0.icn differ) refl

here_settled : (t : TransactionSetKey × Fate) (r : NumberedRow) → r.entry.icn ≡ t.0.icn → numbered_settled t r ≡ record r { entry = with_set_at (λ s. record s { fate = t.1 }) t.0.group t.0.set r.entry }
here_settled t r named = elim (eqb_tells r.entry.icn t.0.icn) [ inl same ↦ rw same.0 refl | inr other ↦ absurd (other.1 named) ]

-- settling changes the submission of the set's number alone
pub settled_at : (t : TransactionSetKey × Fate) (rows : List NumberedRow) (i : ℕ) (r : NumberedRow) → RowsRise rows → i < length rows → r ≡ get_or rows i r → r.entry.icn ≡ t.0.icn
    → map (numbered_settled t) rows ≡ set rows i (record r { entry = with_set_at (λ s. record s { fate = t.1 }) t.0.group t.0.set r.entry })
settled_at t rows i r rise within is named =
    map_only (numbered_settled t) rows i r within is (λ k d at other. other_kept t (get_or rows k d) (another k d at other))
    ∙ ap (set rows i) (here_settled t r named)
  where
    another : (k : ℕ) (d : NumberedRow) → k < length rows → k ≢ i → (get_or rows k d).entry.icn ≢ t.0.icn
    another k d at other same =
        let icn = λ (q : NumberedRow). q.entry.icn in
        let read : (get_or rows i d).entry.icn ≡ r.entry.icn = ap icn (sym (is ∙ get_or_default rows i r d within)) in
        let below : k < i → (get_or rows k d).entry.icn < (get_or rows i d).entry.icn = λ lt. rise k i d lt within in
        let above : i < k → (get_or rows i d).entry.icn < (get_or rows k d).entry.icn = λ lt. rise i k d lt at in
        grind (arith, below, above)

-- and none where there is no submission of this number
pub settled_none : (t : TransactionSetKey × Fate) (rows : List NumberedRow) → find (λ n. n.entry.icn == t.0.icn) rows ≡ None → map (numbered_settled t) rows ≡ rows
settled_none t [] none = refl
settled_none t (r ∷ rows) none = elim (eqb_tells r.entry.icn t.0.icn) [
  | inl same ↦ let found : Some r ≡ None = rw same.0 at none in absurd (cc)
  | inr other ↦ rw other.0 (ap (λ rest. r ∷ rest) (settled_none t rows (rw other.0 at none)))
]

-- Many sets settled, one after the other.
pub settled_none_left : (ns : List NumberedRow) → map (numbered_settled_by []) ns ≡ ns
settled_none_left [] = refl
settled_none_left (n ∷ ns) = ap (λ l. n ∷ l) (settled_none_left ns)

pub settled_more : (t : TransactionSetKey × Fate) (ts : List (TransactionSetKey × Fate)) (ns : List NumberedRow) → map (numbered_settled_by ts) (map (numbered_settled t) ns) ≡ map (numbered_settled_by (t ∷ ts)) ns
settled_more t ts [] = refl
settled_more t ts (n ∷ ns) = ap (λ l. numbered_settled_by ts (numbered_settled t n) ∷ l) (settled_more t ts ns)

-- the numbers still rise
same_number : (t : TransactionSetKey × Fate) (n : NumberedRow) → (numbered_settled t n).entry.icn ≡ n.entry.icn
same_number t n = ap (λ (r : StoredSubmission). r.icn) (head_settled 0 (t ∷ []) n.entry)

pub rise_settled : (t : TransactionSetKey × Fate) (ns : List NumberedRow) → RowsRise ns → RowsRise (map (numbered_settled t) ns)
rise_settled t ns rise i j d before at =
    let inside : j < length ns = omega (arith, length-map ns (numbered_settled t)) in
    let icn = λ (n : NumberedRow). n.entry.icn in
    let first = get_or-map (numbered_settled t) ns i d d (omega arith) in
    let second = get_or-map (numbered_settled t) ns j d d inside in
    omega (arith, ap icn first, ap icn second, same_number t (get_or ns i d), same_number t (get_or ns j d), rise i j d before inside)

-- a loop over what is settled: one step, and its end
pub settled_step : (settled : List (SetKey × Fate)) (i : ℕ) (d : SetKey × Fate) (ns ms all : List NumberedRow) → i < length settled
    → ms ≡ map (numbered_settled (target_view (get_or settled i d))) ns
    → map (numbered_settled_by (map target_view (drop i settled))) ns ≡ all
    → map (numbered_settled_by (map target_view (drop (i + 1) settled))) ms ≡ all
settled_step settled i d ns ms all more one rest =
    ap (map (numbered_settled_by (map target_view (drop (i + 1) settled)))) one
    ∙ settled_more (target_view (get_or settled i d)) (map target_view (drop (i + 1) settled)) ns
    ∙ ap (λ ts. map (numbered_settled_by (map target_view ts)) ns) (sym (drop_more settled i d more)) ∙ rest

pub settled_end : (settled : List (SetKey × Fate)) (i : ℕ) (ns all : List NumberedRow) → length settled ≤ i
    → map (numbered_settled_by (map target_view (drop i settled))) ns ≡ all → ns ≡ all
settled_end settled i ns all past rest =
    sym (settled_none_left ns) ∙ ap (λ ts. map (numbered_settled_by (map target_view ts)) ns) (sym (drop_all i settled past)) ∙ rest

pub rise_step : (t : TransactionSetKey × Fate) (ns ms : List NumberedRow) → ms ≡ map (numbered_settled t) ns → RowsRise ns → RowsRise ms
rise_step t ns ms is rise = subst RowsRise (sym is) (rise_settled t ns rise)

pub rise_next : (settled : List (SetKey × Fate)) (i : ℕ) (d : SetKey × Fate) (ns ms : List NumberedRow) → ms ≡ map (numbered_settled (target_view (get_or settled i d))) ns → RowsRise ns → RowsRise ms
rise_next settled i d ns ms is rise = rise_step (target_view (get_or settled i d)) ns ms is rise
