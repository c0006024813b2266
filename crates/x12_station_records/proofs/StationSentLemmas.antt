-- Transaction sets that are those of submissions, one submission after the other, are those of the
-- entries that the tables stand for.
use Rattle.std.proofs.Common.{◌≡◌, ◌<◌, ◌≤◌, ◌++◌, ◌∙◌, ℕ, List, [], ◌∷◌, get_or, map, take, drop, flat_map, All, AllPairs, refl, sym, ap, ap₂, subst, arith}
use Rattle.std.proofs.lemmas.List.{take-append-drop}
use Rattle.std.proofs.lemmas.List.Elements.{All-cons, All-nil, All-map}
use Rattle.std.proofs.lemmas.List.Kept.{AllPairs-cons}
use Rattle.x12_acks.specs.Submission.{IsBefore, SubmittedGroup}
use Rattle.x12_envelopes.specs.declared.party.Party.{Party}
use Rattle.x12_numbers.specs.Book.{Numbers}
use Rattle.x12_outbound.specs.Entry.{InterchangeRow, submission_of_entry, submitted_group_of_row, IsSendable}
use Rattle.x12_outbound.specs.Ledger.{AreInOrder}
use Rattle.x12_numbers.proofs.Shelf.{pairs_from_map, all_from_map, pairs_to_map}
use Rattle.x12_station.specs.Record.{IsWholeEntry}
use Rattle.x12_station.specs.Stored.{Stored, StoredSubmission, StoredSet, entries, entry_of_row, rows_of_entry, HasSets, IsNumberedBy}
use Rattle.x12_station.proofs.EntryLemmas.{SameHeads, NumbersRise, unnumbered, entries_back}
use Rattle.x12_station_records.proofs.StationGroupLemmas.{sendable}
use Rattle.x12_station_records.proofs.StationOpenLemmas.{all_between, below_above}
use Rattle.x12_station_records.specs.StationAdopt.{AreOfOne, AreOfAll, HasEntries}

-- each group of the one has a number below those of the other
abbrev AreLower : InterchangeRow → InterchangeRow → Type 0
AreLower e f = All (λ g. All (λ h. g.number < h.number) f.groups) e.groups

-- the submissions with groups of which these are the rows
record Built (book : Numbers) (least : ℕ) (rs : List StoredSubmission) (ts : List StoredSet) : Type 0 where
  es : List InterchangeRow
  heads : SameHeads rs es
  same : map (λ (r : StoredSubmission). r.icn) rs ≡ map (λ (e : InterchangeRow). e.icn) es
  rows : ts ≡ flat_map rows_of_entry es
  whole : All IsWholeEntry es
  can : All (λ e. (me : Party) → IsSendable (submission_of_entry me e)) es
  used : All (λ e. All (λ g. g.number ≤ book.group) e.groups) es
  low : All (λ e. All (λ g. least ≤ g.number) e.groups) es
  before : AllPairs AreLower es

built : (book : Numbers) (least : ℕ) (rs : List StoredSubmission) (ts : List StoredSet) → AreOfAll book least (map (λ (r : StoredSubmission). r.icn) rs) ts → Built book least rs ts
unfolding rows_of_entry
built book least [] ts are = record {
  es = [];
  heads = refl;
  same = refl;
  rows = are;
  whole = All-nil IsWholeEntry;
  can = All-nil (λ e. (me : Party) → IsSendable (submission_of_entry me e));
  used = All-nil (λ e. All (λ g. g.number ≤ book.group) e.groups);
  low = All-nil (λ e. All (λ g. least ≤ g.number) e.groups);
  before = λ i j d before within. absurd (omega (arith, within));
}
built book least (r ∷ rs) ts are =
    let n = are.0 in
    let next = are.1 in
    let one : AreOfOne book r.icn least next (take n ts) = are.2 in
    let rest = built book next rs (drop n ts) are.3 in
    let gs = one.groups in
    let e : InterchangeRow = record { icn = r.icn; receiver = r.receiver; bytes = r.bytes; groups = gs } in
    let ends = all_between least book.group gs one.used in
    let below = below_above gs in
    record {
      es = e ∷ rest.es;
      heads = ap (λ hs. unnumbered r ∷ hs) rest.heads;
      same = ap (λ ns. r.icn ∷ ns) rest.same;
      rows = sym (take-append-drop n ts) ∙ ap₂ (λ xs ys. xs ++ ys) (sym one.rows_are) rest.rows;
      whole = All-cons IsWholeEntry e rest.es (record { laid = one.whole.laid; sets = one.whole.sets }) rest.whole;
      can = All-cons (λ e. (me : Party) → IsSendable (submission_of_entry me e)) e rest.es (sendable e one.sendable) rest.can;
      used = All-cons (λ e. All (λ g. g.number ≤ book.group) e.groups) e rest.es (λ i g within. (ends i g within).1) rest.used;
      low = All-cons (λ e. All (λ g. least ≤ g.number) e.groups) e rest.es (λ i g within. (ends i g within).0) (λ k f inside. λ i g within. let up = rest.low k f inside i g within in omega (arith, one.next_is, up));
      before = AllPairs-cons AreLower e rest.es (λ k f inside. λ i g within. λ j h under. let a = below i g within in let b = rest.low k f inside j h under in omega (arith, one.next_is, a, b)) rest.before;
    }

-- where the control numbers of submissions rise and were used
pub sent_entries : (book : Numbers) (s : Stored) → AllPairs (λ (r : StoredSubmission) q. r.icn < q.icn) s.submitted → All (λ (r : StoredSubmission). r.icn ≤ book.interchange) s.submitted
    → AreOfAll book 0 (map (λ (r : StoredSubmission). r.icn) s.submitted) s.sets → HasEntries book s
unfolding entries
sent_entries book s rise used are =
    let b = built book 0 s.submitted s.sets are in
    let es = b.es in
    let rises : NumbersRise es = pairs_from_map (λ (e : InterchangeRow). e.icn) (λ m n. m < n) es (subst (AllPairs (λ m n. m < n)) b.same (pairs_to_map (λ (r : StoredSubmission). r.icn) (λ m n. m < n) s.submitted rise)) in
    let numbers : All (λ (e : InterchangeRow). e.icn ≤ book.interchange) es = all_from_map (λ (e : InterchangeRow). e.icn) (λ n. n ≤ book.interchange) es (subst (All (λ n. n ≤ book.interchange)) b.same (All-map (λ n. n ≤ book.interchange) (λ (r : StoredSubmission). r.icn) s.submitted used)) in
    let back : map (entry_of_row s.sets) s.submitted ≡ es = entries_back s.sets s.submitted es b.heads b.whole rises b.rows in
    record {
      rows = b.rows ∙ ap (flat_map rows_of_entry) (sym back);
      whole = subst (All HasSets) (sym back) (λ k e within. (b.whole k e within).sets);
      in_order = λ me. subst (λ xs. AreInOrder (map (submission_of_entry me) xs)) (sym back) (record {
        sendable = All-map IsSendable (submission_of_entry me) es (λ k e within. b.can k e within me);
        before = pairs_to_map (submission_of_entry me) IsBefore es (λ i j d low high. record {
          interchange = rises i j d low high;
          groups = lower me (get_or es i d) (get_or es j d) (b.before i j d low high);
        });
      });
      used = subst (All (IsNumberedBy book)) (sym back) (λ k e within. record { interchange = numbers k e within; groups = b.used k e within });
    }
  where
    lower : (me : Party) (e f : InterchangeRow) → AreLower e f → All (λ g. All (λ h. g.number < h.number) (submission_of_entry me f).groups) (submission_of_entry me e).groups
    lower me e f h =
        All-map (λ (g : SubmittedGroup). All (λ (h : SubmittedGroup). g.number < h.number) (map submitted_group_of_row f.groups)) submitted_group_of_row e.groups
        (λ i g within. All-map (λ (h : SubmittedGroup). (submitted_group_of_row (get_or e.groups i g)).number < h.number) submitted_group_of_row f.groups (λ j x inside. h i g within j x inside))
