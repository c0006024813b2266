-- The rows of sound records of a station are what is tested before they are taken over.
use Rattle.std.proofs.Common.{◌≡◌, ◌⊎◌, ◌<◌, ◌≤◌, ◌+◌, ◌-◌, ◌^◌, ◌∙◌, ℕ, zero, suc, pos, inl, inr, List, [], ◌∷◌, map, length, Option, Some, None, All, AllPairs, refl, sym, ap, subst, arith, IsPermutation}
use Rattle.std.specs.Prelude.{option_to_list}
use Rattle.std.specs.List.{AllByRecursion, enumerate_from, range_with_len}
use Rattle.std.proofs.lemmas.List.{length-append}
use Rattle.std.proofs.lemmas.List.Sorted.{All-permutation}
use Rattle.x12_station.proofs.SeqLemmas.{all_front}
use Rattle.std.proofs.lemmas.List.Elements.{All-head, All-tail, All-from_recursion}
use Rattle.sqlite.specs.declared.types.Value.TheVariants.{Null, Int, Blob}
use Rattle.sqlite.specs.Order.{Row}
use Rattle.sqlite.specs.State.{State, Shown}
use Rattle.sql_rows.specs.Keyed.{with_id, RisesFrom, AreRows}
use Rattle.x12_acks.specs.Accepted.{AcceptedSet}
use Rattle.x12_envelopes.specs.declared.party.Party.{Party}
use Rattle.x12_numbers.specs.Book.{Numbers}
use Rattle.x12_numbers.specs.declared.book.TheConstants.{MAX_CONTROL_NUMBER}
use Rattle.x12_numbers.proofs.Shelf.{all_from_map}
use Rattle.x12_station.specs.Stored.{Stored, StoredSubmission, StoredArrival, entries, entry_of_row, seqs}
use Rattle.x12_tables.proofs.OneRowLemmas.{shows_one}
use Rattle.x12_tables.proofs.PartyLemmas.{party_back}
use Rattle.x12_tables.specs.OneRow.{whole}
use Rattle.x12_tables.specs.Party.{IsWideParty, bytes_of_party, bytes_in}
use Rattle.x12_station_records.proofs.StationAdoptReads.{pairs_shows, arrived_shows, pairs_text, posted_names, sent_shows, arrived_is, posted_text, posted_is, pairs_names, arrived_names, sent_is, pairs_is, arrived_text, sent_names, posted_shows, sent_text}
use Rattle.x12_station_records.proofs.StationContentLemmas.{agreements_back, pairs_of_all, lenient_back}
use Rattle.x12_station_records.proofs.StationListings.{lists_all}
use Rattle.x12_station_records.proofs.StationNumberLemmas.{numbers_shows, numbers_text, numbers_is, numbers_names}
use Rattle.x12_station_records.specs.StationAdopt.{ArePairs, IsSubmission, IsArrivalRow, ArePostings}
use Rattle.x12_station_records.specs.StationAgreed.{pair_shown, AreKept}
use Rattle.x12_station_records.specs.StationContent.{agreements_of, content_of}
use Rattle.x12_station_records.specs.StationNumbers.{KeptNumbers, newest_version}
use Rattle.x12_station_records.specs.StationSchema.{station_schema}
use Rattle.x12_station_records.specs.StationTables.{numbers_row, AreWideParties, other_value, AgreedPair, IsWidePair, by_icn, by_seq, IsWidePosting, posting_row, CanBeUsed, arrival_row, submission_row, pair_row, lenient_number}
use Rattle.x12_station_records.specs.StationTaken.{IsNumbersRow, HasPair, AreChained, ArePairsKept, IsOneNumbersRow, HoldsStation}
use Rattle.x12_station_records.specs.declared.station_numbers.NumbersRow.{NumbersRow}

pub wide_party : (p : Party) → IsWideParty p → length (bytes_of_party p) ≡ 17
wide_party p w = length-append p.qualifier p.id ∙ rw (w.0, w.1) refl

-- the row of numbers
numbers_row_is : (n : NumbersRow) → AreWideParties n.owner
    → n.book.interchange ≤ MAX_CONTROL_NUMBER → n.book.group ≤ MAX_CONTROL_NUMBER → n.seq ≤ 2 ^ 63 - 1 → IsNumbersRow (whole (with_id numbers_row (1, n)))
numbers_row_is n parties icn gcn few = record {
  owner = record {
    party = wide_party n.owner.party parties.0;
    hub = wide_party n.owner.hub parties.1.0;
    other = other n.owner.other parties.1.1;
    noted = (n.owner.noted, refl);
    era = (n.owner.era, refl);
  };
  icn = (n.book.interchange, refl, icn);
  gcn = (n.book.group, refl, gcn);
  seq = (n.seq, refl, omega (arith, few));
  handed = (n.handed, refl);
}
  where
    other : (o : Option Party) → AllByRecursion IsWideParty (option_to_list o) → (other_value o ≡ Null) ⊎ (length (bytes_in (other_value o)) ≡ 17)
    other None all = inl refl
    other (Some p) all = inr (wide_party p all.0)

-- the pairs of agreements
abbrev pair_shows : ℕ × AgreedPair → Row
pair_shows x = Blob (bytes_of_party x.1.partner) ∷ Blob x.1.functional ∷ Blob x.1.set ∷ Int (pos (lenient_number x.1.lenient)) ∷ Int (pos x.0) ∷ []

pairs : (from next : ℕ) (at : List (ℕ × AgreedPair)) → from < next → RisesFrom from at → AllByRecursion (λ x. x.0 < next) at
    → AllByRecursion IsWidePair (map (λ (x : ℕ × AgreedPair). x.1) at) → (end : ℕ) × ArePairs from end (map pair_shows at) × (end < next) × AllByRecursion HasPair (map pair_shows at)
pairs from next [] low rise within wide = (from, refl, low, tt)
pairs from next (x ∷ at) low rise within wide =
    let rest = pairs x.0 next at within.0 rise.1 within.1 wide.1 in
    let bytes = wide_party x.1.partner wide.0.0 in
    let lenient = ap (λ b. Int (pos (lenient_number b))) (sym (lenient_back x.1.lenient)) in (
      rest.0,
      (x.0, record { above = rise.0; at_is = refl; partner = bytes; functional = wide.0.1; set = wide.0.2; lenient = lenient }, rest.1),
      rest.2,
      (record { partner = bytes; functional = wide.0.1; set = wide.0.2; lenient = lenient }, rest.3),
    )

pairs_back : (at : List (ℕ × AgreedPair)) → AllByRecursion (λ (p : AgreedPair). IsWideParty p.partner) (map (λ (x : ℕ × AgreedPair). x.1) at) → map pair_shown (map pair_shows at) ≡ map (λ (x : ℕ × AgreedPair). x.1) at
pairs_back [] h = refl
pairs_back (x ∷ at) h = rw (party_back x.1.partner h.0, lenient_back x.1.lenient, pairs_back at h.1) refl

-- the submissions
abbrev sent_shown : ℕ × StoredSubmission → Row
sent_shown x = Int (pos x.0) ∷ Int (pos x.1.seq) ∷ Blob (bytes_of_party x.1.receiver) ∷ []

pub pairs_head : {X : Type 0} (f : X → ℕ) (x : X) (xs : List X) → AllPairs (λ a b. f a < f b) (x ∷ xs) → All (λ y. f x < f y) xs
pairs_head f x xs rise k d at = rise 0 (suc k) d (omega arith) (omega arith)

pub pairs_tail : {X : Type 0} (f : X → ℕ) (x : X) (xs : List X) → AllPairs (λ a b. f a < f b) (x ∷ xs) → AllPairs (λ a b. f a < f b) xs
pairs_tail f x xs rise i j d before at = rise (suc i) (suc j) d (omega arith) (omega arith)

rising : (from : ℕ) (rs : List StoredSubmission) → All (λ r. from < r.icn) rs → AllPairs (λ (r : StoredSubmission) q. r.icn < q.icn) rs → RisesFrom from (map by_icn rs)
rising from [] above rise = tt
rising from (r ∷ rs) above rise = (All-head (λ (q : StoredSubmission). from < q.icn) r rs above, rising r.icn rs (pairs_head (λ (q : StoredSubmission). q.icn) r rs rise) (pairs_tail (λ (q : StoredSubmission). q.icn) r rs rise))

chained : (book : Numbers) (last : ℕ × ℕ) (rs : List StoredSubmission) → All (λ r. last.0 < r.icn) rs → All (λ r. last.1 < r.seq) rs → AllPairs (λ (r : StoredSubmission) q. r.icn < q.icn) rs → AllPairs (λ (r : StoredSubmission) q. r.seq < q.seq) rs
    → All (λ (r : StoredSubmission). r.icn ≤ book.interchange) rs → AllByRecursion (λ (r : StoredSubmission). IsWideParty r.receiver) rs → AreChained (IsSubmission book) last (map sent_shown (map by_icn rs))
chained book last [] icns seqs icn seq used parties = tt
chained book last (r ∷ rs) icns seqs icn seq used parties = (
  (r.icn, r.seq),
  record {
    icn_above = All-head (λ (q : StoredSubmission). last.0 < q.icn) r rs icns;
    seq_above = All-head (λ (q : StoredSubmission). last.1 < q.seq) r rs seqs;
    used = All-head (λ (q : StoredSubmission). q.icn ≤ book.interchange) r rs used;
    icn_is = refl;
    seq_is = refl;
    receiver = wide_party r.receiver parties.0;
  },
  chained book (r.icn, r.seq) rs (pairs_head (λ (q : StoredSubmission). q.icn) r rs icn) (pairs_head (λ (q : StoredSubmission). q.seq) r rs seq) (pairs_tail (λ (q : StoredSubmission). q.icn) r rs icn) (pairs_tail (λ (q : StoredSubmission). q.seq) r rs seq)
      (All-tail (λ (q : StoredSubmission). q.icn ≤ book.interchange) r rs used) parties.1,
)

-- the first arrivals
abbrev arrival_shown : ℕ × StoredArrival → Row
arrival_shown x = Int (pos x.0) ∷ Blob (bytes_of_party x.1.filed.partner) ∷ Int (pos x.1.filed.icn) ∷ []

arrivals : (last : ℕ) (rs : List StoredArrival) → RisesFrom last (map by_seq rs) → AllByRecursion (λ (r : StoredArrival). IsWideParty r.filed.partner) rs → AllByRecursion (λ (r : StoredArrival). r.filed.icn < 2 ^ 32) rs
    → AreChained IsArrivalRow last (map arrival_shown (map by_seq rs))
arrivals last [] rise parties narrow = tt
arrivals last (r ∷ rs) rise parties narrow = (
  r.seq,
  record { above = rise.0; seq_is = refl; partner = wide_party r.filed.partner parties.0; icn = (refl, narrow.0) },
  arrivals r.seq rs rise.1 parties.1 narrow.1,
)

-- the postings
abbrev posting_shown : ℕ × AcceptedSet → Row
posting_shown x =
    Blob (bytes_of_party x.1.key.sender) ∷ Int (pos x.1.key.icn) ∷ Int (pos x.1.key.group) ∷ Int (pos x.1.key.set) ∷ Blob x.1.functional ∷ Blob x.1.set ∷ Blob x.1.number ∷ Int (pos x.0) ∷ []

posted : (n : ℕ) (ps : List AcceptedSet) → AllByRecursion (λ (p : AcceptedSet). IsWideParty p.key.sender) ps → AllByRecursion IsWidePosting ps → (next : ℕ) × ArePostings n next (map posting_shown (enumerate_from n ps))
posted n [] parties wide = (n, refl)
posted n (p ∷ ps) parties wide =
    let rest = posted (n + 1) ps parties.1 wide.1 in
    let w : IsWidePosting p = wide.0 in (
      rest.0,
      (
        record {
          partner = wide_party p.key.sender parties.0;
          icn = (refl, w.icn);
          group = (refl, w.places.0);
          place = (refl, w.places.1);
          functional = w.codes.0;
          set = w.codes.1;
          number = w.number;
          at_is = refl;
        },
        rest.1,
      ),
    )

above_nought : (from k : ℕ) → 0 < from → AllByRecursion (λ n. 0 < n) (range_with_len from k)
above_nought from zero low = tt
above_nought from (suc k) low = (low, above_nought (from + 1) k (omega arith))

-- each submission has a number, from 1 on
first_seqs : (s : Stored) → IsPermutation (range_with_len 1 s.seq) (seqs s) → All (λ (r : StoredSubmission). 0 < r.seq) s.submitted
first_seqs s each =
    let seq : StoredSubmission → ℕ = λ r. r.seq in
    let all = All-permutation (λ n. 0 < n) (range_with_len 1 s.seq) (seqs s) each (All-from_recursion (λ n. 0 < n) (range_with_len 1 s.seq) (above_nought 1 s.seq (omega arith))) in
    all_from_map seq (λ n. 0 < n) s.submitted (all_front (λ n. 0 < n) (map seq s.submitted) (map (λ (r : StoredArrival). r.seq) s.arrived) all)

module _ (old new : State) (h : HoldsStation old.now) (rows : List Row) where
  abbrev Kept : Stored
  Kept = content_of old.now.trees

  pub numbers_taken : (oldest : ℕ) → (oldest ≤ h.version) × (h.version ≤ newest_version) → Shown numbers_text [] old new rows → IsOneNumbersRow oldest rows
  numbers_taken oldest known shown =
      let has = h.holds.has in
      let m = has.numbers.row in
      let said = has.numbers.said in
      let exact = shows_one numbers_text old new station_schema has.schema 0 numbers_shows numbers_names numbers_is numbers_row m has.numbers.are (λ x. refl) rows shown in
      let book : CanBeUsed m.book = subst (λ (k : KeptNumbers). CanBeUsed k.book) (sym said) has.numbers.book in
      let few : m.seq ≤ 2 ^ 63 - 1 = subst (λ (k : KeptNumbers). k.seq ≤ 2 ^ 63 - 1) (sym said) h.sound.few in
      let within : (oldest ≤ m.version) × (m.version ≤ newest_version) = subst (λ (v : ℕ). (oldest ≤ v) × (v ≤ newest_version)) (sym has.numbers.version_is) known in
      subst (IsOneNumbersRow oldest) (sym exact) ((refl, m.version, refl, within.0, within.1), (numbers_row_is m has.numbers.parties book.0 book.1 few, tt))

  pub pairs_taken : Shown pairs_text [] old new rows → (end : ℕ) × ArePairs 0 end rows × (end + 1 < 2 ^ 64) × ArePairsKept rows
  pairs_taken shown =
      let holds = h.holds.has.agreements in
      let exact = lists_all pairs_text old new h.holds.has.schema 1 pairs_shows pairs_names pairs_is pair_row holds.at holds.are pair_shows (λ x. refl) rows shown in
      let parties = subst (AllByRecursion (λ (p : AgreedPair). IsWideParty p.partner)) (sym holds.pairs_are) (pairs_of_all Kept.agreements holds.parties) in
      let got = pairs 0 h.next.agreement holds.at holds.counted holds.are.rise holds.within (subst (AllByRecursion IsWidePair) (sym holds.pairs_are) holds.wide) in
      let back : agreements_of (map pair_shown rows) ≡ Kept.agreements = ap agreements_of (ap (map pair_shown) exact ∙ pairs_back holds.at parties ∙ holds.pairs_are) ∙ agreements_back Kept.agreements h.sound.agreed_once h.sound.agreed in (
        got.0,
        subst (ArePairs 0 got.0) (sym exact) got.1,
        omega (arith, got.2, holds.few),
        record { pairs = subst (AllByRecursion HasPair) (sym exact) got.3; kept = subst AreKept (sym back) (record { agreed_once = h.sound.agreed_once; agreed = h.sound.agreed }) },
      )

  pub sent_taken : Shown sent_text [] old new rows → AreChained (IsSubmission Kept.book) (0, 0) rows
  unfolding entries
  sent_taken shown =
      let holds = h.holds.has.submitted in
      let rs = Kept.submitted in
      let above : All (λ r. 0 < r.icn) rs = λ k d at. All-from_recursion (λ (r : StoredSubmission). 0 < r.icn) rs holds.numbered k d at in
      let are : AreRows submission_row (map by_icn rs) (old.now.trees 3) = record { same = holds.same; rise = rising 0 rs above holds.rise } in
      let exact = lists_all sent_text old new h.holds.has.schema 3 sent_shows sent_names sent_is submission_row (map by_icn rs) are sent_shown (λ x. refl) rows shown in
      let used : All (λ (r : StoredSubmission). r.icn ≤ Kept.book.interchange) rs =
      all_from_map (entry_of_row Kept.sets) (λ e. e.icn ≤ Kept.book.interchange) rs (λ k e at. (h.sound.used k e at).interchange) in
      subst (AreChained (IsSubmission Kept.book) (0, 0)) (sym exact) (chained Kept.book (0, 0) rs above (first_seqs Kept h.sound.numbered.each) holds.rise h.sound.numbered.submitted used holds.parties)

  pub arrived_taken : Shown arrived_text [] old new rows → AreChained IsArrivalRow 0 rows
  arrived_taken shown =
      let holds = h.holds.has.arrived in
      let exact = lists_all arrived_text old new h.holds.has.schema 6 arrived_shows arrived_names arrived_is arrival_row (map by_seq Kept.arrived) holds.are arrival_shown (λ x. refl) rows shown in
      subst (AreChained IsArrivalRow 0) (sym exact) (arrivals 0 Kept.arrived holds.are.rise holds.parties holds.narrow)

  pub posted_taken : Shown posted_text [] old new rows → (next : ℕ) × ArePostings 1 next rows
  posted_taken shown =
      let holds = h.holds.has.postings in
      let exact = lists_all posted_text old new h.holds.has.schema 8 posted_shows posted_names posted_is posting_row (enumerate_from 1 Kept.postings) holds.are posting_shown (λ x. refl) rows shown in
      let got = posted 1 Kept.postings holds.parties holds.wide in
      (got.0, subst (ArePostings 1 got.0) (sym exact) got.1)
