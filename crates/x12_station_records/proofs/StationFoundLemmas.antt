-- A station's tables that were tested hold sound records.
use Rattle.std.proofs.Common.{◌≡◌, ◌≤◌, ◌<◌, length, arith, ◌++◌, ◌∙◌, ◌+◌, ◌-◌, ◌^◌, ℕ, List, [], ◌∷◌, map, All, false, refl, sym, ap, subst, Result, Ok, Err, IsTrue, IfOk, IsPermutation}
use Rattle.std.specs.List.{range_with_len}
use Rattle.sqlite.specs.Effect.{Database}
use Rattle.sqlite.specs.State.{State, HasCleanDisk}
use Rattle.sqlite_schema.specs.Rules.{Obeys}
use Rattle.sqlite_schema.specs.declared.schema.Constraint.TheVariants.{Unique, ForeignKey}
use Rattle.x12_numbers.specs.Book.{Numbers}
use Rattle.x12_envelopes.specs.declared.party.Party.{Party}
use Rattle.x12_station.specs.Stored.{IsSound, StoredSubmission, StoredArrival, IsNumberedBy, entries, seqs}
use Rattle.x12_tables.specs.Adopt.{Finds}
use Rattle.x12_station_records.proofs.StationContentLemmas.{numbers_are}
use Rattle.x12_station_records.proofs.StationSentLemmas.{sent_entries}
use Rattle.x12_station_records.proofs.StationUniqueLemmas.{filed_once, of_filed, posted_once}
use Rattle.x12_station_records.specs.StationAdopt.{FindsSubmitted, FindsSent, AreOfAll, FindsSets, FindsNumbers, FindsOwn, FindsRecords, FindsRows, FindsArrived, FindsOrder}
use Rattle.x12_station_records.specs.StationContent.{content_of, IsValid}
use Rattle.x12_station_records.specs.StationNumbers.{AreMarked, newest_version, numbers_kept_of, numbers_view, KeptNumbers}
use Rattle.x12_station_records.specs.StationPlan.{HoldsRows, HoldsRowsOf}
use Rattle.x12_station_records.specs.StationSchema.{station_schema}
use Rattle.x12_station_records.specs.StationTables.{CanBeUsed}
use Rattle.x12_station_records.specs.declared.station_committing.NextRows.{NextRows}
use Rattle.x12_station_records.specs.declared.station_numbers.NumbersRow.{NumbersRow}

firsts : (rs : List StoredSubmission) → map (λ (x : ℕ × ℕ). x.0) (map (λ (r : StoredSubmission). (r.icn, r.seq)) rs) ≡ map (λ (r : StoredSubmission). r.icn) rs
firsts [] = refl
firsts (r ∷ rs) = ap (λ ns. r.icn ∷ ns) (firsts rs)

seconds : (rs : List StoredSubmission) → map (λ (x : ℕ × ℕ). x.1) (map (λ (r : StoredSubmission). (r.icn, r.seq)) rs) ≡ map (λ (r : StoredSubmission). r.seq) rs
seconds [] = refl
seconds (r ∷ rs) = ap (λ ns. r.seq ∷ ns) (seconds rs)

-- the numbers that were found are those of the submissions
pub icns_found : (book : Numbers) (db : Database) (xs : List (ℕ × ℕ)) → FindsSubmitted book db xs → map (λ (r : StoredSubmission). r.icn) (content_of db.trees).submitted ≡ map (λ (x : ℕ × ℕ). x.0) xs
icns_found book db xs found = sym (firsts (content_of db.trees).submitted) ∙ ap (map (λ (x : ℕ × ℕ). x.0)) found.numbers

pub seqs_found : (book : Numbers) (db : Database) (xs : List (ℕ × ℕ)) → FindsSubmitted book db xs → map (λ (r : StoredSubmission). r.seq) (content_of db.trees).submitted ≡ map (λ (x : ℕ × ℕ). x.1) xs
seqs_found book db xs found = sym (seconds (content_of db.trees).submitted) ∙ ap (map (λ (x : ℕ × ℕ). x.1)) found.numbers

pub sent_found : (book : Numbers) (db : Database) (xs : List (ℕ × ℕ)) (next : ℕ) → FindsSubmitted book db xs → FindsSets book (map (λ (x : ℕ × ℕ). x.0) xs) db next → FindsSent book db (xs, next)
sent_found book db xs next s t = record {
  submitted = s;
  sets = t.rows;
  next_is = t.next_is;
  wide = t.wide;
  entries = sent_entries book (content_of db.trees) s.holds.rise s.used
      (subst (λ ns. AreOfAll book 0 ns (content_of db.trees).sets) (sym (ap (map (λ (x : ℕ × ℕ). x.0)) s.numbers) ∙ firsts (content_of db.trees).submitted) t.are);
}

-- what the row of numbers says is what the tables stand for
pub origin_found : (oldest : ℕ) (db : Database) (n : NumbersRow) → FindsNumbers oldest db n → numbers_kept_of (content_of db.trees) ≡ numbers_view n
origin_found oldest db n found = numbers_are {version = n.version} (numbers_view n) (db.trees 0) (record { row = n; version_is = refl; are = found.rows; said = refl; parties = found.parties; book = found.book })

pub records_found : (oldest : ℕ) (party : Party) (hubs : List Party) (db : Database) (n : NumbersRow) (next : NextRows) → FindsOwn oldest party hubs db n → FindsRows n db next → FindsRecords oldest party hubs db (next, n)
records_found oldest party hubs db n next found rows =
    let numbers = found.numbers in
    let s = content_of db.trees in
    let said : numbers_kept_of s ≡ numbers_view n = origin_found oldest db n numbers in
    let book : s.book ≡ n.book = ap (λ (k : KeptNumbers). k.book) said in
    let seq : s.seq ≡ n.seq = ap (λ (k : KeptNumbers). k.seq) said in
    let handed : s.handed ≡ n.handed = ap (λ (k : KeptNumbers). k.handed) said in
    let rules : Obeys station_schema db.trees = subst (λ schema. Obeys schema db.trees) numbers.obeys.schema_is numbers.obeys.sound.obeys in
    let unique = rules.rules Unique in
    let refers = rules.rules ForeignKey in
    let sent = rows.entries in
    let order = rows.order in
    let posted = rows.posted.0 in
    let others : map (λ (y : ℕ × ℕ). y.1) rows.sent ≡ map (λ (r : StoredSubmission). r.seq) s.submitted = sym (ap (map (λ (y : ℕ × ℕ). y.1)) sent.submitted.numbers) ∙ seconds s.submitted in
    record {
      known = numbers.known;
      holds = record {
        has = record {
          schema = numbers.obeys.schema_is;
          numbers = record { row = n; version_is = refl; are = numbers.rows; said = sym said; parties = numbers.parties; book = subst CanBeUsed (sym book) numbers.book };
          agreements = rows.agreed.holds;
          submitted = sent.submitted.holds;
          sets = sent.sets;
          wide = sent.wide;
          arrived = order.holds;
          postings = posted.holds;
        };
        sets = sent.next_is;
        postings = posted.next_is;
      };
      sound = record {
        numbered = record {
          each = subst (λ k. IsPermutation (range_with_len 1 k) (seqs s)) (sym seq) (subst (λ xs. IsPermutation (range_with_len 1 n.seq) (xs ++ map (λ (r : StoredArrival). r.seq) s.arrived)) others order.each);
          submitted = sent.submitted.rise;
          arrived = order.rise;
        };
        few = subst (λ k. k ≤ 2 ^ 63 - 1) (sym seq) numbers.few;
        rows = sent.entries.rows;
        whole = sent.entries.whole;
        in_order = sent.entries.in_order;
        used = subst (λ b. All (IsNumberedBy b) (entries s)) (sym book) sent.entries.used;
        filed_once = filed_once db.trees s.arrived order.holds unique.1.1.1.1.0;
        posted_once = posted_once db.trees s.postings posted.holds unique.1.1.1.1.1.0;
        of_filed = of_filed db.trees s.arrived order.holds s.postings posted.holds refers.1.1.1.1.1.0;
        handed = few_handed s.handed n.handed next.posting (length s.postings) handed rows.posted.1 posted.next_is;
        agreed_once = rows.agreed.kept.agreed_once;
        agreed = rows.agreed.kept.agreed;
      };
      own = (ap (λ (k : KeptNumbers). k.origin.me) said ∙ found.own.0, ap (λ (k : KeptNumbers). k.origin.hubs) said ∙ found.own.1);
      marked = subst AreMarked (sym said) found.marked;
      said = said;
    }
  where
    few_handed : (a b next n : ℕ) → a ≡ b → b < next → next ≡ 1 + n → a ≤ n
    few_handed a b next n same low is = omega (arith, same, low, is)

-- what was found is valid, where it is of the newest version
pub valid_found : {E : Type 0} (oldest : ℕ) (party : Party) (hubs : List Party) (x : NextRows × NumbersRow) → (oldest ≤ x.1.version → x.1.version ≤ newest_version → x.1.version ≡ newest_version) → (old new : State) → Finds {E = E} (FindsRecords oldest party hubs) (Ok x) old new
    → old.in_transaction ≡ false → (IsTrue old.is_open → old.now ≡ old.committed) → (IsTrue new.is_open → HasCleanDisk new) → IsValid x.0 new
valid_found oldest party hubs x newest old new h outside settled law = record {
  outside = h.mode outside;
  settled = λ o. let k = h.stays (law o) in let was = settled (k.was_open o) in k.now was o ∙ was ∙ sym (k.committed o);
  holds = λ o.
      let f = h.found (law o) in
      let holds = subst (λ (v : ℕ). HoldsRowsOf v x.0 old.now (content_of old.now.trees)) (newest f.0.known.0 f.0.known.1) f.0.holds in
      subst (λ (d : Database). HoldsRows x.0 d (content_of d.trees)) (sym f.1.0.now_is) holds;
  sound = λ o. let f = h.found (law o) in subst (λ (d : Database). IsSound (content_of d.trees)) (sym f.1.0.now_is) f.0.sound;
  marked = λ o. let f = h.found (law o) in subst (λ (d : Database). AreMarked (numbers_kept_of (content_of d.trees))) (sym f.1.0.now_is) f.0.marked;
}

pub order_found : (db : Database) (last : ℕ) (others seqs : List ℕ) → FindsArrived db seqs → IsPermutation (range_with_len 1 last) (others ++ seqs) → FindsOrder last others db
order_found db last others seqs h each = record {
  holds = h.holds;
  rise = h.rise;
  each = subst (λ xs. IsPermutation (range_with_len 1 last) (others ++ xs)) (sym h.seqs_are) each;
}
