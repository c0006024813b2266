-- What UNIQUE and REFERENCES of a station's tables say of first arrivals and postings.
use Rattle.std.proofs.Common.{◌≡◌, ◌<◌, ◌+◌, ◌==◌, ◌&&◌, ◌||◌, ◌∙◌, ℕ, pos, Bool, true, false, List, [], ◌∷◌, map, not, refl, sym, ap, ap₂, subst, arith}
use Rattle.std.specs.List.{AllByRecursion, IsDistinct, enumerate_from, list_any}
use Rattle.std.proofs.lemmas.List.Elements.{All-from_recursion}
use Rattle.std.proofs.lemmas.List.Sorted.{list_any-IsPermutation}
use Rattle.sqlite.specs.declared.types.Value.TheVariants.{Int, Blob}
use Rattle.sqlite.specs.Collation.TheVariants.{Binary}
use Rattle.sqlite.specs.Listing.{understood}
use Rattle.sqlite.specs.Order.{Row, column}
use Rattle.sqlite.specs.Tree.{Trees, rowid}
use Rattle.sqlite_schema.specs.Rules.{passes, equal, differ}
use Rattle.sqlite_schema.specs.declared.schema.Constraint.TheVariants.{Unique, ForeignKey}
use Rattle.sqlite_sql.specs.Ops.{is_null}
use Rattle.sqlite_tied.specs.Compute.{everything}
use Rattle.sqlite_value.specs.Keys.{first_key}
use Rattle.sql_rows.specs.Keyed.{with_id, RisesFrom, AreRows}
use Rattle.sql_rows.proofs.Tests.{int_test, blob_test, one_and}
use Rattle.x12_acks.specs.Accepted.{AcceptedSet}
use Rattle.x12_acks.specs.Key.{is_same_key}
use Rattle.x12_envelopes.specs.declared.party.Party.{Party}
use Rattle.x12_inbound.specs.Filing.{filed_key}
use Rattle.x12_inbound.specs.Order.{is_same_interchange, interchange_holding}
use Rattle.x12_inbound.specs.Register.{is_under, AreOfFiled}
use Rattle.x12_judge.specs.Agreement.{is_same_party}
use Rattle.x12_station.specs.Stored.{StoredArrival}
use Rattle.std.proofs.lemmas.Bool.{not-true}
use Rattle.x12_numbers.proofs.Shelf.{all_weaker}
use Rattle.x12_tables.proofs.AllRows.{all_moved}
use Rattle.x12_tables.proofs.PartyLemmas.{split_eq}
use Rattle.x12_tables.proofs.StoredLemmas.{and_left, or_right, apart_below, or_left}
use Rattle.x12_tables.specs.Party.{IsWideParty, bytes_of_party}
use Rattle.x12_station_records.proofs.StationAsks.{behind_number}
use Rattle.x12_station_records.specs.StationSchema.{inbound, station_schema, posting}
use Rattle.x12_station_records.specs.StationTables.{arrival_row, HoldsArrivals, by_seq, posting_row, HoldsPostings}

-- the same party and number, as the columns of two rows are compared
abbrev is_same_arrival : Row → Row → Bool
is_same_arrival other r = equal Binary (column other 2) (column r 2) && (equal Binary (column other 3) (column r 3) && true)

-- the same place of a transaction set
abbrev is_same_place : Row → Row → Bool
is_same_place other r =
    equal Binary (column other 2) (column r 2) && (equal Binary (column other 3) (column r 3) && (equal Binary (column other 4) (column r 4) && (equal Binary (column other 5) (column r 5) && true)))

-- another row is the same
abbrev is_twice : (Row → Row → Bool) → Row → Row → Bool
is_twice same r other = same other r && differ (rowid other) (rowid r)

arrived_apart : (db : Trees) (r : Row) → passes Unique station_schema db (inbound 6) r ≡ true → list_any (is_twice is_same_arrival r) (db 6) ≡ false
unfolding understood everything first_key
arrived_apart db r h = not-true (list_any (is_twice is_same_arrival r) (db 6)) (and_left (not (list_any (is_twice is_same_arrival r) (db 6))) true h)

posted_apart : (db : Trees) (r : Row) → passes Unique station_schema db (posting 8) r ≡ true → list_any (is_twice is_same_place r) (db 8) ≡ false
unfolding understood everything first_key
posted_apart db r h = not-true (list_any (is_twice is_same_place r) (db 8)) (and_left (not (list_any (is_twice is_same_place r) (db 8))) true h)

-- the arrival of a posting is there
arrival_there : (db : Trees) (r : Row) → passes ForeignKey station_schema db (posting 8) r ≡ true
    → ((is_null (column r 2) || (is_null (column r 3) || false)) || list_any (λ parent. is_same_arrival parent r) (db 6)) ≡ true
unfolding understood everything first_key
arrival_there db r h = and_left _ true h

-- Rows that are told apart are of values that are.
module _ {X : Type 0} (enc : X → Row) (twice : Row → Row → Bool) (same : X → X → Bool) (Fit : X → Type 0) (told : (m n : ℕ) (x y : X) → Fit x → Fit y → twice (with_id enc (m, x)) (with_id enc (n, y)) ≡ same x y) where
  abbrev rows_of : List (ℕ × X) → List Row
  rows_of at = map (with_id enc) at

  abbrev value : ℕ × X → X
  value x = x.1

  unequal : (b c : Bool) → c ≡ true → b && c ≡ false → b ≡ false
  unequal true c is h = absurd (let e = sym is ∙ h in cc)
  unequal false c is h = refl

  behind_it : (m n : ℕ) (x : X) (at : List (ℕ × X)) → m < n + 1 → Fit x → RisesFrom n at → AllByRecursion Fit (map value at) → AllByRecursion (λ r. twice (with_id enc (m, x)) r && differ (Int (pos m)) (rowid r) ≡ false) (rows_of at)
      → AllByRecursion (λ y. same x y ≡ false) (map value at)
  behind_it m n x [] low fit rise fits h = tt
  behind_it m n x (y ∷ at) low fit rise fits h =
      let up : m < y.0 = omega (arith, low, rise.0) in
      let first : twice (with_id enc (m, x)) (with_id enc y) ≡ false = unequal (twice (with_id enc (m, x)) (with_id enc y)) (differ (Int (pos m)) (Int (pos y.0))) (apart_below m y.0 up) h.0 in (
        sym (told m y.0 x y.1 fit fits.0) ∙ first,
        behind_it m y.0 x at (omega (arith, up)) fit rise.1 fits.1 h.1,
      )

  distinct : (n : ℕ) (at : List (ℕ × X)) → RisesFrom n at → AllByRecursion Fit (map value at) → AllByRecursion (λ r. list_any (is_twice twice r) (rows_of at) ≡ false) (rows_of at) → IsDistinct same (map value at)
  unfolding IsDistinct
  distinct n [] rise fits h = tt
  distinct n (x ∷ at) rise fits h = (
    behind_it x.0 x.0 x.1 at (omega arith) fits.0 rise.1 fits.1
        (all_weaker (λ r. list_any (is_twice twice r) (rows_of (x ∷ at)) ≡ false) (λ r. is_twice twice r (with_id enc x) ≡ false) (rows_of at) (λ r. or_left (is_twice twice r (with_id enc x)) (list_any (is_twice twice r) (rows_of at))) h.1),
    distinct x.0 at rise.1 fits.1 (all_weaker (λ r. list_any (is_twice twice r) (rows_of (x ∷ at)) ≡ false) (λ r. list_any (is_twice twice r) (rows_of at) ≡ false) (rows_of at) (λ r. or_right (is_twice twice r (with_id enc x)) (list_any (is_twice twice r) (rows_of at))) h.1),
  )

  -- of what the tree holds
  pub once_in : (at : List (ℕ × X)) (tree : List Row) → AreRows enc at tree → AllByRecursion Fit (map value at) → AllByRecursion (λ r. list_any (is_twice twice r) tree ≡ false) tree → IsDistinct same (map value at)
  once_in at tree are fits h =
      let here : AllByRecursion (λ r. list_any (is_twice twice r) (rows_of at) ≡ false) tree =
      all_weaker (λ r. list_any (is_twice twice r) tree ≡ false) (λ r. list_any (is_twice twice r) (rows_of at) ≡ false) tree (λ r no. sym (list_any-IsPermutation (is_twice twice r) tree (rows_of at) are.same) ∙ no) h in
      distinct 0 at are.rise fits (all_moved (λ r. list_any (is_twice twice r) (rows_of at) ≡ false) tree (rows_of at) are.same here)

-- First arrivals.
party_test : (p q : Party) → IsWideParty p → IsWideParty q → equal Binary (Blob (bytes_of_party p)) (Blob (bytes_of_party q)) ≡ is_same_party p q
party_test p q h k = blob_test (bytes_of_party p) (bytes_of_party q) ∙ split_eq p.qualifier q.qualifier p.id q.id (h.0 ∙ sym k.0)

arrival_test : (p q : Party) (m n : ℕ) → IsWideParty p → IsWideParty q → equal Binary (Blob (bytes_of_party p)) (Blob (bytes_of_party q)) && (equal Binary (Int (pos m)) (Int (pos n)) && true) ≡ is_same_party p q && m == n
arrival_test p q m n h k = ap₂ (λ a b. a && (b && true)) (party_test p q h k) (int_test m n) ∙ ap (λ c. is_same_party p q && c) (one_and (m == n))

abbrev FitArrival : StoredArrival → Type 0
FitArrival r = IsWideParty r.filed.partner

pub filed_once : (db : Trees) (rs : List StoredArrival) → HoldsArrivals rs (db 6) → AllByRecursion (λ r. passes Unique station_schema db (inbound 6) r ≡ true) (db 6)
    → IsDistinct (λ (r q : StoredArrival). is_same_interchange (filed_key r.filed) (filed_key q.filed)) rs
filed_once db rs holds unique =
    subst (IsDistinct (λ (r q : StoredArrival). is_same_interchange (filed_key r.filed) (filed_key q.filed))) (behind_number (λ (r : StoredArrival). r.seq) rs)
    (once_in arrival_row is_same_arrival (λ r q. is_same_interchange (filed_key r.filed) (filed_key q.filed)) FitArrival
    (λ m n r q h k. arrival_test r.filed.partner q.filed.partner r.filed.icn q.filed.icn h k) (map by_seq rs) (db 6) holds.are
    (subst (AllByRecursion FitArrival) (sym (behind_number (λ (r : StoredArrival). r.seq) rs)) holds.parties)
    (all_weaker (λ r. passes Unique station_schema db (inbound 6) r ≡ true) (λ r. list_any (is_twice is_same_arrival r) (db 6) ≡ false) (db 6) (arrived_apart db) unique))

-- Postings.
pub grouped : (a b c d : Bool) → a && (b && (c && (d && true))) ≡ a && b && c && d
grouped false b c d = refl
grouped true false c d = refl
grouped true true false d = refl
grouped true true true true = refl
grouped true true true false = refl

abbrev FitPosting : AcceptedSet → Type 0
FitPosting p = IsWideParty p.key.sender

place_test : (m n : ℕ) (p q : AcceptedSet) → FitPosting p → FitPosting q → is_same_place (with_id posting_row (m, p)) (with_id posting_row (n, q)) ≡ is_same_key p.key q.key
place_test m n p q h k =
    ap₂ (λ a b. a && (b && (equal Binary (Int (pos p.key.group)) (Int (pos q.key.group)) && (equal Binary (Int (pos p.key.set)) (Int (pos q.key.set)) && true)))) (party_test p.key.sender q.key.sender h k) (int_test p.key.icn q.key.icn)
    ∙ ap₂ (λ c d. is_same_party p.key.sender q.key.sender && ((p.key.icn == q.key.icn) && (c && (d && true)))) (int_test p.key.group q.key.group) (int_test p.key.set q.key.set)
    ∙ grouped (is_same_party p.key.sender q.key.sender) (p.key.icn == q.key.icn) (p.key.group == q.key.group) (p.key.set == q.key.set)

postings_of : (n : ℕ) (ps : List AcceptedSet) → map (λ (x : ℕ × AcceptedSet). x.1) (enumerate_from n ps) ≡ ps
postings_of n [] = refl
postings_of n (p ∷ ps) = ap (λ xs. p ∷ xs) (postings_of (n + 1) ps)

pub posted_once : (db : Trees) (ps : List AcceptedSet) → HoldsPostings ps (db 8) → AllByRecursion (λ r. passes Unique station_schema db (posting 8) r ≡ true) (db 8) → IsDistinct (λ (p q : AcceptedSet). is_same_key p.key q.key) ps
posted_once db ps holds unique =
    subst (IsDistinct (λ (p q : AcceptedSet). is_same_key p.key q.key)) (postings_of 1 ps)
    (once_in posting_row is_same_place (λ p q. is_same_key p.key q.key) FitPosting place_test (enumerate_from 1 ps) (db 8) holds.are
    (subst (AllByRecursion FitPosting) (sym (postings_of 1 ps)) holds.parties)
    (all_weaker (λ r. passes Unique station_schema db (posting 8) r ≡ true) (λ r. list_any (is_twice is_same_place r) (db 8) ≡ false) (db 8) (posted_apart db) unique))

-- Postings are of what is filed.
module _ (db : Trees) (rs : List StoredArrival) (arrived : HoldsArrivals rs (db 6)) where
  found_so : (n : ℕ) (p : AcceptedSet) (qs : List StoredArrival) → FitPosting p → AllByRecursion FitArrival qs
      → list_any (λ parent. is_same_arrival parent (with_id posting_row (n, p))) (map (with_id arrival_row) (map by_seq qs)) ≡ list_any (is_under (interchange_holding p.key)) (map (λ (r : StoredArrival). r.filed) qs)
  found_so n p [] h all = refl
  found_so n p (q ∷ qs) h all = ap₂ (λ a b. a || b) (arrival_test q.filed.partner p.key.sender q.filed.icn p.key.icn all.0 h) (found_so n p qs h all.1)

  abbrev IsOfFiled : AcceptedSet → Type 0
  IsOfFiled p = list_any (is_under (interchange_holding p.key)) (map (λ (r : StoredArrival). r.filed) rs) ≡ true

  filed_here : (n : ℕ) (p : AcceptedSet) → FitPosting p → passes ForeignKey station_schema db (posting 8) (with_id posting_row (n, p)) ≡ true → IsOfFiled p
  filed_here n p h refers =
      sym (found_so n p rs h arrived.parties)
      ∙ sym (list_any-IsPermutation (λ parent. is_same_arrival parent (with_id posting_row (n, p))) (db 6) (map (with_id arrival_row) (map by_seq rs)) arrived.are.same)
      ∙ arrival_there db (with_id posting_row (n, p)) refers

  all_filed : (n : ℕ) (ps : List AcceptedSet) → AllByRecursion FitPosting ps → AllByRecursion (λ r. passes ForeignKey station_schema db (posting 8) r ≡ true) (map (with_id posting_row) (enumerate_from n ps)) → AllByRecursion IsOfFiled ps
  all_filed n [] fits h = tt
  all_filed n (p ∷ ps) fits h = (filed_here n p fits.0 h.0, all_filed (n + 1) ps fits.1 h.1)

  pub of_filed : (ps : List AcceptedSet) → HoldsPostings ps (db 8) → AllByRecursion (λ r. passes ForeignKey station_schema db (posting 8) r ≡ true) (db 8) → AreOfFiled (map (λ (r : StoredArrival). r.filed) rs) ps
  of_filed ps posted refers =
      All-from_recursion IsOfFiled ps (all_filed 1 ps posted.parties (all_moved (λ r. passes ForeignKey station_schema db (posting 8) r ≡ true) (db 8) (map (with_id posting_row) (enumerate_from 1 ps)) posted.are.same refers))
