-- The look-ups of one posting: at its place, and by the key of its transaction set.
use Rattle.std.proofs.Common.{◌≡◌, ◌≤◌, ◌==◌, ◌&&◌, ◌+◌, ℕ, pos, List, [], ◌∷◌, codes, length, filter, find, slice_get, Bool, true, false, Option, Some, option_map, refl, sym, ap, subst, ◌∙◌, inl, inr, arith, None}
use Rattle.std.specs.List.{AllByRecursion, enumerate_from, IsDistinct}
use Rattle.std.specs.Option.{option_to_list}
use Rattle.std.specs.Str.{bytes_eq}
use Rattle.std.proofs.lemmas.Bool.{cases_Bool}
use Rattle.sqlite.specs.Command.TheVariants.{Select}
use Rattle.sqlite.specs.Listing.{understood, reads_listing}
use Rattle.sqlite.specs.declared.types.Value.TheVariants.{Int, Blob}
use Rattle.sqlite.specs.Order.{Row}
use Rattle.sqlite.specs.State.{State, Shown}
use Rattle.sqlite.specs.Term.{Term}
use Rattle.sqlite.proofs.Callers.{IsPlain, command_of}
use Rattle.sqlite_tied.specs.Compute.{everything}
use Rattle.sql_rows.proofs.Selects.{one_table}
use Rattle.sql_rows.proofs.Tests.{int_test, blob_test, one_and}
use Rattle.sql_rows.specs.Query.{IsQuery}
use Rattle.sql_rows.proofs.Queries.{select_asks}
use Rattle.x12_numbers.proofs.Shelf.{places_rise}
use Rattle.x12_acks.specs.Accepted.{AcceptedSet}
use Rattle.x12_acks.specs.Key.{is_same_key}
use Rattle.x12_acks.specs.Submission.{TransactionSetKey}
use Rattle.x12_inbound.proofs.OrderLemmas.{key_flips}
use Rattle.x12_inbound.specs.Register.{posted_in}
use Rattle.x12_judge.specs.Agreement.{is_same_party}
use Rattle.x12_outbound.proofs.FirstEvidenceLemmas.{same_key}
use Rattle.x12_outbound.specs.Entry.{at_place}
use Rattle.x12_station.specs.Stored.{Stored, IsSound}
use Rattle.x12_tables.proofs.KeyLemmas.{is}
use Rattle.x12_tables.proofs.PartyLemmas.{party_back, split_eq}
use Rattle.x12_tables.specs.Party.{IsWideParty, bytes_of_party}
use Rattle.x12_station_records.proofs.StationAskedLemmas.{place_asked}
use Rattle.x12_station_records.proofs.StationAsks.{finds_key}
use Rattle.x12_station_records.proofs.StationPostingLemmas.{postings_names, postings_shows, shown_row}
use Rattle.x12_station_records.proofs.StationSoundLemmas.{one_low}
use Rattle.x12_station_records.proofs.StationUniqueLemmas.{grouped}
use Rattle.x12_station_records.specs.StationFinds.{asked_as}
use Rattle.x12_station_records.specs.StationPostings.{posting_shown}
use Rattle.x12_station_records.specs.StationSchema.{station_schema}
use Rattle.x12_station_records.specs.StationTables.{HasTables, posting_row}

abbrev pub place_text : List ℕ
place_text = codes "SELECT partner, icn, grp, place, functional, setid, number, bytes FROM posting WHERE at = ?1"

abbrev place_wheres : List Term
place_wheres = is 0 0 ∷ []

pub place_is : (command_of (understood station_schema place_text) ≡ Select (record { lets = []; body = one_table 8 place_wheres postings_shows [] }) postings_names) × (reads_listing station_schema place_text ≡ false) × IsPlain (understood station_schema place_text)
unfolding understood everything
place_is = (refl, refl, (refl, refl))

pub place_asks : IsQuery place_text
unfolding everything
place_asks = select_asks place_text ((λ s base. refl), (λ s. refl))

abbrev pub posted_text : List ℕ
posted_text = codes "SELECT partner, icn, grp, place, functional, setid, number, bytes FROM posting WHERE icn = ?1 AND grp = ?2 AND place = ?3 AND partner = ?4"

abbrev posted_wheres : List Term
posted_wheres = is 3 0 ∷ is 4 1 ∷ is 5 2 ∷ is 2 3 ∷ []

pub posted_is : (command_of (understood station_schema posted_text) ≡ Select (record { lets = []; body = one_table 8 posted_wheres postings_shows [] }) postings_names) × (reads_listing station_schema posted_text ≡ false) × IsPlain (understood station_schema posted_text)
unfolding understood everything
posted_is = (refl, refl, (refl, refl))

pub posted_asks : IsQuery posted_text
unfolding everything
posted_asks = select_asks posted_text ((λ s base. refl), (λ s. refl))

abbrev Placed : Type 0
Placed = ℕ × AcceptedSet

abbrev shows_placed : Placed → Row
shows_placed x = shown_row x.1

-- the first row of an answer of at most one
first_is : {X Y : Type 0} (g : Row → Y) (f : X → Row) (o : Option X) → option_map g (slice_get (option_to_list (option_map f o)) 0) ≡ option_map (λ x. g (f x)) o
first_is g f None = refl
first_is g f (Some x) = refl

-- a row stands for the posting that it is of
posting_back : (p : Placed → Bool) (n : ℕ) (ps : List AcceptedSet) → AllByRecursion (λ q. IsWideParty q.key.sender) ps
    → option_map (λ (x : Placed). posting_shown (shown_row x.1)) (find p (enumerate_from n ps)) ≡ option_map (λ (x : Placed). x.1) (find p (enumerate_from n ps))
posting_back p n [] h = refl
posting_back p n (q ∷ ps) h = elim (cases_Bool (p (n, q))) [
  | inl yes1 ↦ rw (yes1, party_back q.key.sender h.0) refl
  | inr no1 ↦ rw no1 (posting_back p (n + 1) ps h.1)
]

pub finds_placed : (at : ℕ) (old new : State) (rows : List Row) (next : ℕ) (s : Stored) → HasTables next old.now s → Shown place_text (Int (pos (asked_as at)) ∷ []) old new rows
    → option_map posting_shown (slice_get rows 0) ≡ at_place at s.postings
finds_placed at old new rows next s has h =
    let key = asked_as at in
    let p : Placed → Bool = λ x. x.0 == key in
    let places = enumerate_from 1 s.postings in
    let exact : rows ≡ option_to_list (option_map shows_placed (find p places)) =
    finds_key place_text (Int (pos key) ∷ []) old new has.schema 8 place_wheres postings_shows postings_names place_is posting_row places has.postings.are.same p shows_placed
    (λ x. rw (int_test x.0 key) (one_and (x.0 == key))) (λ x. refl) (one_low (λ (x : Placed). x.0) key places (places_rise 1 s.postings)) rows h in
    ap (λ rs. option_map posting_shown (slice_get rs 0)) exact
    ∙ first_is posting_shown shows_placed (find p places)
    ∙ posting_back p 1 s.postings has.postings.parties
    ∙ place_asked at s.postings has.postings.few

turned : (a b c d : Bool) → a && b && c && d ≡ d && a && b && c
turned true true true true = refl
turned true true true false = refl
turned true true false true = refl
turned true true false false = refl
turned true false c true = refl
turned true false c false = refl
turned false b c true = refl
turned false b c false = refl

module _ (k : TransactionSetKey) where
  -- the test that the statement makes
  abbrev asked : AcceptedSet → Bool
  asked p = p.key.icn == k.icn && p.key.group == k.group && p.key.set == k.set && bytes_eq (bytes_of_party p.key.sender) (bytes_of_party k.sender)

  -- the posting of another key isn't of this one
  not_of : (j : TransactionSetKey) (ps : List AcceptedSet) → j ≡ k → AllByRecursion (λ (q : AcceptedSet). is_same_key j q.key ≡ false) ps → filter (λ (q : AcceptedSet). is_same_key q.key k) ps ≡ []
  not_of j [] same h = refl
  not_of j (q ∷ ps) same h =
      let other : is_same_key q.key k ≡ false = key_flips q.key k ∙ subst (λ i. is_same_key i q.key ≡ false) same h.0 in
      rw (other, not_of j ps same h.1) refl

  one_of_key : (ps : List AcceptedSet) → IsDistinct (λ (p q : AcceptedSet). is_same_key p.key q.key) ps → length (filter (λ (p : AcceptedSet). is_same_key p.key k) ps) ≤ 1
  unfolding IsDistinct
  one_of_key [] h = omega arith
  one_of_key (p ∷ ps) h = elim (cases_Bool (is_same_key p.key k)) [
    | inl yes1 ↦ rw (yes1, not_of p.key ps (same_key p.key k yes1) h.0) (omega arith)
    | inr no1 ↦ rw no1 (one_of_key ps h.1)
  ]

  module _ (two : IsWideParty k.sender) where
    same_test : (p : AcceptedSet) → IsWideParty p.key.sender → asked p ≡ is_same_key p.key k
    same_test p h =
        let i = p.key.icn == k.icn in
        let g = p.key.group == k.group in
        let t = p.key.set == k.set in
        ap (λ (b : Bool). i && g && t && b) (split_eq p.key.sender.qualifier k.sender.qualifier p.key.sender.id k.sender.id (h.0 ∙ sym two.0))
        ∙ turned i g t (is_same_party p.key.sender k.sender)

    same_found : (n : ℕ) (ps : List AcceptedSet) → AllByRecursion (λ q. IsWideParty q.key.sender) ps
        → option_map (λ (x : Placed). x.1) (find (λ (x : Placed). asked x.1) (enumerate_from n ps)) ≡ posted_in ps k
    same_found n [] h = refl
    same_found n (p ∷ ps) h = elim (cases_Bool (is_same_key p.key k)) [
      | inl yes1 ↦ rw (same_test p h.0 ∙ yes1, yes1) refl
      | inr no1 ↦ rw (same_test p h.0 ∙ no1, no1) (same_found (n + 1) ps h.1)
    ]

    same_many : (n : ℕ) (ps : List AcceptedSet) → AllByRecursion (λ q. IsWideParty q.key.sender) ps
        → length (filter (λ (x : Placed). asked x.1) (enumerate_from n ps)) ≡ length (filter (λ (p : AcceptedSet). is_same_key p.key k) ps)
    same_many n [] h = refl
    same_many n (p ∷ ps) h = elim (cases_Bool (is_same_key p.key k)) [
      | inl yes1 ↦ rw (same_test p h.0 ∙ yes1, yes1, same_many (n + 1) ps h.1) refl
      | inr no1 ↦ rw (same_test p h.0 ∙ no1, no1, same_many (n + 1) ps h.1) refl
    ]

    pub finds_posted : (old new : State) (rows : List Row) (next : ℕ) (s : Stored) → IsSound s → HasTables next old.now s
        → Shown posted_text (Int (pos k.icn) ∷ Int (pos k.group) ∷ Int (pos k.set) ∷ Blob (bytes_of_party k.sender) ∷ []) old new rows
        → option_map posting_shown (slice_get rows 0) ≡ posted_in s.postings k
    finds_posted old new rows next s sound has h =
        let p : Placed → Bool = λ x. asked x.1 in
        let places = enumerate_from 1 s.postings in
        let low : length (filter p places) ≤ 1 = omega (arith, same_many 1 s.postings has.postings.parties, one_of_key s.postings sound.posted_once) in
        let exact : rows ≡ option_to_list (option_map shows_placed (find p places)) =
        finds_key posted_text (Int (pos k.icn) ∷ Int (pos k.group) ∷ Int (pos k.set) ∷ Blob (bytes_of_party k.sender) ∷ []) old new has.schema 8 posted_wheres postings_shows postings_names posted_is posting_row places has.postings.are.same p shows_placed
        (λ x. rw (int_test x.1.key.icn k.icn, int_test x.1.key.group k.group, int_test x.1.key.set k.set, blob_test (bytes_of_party x.1.key.sender) (bytes_of_party k.sender)) (grouped (x.1.key.icn == k.icn) (x.1.key.group == k.group) (x.1.key.set == k.set) (bytes_eq (bytes_of_party x.1.key.sender) (bytes_of_party k.sender))))
        (λ x. refl) low rows h in
        ap (λ rs. option_map posting_shown (slice_get rs 0)) exact
        ∙ first_is posting_shown shows_placed (find p places)
        ∙ posting_back p 1 s.postings has.postings.parties
        ∙ same_found 1 s.postings has.postings.parties
