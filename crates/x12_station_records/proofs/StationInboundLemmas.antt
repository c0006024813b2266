-- The look-up of a first arrival.
use Rattle.std.proofs.Common.{◌≡◌, ◌≤◌, ◌==◌, ◌&&◌, ℕ, pos, List, [], ◌∷◌, codes, length, map, filter, find, Bool, true, false, Option, Some, None, option_map, refl, sym, ap, subst, ◌∙◌, inl, inr, arith}
use Rattle.std.specs.List.{AllByRecursion}
use Rattle.std.specs.Option.{option_to_list}
use Rattle.std.specs.Str.{bytes_eq}
use Rattle.std.proofs.lemmas.Bool.{cases_Bool}
use Rattle.std.proofs.lemmas.Bool.Decides.{nat_tests}
use Rattle.sqlite.specs.Command.TheVariants.{Select}
use Rattle.sqlite.specs.Listing.{understood, reads_listing}
use Rattle.sqlite.specs.declared.types.Value.TheVariants.{Int, Blob}
use Rattle.sqlite.specs.Order.{Row}
use Rattle.sqlite.specs.State.{State, Shown}
use Rattle.sqlite.specs.Term.{Term, col}
use Rattle.sqlite.proofs.Callers.{IsPlain, command_of}
use Rattle.sqlite_tied.specs.Compute.{everything}
use Rattle.sql_rows.proofs.Selects.{one_table}
use Rattle.sql_rows.proofs.Tests.{int_test, blob_test}
use Rattle.sql_rows.specs.Query.{IsQuery}
use Rattle.sql_rows.proofs.Queries.{select_asks}
use Rattle.x12_numbers.proofs.Shelf.{found_passes}
use Rattle.x12_envelopes.specs.declared.party.Party.{Party}
use Rattle.x12_inbound.specs.declared.filing.Filed.{Filed}
use Rattle.x12_inbound.specs.Filing.{FiledInterchange, filed_under}
use Rattle.x12_inbound.specs.Order.{interchange}
use Rattle.x12_inbound.specs.Register.{is_under}
use Rattle.x12_judge.specs.Agreement.{is_same_party}
use Rattle.x12_profile.proofs.PartyLemmas.{is_same_party-Decides}
use Rattle.x12_station.specs.Stored.{Stored, StoredArrival, filed_in}
use Rattle.x12_tables.proofs.KeyLemmas.{is}
use Rattle.x12_tables.proofs.PartyLemmas.{split_eq}
use Rattle.x12_tables.specs.Party.{IsWideParty, bytes_of_party}
use Rattle.x12_station_records.proofs.StationAsks.{behind_number, over, finds_one}
use Rattle.x12_station_records.specs.StationFinds.{kept_in, kept_of, FiledOnce, filed_shown}
use Rattle.x12_station_records.specs.StationSchema.{station_schema}
use Rattle.x12_station_records.specs.StationTables.{by_seq, HasTables, arrival_row}

abbrev pub filed_text : List ℕ
filed_text = codes "SELECT bytes, reply FROM inbound WHERE icn = ?1 AND partner = ?2"

abbrev filed_wheres : List Term
filed_wheres = is 3 0 ∷ is 2 1 ∷ []

abbrev filed_shows : List Term
filed_shows = col 1 5 ∷ col 1 4 ∷ []

pub filed_is : (command_of (understood station_schema filed_text) ≡ Select (record { lets = []; body = one_table 6 filed_wheres filed_shows [] }) (codes "bytes" ∷ codes "reply" ∷ [])) × (reads_listing station_schema filed_text ≡ false) × IsPlain (understood station_schema filed_text)
unfolding understood everything
filed_is = (refl, refl, (refl, refl))

pub filed_asks : IsQuery filed_text
unfolding everything
filed_asks = select_asks filed_text ((λ s base. refl), (λ s. refl))

both : (a b : Bool) → a && (b && true) ≡ a && b
both true true = refl
both true false = refl
both false b = refl

turned : (a b : Bool) → a && b ≡ b && a
turned true true = refl
turned true false = refl
turned false true = refl
turned false false = refl

module _ (partner : Party) (icn : ℕ) where
  -- the test that the statement makes
  abbrev asked : StoredArrival → Bool
  asked r = r.filed.icn == icn && bytes_eq (bytes_of_party r.filed.partner) (bytes_of_party partner)

  module _ (two : IsWideParty partner) where
    same_test : (r : StoredArrival) → IsWideParty r.filed.partner → asked r ≡ is_under (interchange partner icn) r.filed
    same_test r has =
        let p = r.filed.partner in
        ap (λ (b : Bool). r.filed.icn == icn && b) (split_eq p.qualifier partner.qualifier p.id partner.id (has.0 ∙ sym two.0)) ∙ turned (r.filed.icn == icn) (is_same_party p partner)

    same_found : (rs : List StoredArrival) → AllByRecursion (λ r. IsWideParty r.filed.partner) rs → option_map (λ (r : StoredArrival). r.filed) (find asked rs) ≡ find (is_under (interchange partner icn)) (map (λ (r : StoredArrival). r.filed) rs)
    same_found [] h = refl
    same_found (r ∷ rs) h = elim (cases_Bool (is_under (interchange partner icn) r.filed)) [
      | inl yes1 ↦ rw (same_test r h.0 ∙ yes1, yes1) refl
      | inr no1 ↦ rw (same_test r h.0 ∙ no1, no1) (same_found rs h.1)
    ]

    same_many : (rs : List StoredArrival) → AllByRecursion (λ r. IsWideParty r.filed.partner) rs → length (filter asked rs) ≡ length (filter (is_under (interchange partner icn)) (map (λ (r : StoredArrival). r.filed) rs))
    same_many [] h = refl
    same_many (r ∷ rs) h = elim (cases_Bool (is_under (interchange partner icn) r.filed)) [
      | inl yes1 ↦ rw (same_test r h.0 ∙ yes1, yes1, same_many rs h.1) refl
      | inr no1 ↦ rw (same_test r h.0 ∙ no1, no1, same_many rs h.1) refl
    ]

    pub finds_filed : (old new : State) (rows : List Row) (next : ℕ) (s : Stored) → FiledOnce s → HasTables next old.now s → Shown filed_text (Int (pos icn) ∷ Blob (bytes_of_party partner) ∷ []) old new rows
        → rows ≡ option_to_list (option_map filed_shown (filed_in s partner icn))
    finds_filed old new rows next s once has h =
        let shown : StoredArrival → Row = λ r. filed_shown r.filed in
        let arrived = behind_number (λ (r : StoredArrival). r.seq) s.arrived in
        let low : length (filter asked s.arrived) ≤ 1 = omega (arith, same_many s.arrived has.arrived.parties, once (interchange partner icn)) in
        finds_one filed_text (Int (pos icn) ∷ Blob (bytes_of_party partner) ∷ []) old new has.schema 6 filed_wheres filed_shows (codes "bytes" ∷ codes "reply" ∷ []) filed_is arrival_row (map by_seq s.arrived) has.arrived.are.same asked shown
        (λ x. rw (int_test x.1.filed.icn icn, blob_test (bytes_of_party x.1.filed.partner) (bytes_of_party partner)) (both (x.1.filed.icn == icn) (bytes_eq (bytes_of_party x.1.filed.partner) (bytes_of_party partner)))) (λ x. refl)
        (subst (λ rs. length (filter asked rs) ≤ 1) (sym arrived) low) rows h
        ∙ ap (λ rs. option_to_list (option_map shown (find asked rs))) arrived
        ∙ ap option_to_list (over filed_shown (λ (r : StoredArrival). r.filed) (find asked s.arrived) ∙ ap (option_map filed_shown) (same_found s.arrived has.arrived.parties))

  -- what was found is filed under them
  under_them : (f : FiledInterchange) → is_under (interchange partner icn) f ≡ true → (f.partner ≡ partner) × (f.icn ≡ icn)
  under_them f h = elim (cases_Bool (is_same_party f.partner partner)) [
    | inl yes1 ↦ ((is_same_party-Decides f.partner partner).0 yes1, (let e = rw yes1 at h in grind (arith, nat_tests, e)))
    | inr no1 ↦ absurd (let e = rw no1 at h in cc)
  ]

  filed_again : (f : Filed) (x : FiledInterchange) → kept_in f ≡ kept_of x → (x.partner ≡ partner) × (x.icn ≡ icn) → filed_under partner icn f ≡ x
  filed_again f x kept under =
      let b : (kept_in f).0 ≡ x.bytes = ap (λ (k : List ℕ × Option (List ℕ)). k.0) kept in
      let r : (kept_in f).1 ≡ x.reply = ap (λ (k : List ℕ × Option (List ℕ)). k.1) kept in
      rw (b, r, sym under.0, sym under.1) refl

  pub told_again : (o : Option Filed) (s : Stored) → option_map kept_in o ≡ option_map kept_of (filed_in s partner icn) → option_map (λ f. filed_under partner icn f) o ≡ filed_in s partner icn
  told_again o s h = by o (filed_in s partner icn) refl h
    where
      by : (o : Option Filed) (t : Option FiledInterchange) → filed_in s partner icn ≡ t → option_map kept_in o ≡ option_map kept_of t → option_map (λ f. filed_under partner icn f) o ≡ t
      by None None is h = refl
      by None (Some x) is h = absurd cc
      by (Some f) None is h = absurd cc
      by (Some f) (Some x) is h =
          let same : kept_in f ≡ kept_of x = cc in
          ap Some (filed_again f x same (under_them x (found_passes (is_under (interchange partner icn)) (map (λ (r : StoredArrival). r.filed) s.arrived) x is).1))
