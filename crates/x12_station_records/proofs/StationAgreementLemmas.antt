-- The table of a station's agreements.
use Rattle.std.proofs.Common.{◌≡◌, ◌<◌, ◌+◌, ◌++◌, ℕ, pos, List, [], ◌∷◌, map, filter, not, Bool, true, false, Ok, refl, sym, ap, ◌∙◌, inl, inr, arith, append-nil, subst, ◌^◌}
use Rattle.std.specs.List.{AllByRecursion}
use Rattle.std.specs.Str.{bytes_eq}
use Rattle.std.proofs.lemmas.Bool.{cases_Bool}
use Rattle.std.proofs.lemmas.Grind.{flat_map-append}
use Rattle.std.proofs.lemmas.List.{map-append}
use Rattle.std.proofs.lemmas.List.Elements.{filter-append}
use Rattle.sqlite.specs.declared.types.Value.TheVariants.{Int, Blob}
use Rattle.sqlite.specs.Effect.{Database}
use Rattle.sqlite.specs.Order.{Row}
use Rattle.sqlite.specs.State.{State, Executes}
use Rattle.sql_rows.proofs.Tests.{blob_test, one_and, cast_int, cast_null}
use Rattle.sql_rows.proofs.Statements.{drops, adds}
use Rattle.x12_envelopes.specs.declared.party.Party.{Party}
use Rattle.x12_judge.specs.Agreement.{TradingAgreement, is_same_party}
use Rattle.x12_station.specs.Station.{of_others}
use Rattle.x12_station.specs.Stored.{Stored}
use Rattle.x12_numbers.proofs.Shelf.{all_filtered, all_and_one}
use Rattle.x12_tables.proofs.KeyLemmas.{is}
use Rattle.x12_tables.proofs.PartyLemmas.{split_eq}
use Rattle.x12_tables.specs.Party.{bytes_of_party, IsWideParty}
use Rattle.x12_station_records.proofs.StationCompile.{withdraw_text, withdraw_is, agree_is, agree_text, agree_terms}
use Rattle.x12_station_records.proofs.StationListLemmas.{behind_filter, but_last, raised, rises_to, behind_all}
use Rattle.x12_station_records.proofs.StationTableLemmas.{agreement_is_free, with_agreements}
use Rattle.x12_station_records.specs.StationChange.{withdrawn, with_pairs}
use Rattle.x12_station_records.specs.StationSchema.{agreement, station_schema}
use Rattle.x12_station_records.specs.StationTables.{AgreedPair, agreed_pairs, pair_of, HasTables, pair_row, IsWidePair, lenient_number}

abbrev pub pair_params : ℕ → AgreedPair → Row
pair_params at p = Int (pos at) ∷ Blob (bytes_of_party p.partner) ∷ Blob p.functional ∷ Int (pos (lenient_number p.lenient)) ∷ Blob p.set ∷ []

module _ (partner : Party) (two : IsWideParty partner) where
  abbrev of : AgreedPair → Bool
  of p = bytes_eq (bytes_of_party p.partner) (bytes_of_party partner)

  theirs_gone : (a : Party) (lenient : Bool) (pairs : List (List ℕ × List ℕ)) → bytes_eq (bytes_of_party a) (bytes_of_party partner) ≡ true → filter (λ p. not (of p)) (map (pair_of a lenient) pairs) ≡ []
  theirs_gone a lenient [] h = refl
  theirs_gone a lenient (p ∷ ps) h = rw (h, theirs_gone a lenient ps h) refl

  others_kept : (a : Party) (lenient : Bool) (pairs : List (List ℕ × List ℕ)) → bytes_eq (bytes_of_party a) (bytes_of_party partner) ≡ false → filter (λ p. not (of p)) (map (pair_of a lenient) pairs) ≡ map (pair_of a lenient) pairs
  others_kept a lenient [] h = refl
  others_kept a lenient (p ∷ ps) h = rw (h, others_kept a lenient ps h) refl

  -- the pairs of other partners are those of the agreements with others
  pub pairs_of_others : (all : List TradingAgreement) → AllByRecursion (λ a. IsWideParty a.partner) all → filter (λ p. not (of p)) (agreed_pairs all) ≡ agreed_pairs (of_others partner all)
  pairs_of_others [] h = refl
  pairs_of_others (a ∷ all) h =
      let same : bytes_eq (bytes_of_party a.partner) (bytes_of_party partner) ≡ is_same_party a.partner partner = split_eq a.partner.qualifier partner.qualifier a.partner.id partner.id (h.0.0 ∙ sym two.0) in
      let parts = filter-append (λ p. not (of p)) (map (pair_of a.partner a.lenient) a.pairs) (agreed_pairs all) in
      elim (cases_Bool (is_same_party a.partner partner)) [
        | inl yes1 ↦ parts ∙ rw (theirs_gone a.partner a.lenient a.pairs (same ∙ yes1), yes1) (pairs_of_others all h.1)
        | inr no1 ↦ parts ∙ rw (others_kept a.partner a.lenient a.pairs (same ∙ no1), no1) (ap (λ more. map (pair_of a.partner a.lenient) a.pairs ++ more) (pairs_of_others all h.1))
      ]

pub pairs_and_last : (all : List TradingAgreement) (a : TradingAgreement) → agreed_pairs (all ++ a ∷ []) ≡ agreed_pairs all ++ map (pair_of a.partner a.lenient) a.pairs
pairs_and_last all a =
    flat_map-append (λ (a : TradingAgreement). map (pair_of a.partner a.lenient) a.pairs) all (a ∷ []) ∙ ap (λ more. agreed_pairs all ++ more) (append-nil (map (pair_of a.partner a.lenient) a.pairs))

append_on : (xs ys zs : List AgreedPair) → (xs ++ ys) ++ zs ≡ xs ++ (ys ++ zs)
append_on [] ys zs = refl
append_on (x ∷ xs) ys zs = ap (λ more. x ∷ more) (append_on xs ys zs)

-- a pair more is one of the last agreement's
one_more : (all : List TradingAgreement) (a : TradingAgreement) (pairs : List (List ℕ × List ℕ)) (p : List ℕ × List ℕ)
    → agreed_pairs (all ++ record a { pairs = pairs } ∷ []) ++ pair_of a.partner a.lenient p ∷ [] ≡ agreed_pairs (all ++ record a { pairs = pairs ++ p ∷ [] } ∷ [])
one_more all a pairs p =
    ap (λ xs. xs ++ pair_of a.partner a.lenient p ∷ []) (pairs_and_last all (record a { pairs = pairs }))
    ∙ append_on (agreed_pairs all) (map (pair_of a.partner a.lenient) pairs) (pair_of a.partner a.lenient p ∷ [])
    ∙ ap (λ xs. agreed_pairs all ++ xs) (sym (map-append (pair_of a.partner a.lenient) pairs (p ∷ [])))
    ∙ sym (pairs_and_last all (record a { pairs = pairs ++ p ∷ [] }))

pub withdraws : (old new : State) (partner : Party) (count next : ℕ) (s : Stored) → IsWideParty partner → HasTables next old.now s → Executes withdraw_text (Blob (bytes_of_party partner) ∷ []) old new (Ok count)
    → HasTables next new.now (withdrawn partner s)
withdraws old new partner count next s two has h =
    let params : Row = Blob (bytes_of_party partner) ∷ [] in
    let holds = has.agreements in
    let of : AgreedPair → Bool = λ p. bytes_eq (bytes_of_party p.partner) (bytes_of_party partner) in
    let is_of : ℕ × AgreedPair → Bool = λ x. bytes_eq (bytes_of_party x.1.partner) (bytes_of_party partner) in
    let did = drops withdraw_text params old new station_schema has.schema 1 (agreement 1) refl agreement_is_free withdraw_is.1 (λ db. refl) pair_row holds.at holds.are
    (is 2 0 ∷ []) is_of (λ x. rw (blob_test (bytes_of_party x.1.partner) (bytes_of_party partner)) (one_and (bytes_eq (bytes_of_party x.1.partner) (bytes_of_party partner)))) withdraw_is.0 count h in
    with_agreements next s old new has did.1 next (of_others partner s.agreements) (record {
      at = filter (λ (x : ℕ × AgreedPair). not (of x.1)) holds.at;
      are = did.0;
      counted = holds.counted;
      few = holds.few;
      within = all_filtered (λ x. x.0 < next) (λ (x : ℕ × AgreedPair). not (of x.1)) holds.at holds.within;
      pairs_are = behind_filter (λ p. not (of p)) holds.at ∙ ap (filter (λ p. not (of p))) holds.pairs_are ∙ pairs_of_others partner two s.agreements holds.parties;
      parties = all_filtered (λ a. IsWideParty a.partner) (λ a. not (is_same_party a.partner partner)) s.agreements holds.parties;
      wide = subst (AllByRecursion IsWidePair) (pairs_of_others partner two s.agreements holds.parties) (all_filtered IsWidePair (λ p. not (of p)) (agreed_pairs s.agreements) holds.wide);
    })

pub agrees : (old new : State) (a : TradingAgreement) (pairs : List (List ℕ × List ℕ)) (p : List ℕ × List ℕ) (at count : ℕ) (s : Stored) → IsWidePair (pair_of a.partner a.lenient p) → at < 2 ^ 63 → HasTables at old.now (with_pairs a pairs s)
    → Executes agree_text (pair_params at (pair_of a.partner a.lenient p)) old new (Ok count) → HasTables (at + 1) new.now (with_pairs a (pairs ++ p ∷ []) s)
agrees old new a pairs p at count s wide few has h =
    let params : Row = pair_params at (pair_of a.partner a.lenient p) in
    let x : ℕ × AgreedPair = (at, pair_of a.partner a.lenient p) in
    let holds = has.agreements in
    let parties = but_last (λ a. IsWideParty a.partner) s.agreements (record a { pairs = pairs }) holds.parties in
    let did = adds agree_text params old new station_schema has.schema 1 (agreement 1) refl agreement_is_free agree_is.1 (λ db. refl) pair_row holds.at holds.are
    agree_terms 6 x (holds.at ++ x ∷ []) refl refl (rw (cast_int at, cast_null, cast_int (lenient_number a.lenient)) refl) agree_is.0 count h (behind_all x holds.at) (rises_to 0 at holds.at x holds.counted (omega arith) holds.are.rise holds.within) in
    with_agreements at (with_pairs a pairs s) old new has did.1 (at + 1) (s.agreements ++ record a { pairs = pairs ++ p ∷ [] } ∷ []) (record {
      at = holds.at ++ x ∷ [];
      are = did.0;
      counted = omega arith;
      few = omega (arith, few);
      within = all_and_one (λ x. x.0 < at + 1) holds.at x (raised at (at + 1) holds.at (omega arith) holds.within) (omega arith);
      pairs_are = map-append (λ (x : ℕ × AgreedPair). x.1) holds.at (x ∷ []) ∙ ap (λ ps. ps ++ pair_of a.partner a.lenient p ∷ []) holds.pairs_are ∙ one_more s.agreements a pairs p;
      parties = all_and_one (λ a. IsWideParty a.partner) s.agreements (record a { pairs = pairs ++ p ∷ [] }) parties.0 parties.1;
      wide = subst (AllByRecursion IsWidePair) (one_more s.agreements a pairs p) (all_and_one IsWidePair (agreed_pairs (s.agreements ++ record a { pairs = pairs } ∷ [])) (pair_of a.partner a.lenient p) holds.wide wide);
    })

-- an agreement with no pair yet has no row
pub begun : (db : Database) (a : TradingAgreement) (next : ℕ) (s : Stored) → IsWideParty a.partner → HasTables next db s → HasTables next db (with_pairs a [] s)
begun db a next s two has = record {
  schema = has.schema;
  numbers = has.numbers;
  agreements = record {
    at = has.agreements.at;
    are = has.agreements.are;
    counted = has.agreements.counted;
    few = has.agreements.few;
    within = has.agreements.within;
    pairs_are = has.agreements.pairs_are ∙ sym (pairs_and_last s.agreements (record a { pairs = [] }) ∙ append-nil (agreed_pairs s.agreements));
    parties = all_and_one (λ a. IsWideParty a.partner) s.agreements (record a { pairs = [] }) has.agreements.parties two;
    wide = subst (AllByRecursion IsWidePair) (sym (pairs_and_last s.agreements (record a { pairs = [] }) ∙ append-nil (agreed_pairs s.agreements))) has.agreements.wide;
  };
  submitted = has.submitted;
  sets = has.sets;
  wide = has.wide;
  arrived = has.arrived;
  postings = has.postings;
}
