-- Agreements that are kept are put together from their pairs.
use Rattle.std.proofs.Common.{pos, ◌≡◌, ◌<◌, ◌∙◌, ◌++◌, ℕ, suc, get_or, length, arith, true, false, Bool, List, [], ◌∷◌, map, take, drop, Result, Ok, Err, refl, sym, ap, subst, inl, inr, append-nil}
use Rattle.std.specs.List.{AllByRecursion, IsDistinct, list_any}
use Rattle.std.proofs.lemmas.Bool.{cases_Bool}
use Rattle.std.proofs.lemmas.List.{append_assoc, map-append, take-append-drop}
use Rattle.std.proofs.lemmas.List.Elements.{All-from_recursion, recursion_from_All}
use Rattle.sqlite.specs.declared.types.Value.{Value}
use Rattle.sqlite.specs.declared.types.Value.TheVariants.{Int}
use Rattle.sqlite.specs.Order.{Row, column}
use Rattle.sql_rows.specs.Keyed.{number_in}
use Rattle.x12_judge.specs.declared.agreement.Agreement.{Agreement}
use Rattle.x12_envelopes.specs.declared.party.Party.{Party}
use Rattle.x12_judge.specs.Agreement.{TradingAgreement, agreement_view, is_same_party}
use Rattle.x12_station.specs.Stored.{IsKeptAgreement}
use Rattle.x12_tables.specs.Adopt.{TakesRows}
use Rattle.x12_tables.specs.Party.{bytes_in, party_in}
use Rattle.x12_station_records.proofs.StationAgreedLemmas.{is_like, Same, distinct_front, pair_behind, behind_of, pair_starts, pushed_view, pair_joins, pair_begins}
use Rattle.x12_station_records.proofs.StationGroupLemmas.{left_next}
use Rattle.x12_station_records.proofs.StationListLemmas.{but_last}
use Rattle.x12_station_records.proofs.StationOnceLemmas.{turned}
use Rattle.x12_station_records.specs.StationAdopt.{ArePairs}
use Rattle.x12_station_records.specs.StationAgreed.{of_one_pair, AreKept, with_pair, pair_shown}
use Rattle.x12_station_records.specs.StationContent.{agreements_of, lenient_numbered}
use Rattle.x12_station_records.specs.StationPart.{is_same_pair}
use Rattle.x12_station_records.specs.StationTables.{AgreedPair, pair_of}

-- an error over what is such is want of memory, and so over what is more
pub takes_more : {A E : Type 0} (P Q : Type 0) (memory : E) (r : Result A E) → (Q → P) → TakesRows P memory r → TakesRows Q memory r
takes_more P Q memory (Ok x) on told = tt
takes_more P Q memory (Err e) on told = λ such. told (on such)

none_among : {X : Type 0} (p q : X → Bool) (xs : List X) → ((x : X) → q x ≡ p x) → AllByRecursion (λ x. q x ≡ false) xs → list_any p xs ≡ true → ⊥
none_among p q [] same none some = absurd cc
none_among p q (x ∷ xs) same none some = elim (cases_Bool (p x)) [
  | inl yes1 ↦ (let off = sym (none.0) ∙ same x ∙ yes1 in absurd cc)
  | inr no1 ↦ none_among p q xs same none.1 (rw no1 at some)
]

-- an agreement that is kept isn't there already
pub never_started : (partner : Party) (lenient : Bool) (pair : List ℕ × List ℕ) (old : List TradingAgreement) → list_any (λ a. is_same_party a.partner partner) old ≡ true → ¬ AreKept (old ++ of_one_pair partner lenient pair ∷ [])
never_started partner lenient pair old some kept =
    none_among (λ (a : TradingAgreement). is_same_party a.partner partner) (λ (a : TradingAgreement). is_same_party a.partner partner) old (λ a. refl) (distinct_front Same old (of_one_pair partner lenient pair) kept.agreed_once).1 some

-- nor is a pair that is kept
pub never_joined : (front : List TradingAgreement) (a : TradingAgreement) (pair : List ℕ × List ℕ) → list_any (is_same_pair pair) a.pairs ≡ true → ¬ AreKept (front ++ with_pair a pair ∷ [])
never_joined front a pair some kept =
    let last = (but_last IsKeptAgreement front (with_pair a pair) (recursion_from_All IsKeptAgreement (front ++ with_pair a pair ∷ []) kept.agreed)).1 in
    none_among (is_same_pair pair) (λ (q : List ℕ × List ℕ). is_same_pair q pair) a.pairs (λ q. turned pair q) (distinct_front is_same_pair a.pairs pair last.once).1 some

-- what holds of each partner, with a pair behind it, holds without
but_pair : (Q : Party → Type 0) (p : AgreedPair) (agreements : List TradingAgreement) → AllByRecursion (λ a. Q a.partner) (pair_behind p agreements) → AllByRecursion (λ a. Q a.partner) agreements
but_pair Q p [] all = tt
but_pair Q p (a ∷ []) all = elim (cases_Bool (is_like a p.partner p.lenient)) [ inl yes1 ↦ ((rw yes1 at all).0, tt) | inr no1 ↦ ((rw no1 at all).0, tt) ]
but_pair Q p (a ∷ b ∷ more) all = (all.0, but_pair Q p (b ∷ more) all.1)

-- each agreement has a pair
abbrev HavePairs : List TradingAgreement → Type 0
HavePairs agreements = AllByRecursion (λ a. a.pairs ≡ [] → ⊥) agreements

record KeptByRecursion (agreements : List TradingAgreement) : Type 0 where
  once : IsDistinct Same agreements
  each : AllByRecursion IsKeptAgreement agreements

behind_kept : (p : AgreedPair) (agreements : List TradingAgreement) → HavePairs agreements → KeptByRecursion (pair_behind p agreements) → KeptByRecursion agreements
unfolding IsDistinct
behind_kept p [] have kept = record { once = tt; each = tt }
behind_kept p (a ∷ []) have kept = elim (cases_Bool (is_like a p.partner p.lenient)) [
  | inl yes1 ↦ (
      let joined = rw yes1 at kept in
      record { once = (tt, tt); each = (record { pairs = have.0; once = (distinct_front is_same_pair a.pairs (p.functional, p.set) joined.each.0.once).0 }, tt) }
      )
  | inr no1 ↦ (let started = rw no1 at kept in record { once = (tt, tt); each = (started.each.0, tt) })
]
behind_kept p (a ∷ b ∷ more) have kept =
    let rest = behind_kept p (b ∷ more) have.1 (record { once = kept.once.1; each = kept.each.1 }) in
    record { once = (but_pair (λ partner. is_same_party a.partner partner ≡ false) p (b ∷ more) kept.once.0, rest.once); each = (kept.each.0, rest.each) }

joined_have : (p : AgreedPair) (agreements : List TradingAgreement) → HavePairs agreements → HavePairs (pair_behind p agreements)
joined_have p [] have = (λ none. absurd cc, tt)
joined_have p (a ∷ []) have = elim (cases_Bool (is_like a p.partner p.lenient)) [
  | inl yes1 ↦ rw yes1 ((λ none. never_none a.pairs (p.functional, p.set) none), tt)
  | inr no1 ↦ rw no1 (have.0, ((λ none. absurd cc), tt))
]
  where
    never_none : {X : Type 0} (xs : List X) (x : X) → xs ++ x ∷ [] ≡ [] → ⊥
    never_none [] x h = absurd cc
    never_none (y ∷ ys) x h = absurd cc
joined_have p (a ∷ b ∷ more) have = (have.0, joined_have p (b ∷ more) have.1)

have_pairs : (done ps : List AgreedPair) → HavePairs (agreements_of done) → HavePairs (agreements_of (done ++ ps))
have_pairs done [] have = subst (λ qs. HavePairs (agreements_of qs)) (sym (append-nil done)) have
have_pairs done (p ∷ ps) have =
    let next = subst HavePairs (sym (behind_of done p)) (joined_have p (agreements_of done) have) in
    subst (λ qs. HavePairs (agreements_of qs)) (append_assoc done (p ∷ []) ps) (have_pairs (done ++ p ∷ []) ps next)

front_kept : (done ps : List AgreedPair) → KeptByRecursion (agreements_of (done ++ ps)) → KeptByRecursion (agreements_of done)
front_kept done [] kept = subst (λ qs. KeptByRecursion (agreements_of qs)) (append-nil done) kept
front_kept done (p ∷ ps) kept =
    let more = subst (λ qs. KeptByRecursion (agreements_of qs)) (sym (append_assoc done (p ∷ []) ps)) kept in
    behind_kept p (agreements_of done) (have_pairs [] done tt) (subst KeptByRecursion (behind_of done p) (front_kept (done ++ p ∷ []) ps more))

-- the agreements of the first pairs are kept where those of all are
pub kept_so_far : (done ps : List AgreedPair) → AreKept (agreements_of (done ++ ps)) → AreKept (agreements_of done)
kept_so_far done ps kept =
    let f = front_kept done ps (record { once = kept.agreed_once; each = recursion_from_All IsKeptAgreement (agreements_of (done ++ ps)) kept.agreed }) in
    record { agreed_once = f.once; agreed = All-from_recursion IsKeptAgreement (agreements_of done) f.each }

module _ (old front : List Agreement) (partner : Party) (lenient : Bool) (pair : List ℕ × List ℕ) (ps : List AgreedPair) (stood : map agreement_view old ≡ agreements_of ps) (kept : AreKept (agreements_of (ps ++ pair_of partner lenient pair ∷ []))) where
  pub first_taken : length old ≡ 0 → old ≡ front ++ [] → AreKept (map agreement_view front ++ of_one_pair partner lenient pair ∷ [])
  first_taken none split =
      let empty : old ≡ [] = nothing old none in
      let too : front ≡ [] = sym (append-nil front) ∙ sym split ∙ empty in
      let same = pair_begins (map agreement_view old) (of_one_pair partner lenient pair ∷ []) partner lenient pair ps stood (ap (map agreement_view) empty) refl in
      subst (λ xs. AreKept (map agreement_view xs ++ of_one_pair partner lenient pair ∷ [])) (sym too) (subst AreKept (sym same) kept)
    where
      nothing : (xs : List Agreement) → length xs ≡ 0 → xs ≡ []
      nothing [] h = refl
      nothing (x ∷ xs) h = absurd (omega (arith, h))

  module _ (last : Agreement) (split : old ≡ front ++ last ∷ []) where
    pub joined_taken : is_like (agreement_view last) partner lenient ≡ true → AreKept (map agreement_view front ++ with_pair (agreement_view last) pair ∷ [])
    joined_taken h =
        subst AreKept (sym (pair_joins (map agreement_view old) (map agreement_view front) (map agreement_view front ++ with_pair (agreement_view last) pair ∷ []) (agreement_view last) partner lenient pair ps stood (pushed_view front old last split) h refl)) kept

    pub started_taken : (back : List Agreement) → back ≡ front ++ last ∷ [] → is_like (agreement_view last) partner lenient ≡ false → AreKept (map agreement_view back ++ of_one_pair partner lenient pair ∷ [])
    started_taken back is h =
        let same = pair_starts (map agreement_view old) (map agreement_view front) ((map agreement_view front ++ agreement_view last ∷ []) ++ of_one_pair partner lenient pair ∷ []) (agreement_view last) partner lenient pair ps stood (pushed_view front old last split) h refl in
        subst (λ xs. AreKept (xs ++ of_one_pair partner lenient pair ∷ [])) (sym (pushed_view front back last is)) (subst AreKept (sym same) kept)

-- the pairs so far, and one more, are those of agreements that are kept
pub one_more_kept : (rows : List Row) (i : ℕ) (d row : Row) (partner : Party) (lenient : Bool) (pair : List ℕ × List ℕ) → i < length rows → get_or rows i d ≡ row → partner ≡ party_in (bytes_in (column row 0)) → pair.0 ≡ bytes_in (column row 1) → pair.1 ≡ bytes_in (column row 2) → lenient ≡ lenient_numbered (number_in (column row 3))
    → AreKept (agreements_of (map pair_shown rows)) → AreKept (agreements_of (map pair_shown (take i rows) ++ pair_of partner lenient pair ∷ []))
one_more_kept rows i d row partner lenient pair low is a b c d1 kept =
    let shown : pair_shown row ≡ pair_of partner lenient pair = rw (a, b, c, d1) refl in
    let split : map pair_shown rows ≡ (map pair_shown (take i rows) ++ pair_shown row ∷ []) ++ map pair_shown (drop (suc i) rows) =
    ap (map pair_shown) (sym (take-append-drop i rows)) ∙ map-append pair_shown (take i rows) (drop i rows) ∙ ap (λ rs. map pair_shown (take i rows) ++ map pair_shown rs) (left_next i rows d row low is)
    ∙ sym (append_assoc (map pair_shown (take i rows)) (pair_shown row ∷ []) (map pair_shown (drop (suc i) rows))) in
    subst (λ p. AreKept (agreements_of (map pair_shown (take i rows) ++ p ∷ []))) shown (kept_so_far (map pair_shown (take i rows) ++ pair_shown row ∷ []) (map pair_shown (drop (suc i) rows)) (subst (λ ps. AreKept (agreements_of ps)) split kept))

number_same : (a b : ℕ) → ◌≡◌ {A = Value} (Int (pos a)) (Int (pos b)) → a ≡ b
number_same a b same = cc

-- the pairs' numbers end with one number
pub one_end : (last a b : ℕ) (rows : List Row) → ArePairs last a rows → ArePairs last b rows → a ≡ b
one_end last a b [] p q = sym p ∙ q
one_end last a b (r ∷ rows) p q =
    let same : p.0 ≡ q.0 = number_same p.0 q.0 (sym p.1.at_is ∙ q.1.at_is) in
    one_end p.0 a b rows p.2 (subst (λ n. ArePairs n b rows) (sym same) q.2)
