-- The pairs of an agreement, each once, one after the other.
use Rattle.std.proofs.Common.{◌≡◌, ◌∙◌, ◌+◌, ◌++◌, ℕ, true, false, not, List, [], ◌∷◌, filter, refl, sym, ap, subst, inl, inr, append-nil}
use Rattle.std.specs.Str.{bytes_eq}
use Rattle.std.specs.List.{list_any, AllByRecursion}
use Rattle.std.proofs.lemmas.Bool.{cases_Bool}
use Rattle.std.proofs.lemmas.List.Elements.{filter-append}
use Rattle.sqlite.specs.Effect.{Database}
use Rattle.sqlite.specs.State.{State}
use Rattle.x12_judge.specs.Agreement.{TradingAgreement}
use Rattle.x12_station.specs.Station.{each_once}
use Rattle.x12_station.specs.Stored.{Stored}
use Rattle.x12_numbers.proofs.Shelf.{bytes_eq_tells}
use Rattle.x12_tables.specs.Change.{Always}
use Rattle.x12_tables.specs.Party.{IsWideParty}
use Rattle.x12_station_records.proofs.StationAgreementLemmas.{pairs_and_last, begun}
use Rattle.x12_station_records.proofs.StationListLemmas.{but_last}
use Rattle.x12_station_records.specs.StationChange.{Enters, with_pairs, withdrawn, Turns}
use Rattle.x12_station_records.specs.StationPart.{is_same_pair, AddsPair, AddsPairs, AgreesAll}
use Rattle.x12_station_records.specs.StationTables.{HasTables, agreed_pairs, IsWidePair}

abbrev Pair : Type 0
Pair = List ℕ × List ℕ

bytes_turned : (a b : List ℕ) → bytes_eq a b ≡ bytes_eq b a
bytes_turned a b = elim (bytes_eq_tells a b) [
  | inl e ↦ elim (bytes_eq_tells b a) [ inl f ↦ e.0 ∙ sym f.0 | inr f ↦ absurd (f.1 (sym e.1)) ]
  | inr e ↦ elim (bytes_eq_tells b a) [ inl f ↦ absurd (e.1 (sym f.1)) | inr f ↦ e.0 ∙ sym f.0 ]
]

pub turned : (k x : Pair) → is_same_pair x k ≡ is_same_pair k x
turned k x = rw (bytes_turned x.0 k.0, bytes_turned x.1 k.1) refl

-- another one stands behind the others
pub once_new : (ps : List Pair) (k : Pair) → list_any (is_same_pair k) ps ≡ false → each_once (ps ++ k ∷ []) ≡ each_once ps ++ k ∷ []
once_new [] k h = refl
once_new (x ∷ ps) k h = elim (cases_Bool (is_same_pair k x)) [
  | inl yes1 ↦ absurd (let e = rw yes1 at h in cc)
  | inr no1 ↦ (let rest : list_any (is_same_pair k) ps ≡ false = rw no1 at h in
      ap (λ qs. x ∷ qs) (ap (filter (λ r. not (is_same_pair x r))) (once_new ps k rest) ∙ filter-append (λ r. not (is_same_pair x r)) (each_once ps) (k ∷ []) ∙ rw (turned k x, no1) refl))
]

-- a pair that stands there already is nothing more
pub once_there : (ps : List Pair) (k : Pair) → list_any (is_same_pair k) ps ≡ true → each_once (ps ++ k ∷ []) ≡ each_once ps
once_there [] k h = absurd cc
once_there (x ∷ ps) k h = elim (cases_Bool (list_any (is_same_pair k) ps)) [
  | inl yes1 ↦ ap (λ qs. x ∷ filter (λ r. not (is_same_pair x r)) qs) (once_there ps k yes1)
  | inr no1 ↦ elim (cases_Bool (is_same_pair k x)) [
    | inl yes2 ↦ ap (λ qs. x ∷ qs) (ap (filter (λ r. not (is_same_pair x r))) (once_new ps k no1) ∙ filter-append (λ r. not (is_same_pair x r)) (each_once ps) (k ∷ []) ∙ rw (turned k x, yes2) (append-nil (filter (λ r. not (is_same_pair x r)) (each_once ps))))
    | inr no2 ↦ absurd (let e = rw (no2, no1) at h in cc)
  ]
]

module _ (a b : State) (g : TradingAgreement) (before : List Pair) (k : Pair) (from : ℕ) where
  pub pair_there : list_any (is_same_pair k) before ≡ true → AddsPair g before k from from a a
  pair_there h s has = subst (λ ps. HasTables from a.now (with_pairs g ps s)) (sym (once_there before k h)) has

  pub pair_new : list_any (is_same_pair k) before ≡ false → Enters from (with_pairs g (each_once before)) (with_pairs g (each_once before ++ k ∷ [])) a b → AddsPair g before k from (from + 1) a b
  pair_new h enters s has = subst (λ ps. HasTables (from + 1) b.now (with_pairs g ps s)) (sym (once_new before k h)) (enters s has)

pub and_pair : (a b c : State) (g : TradingAgreement) (before : List Pair) (k : Pair) (from mid to : ℕ) → AddsPairs g from before mid a b → AddsPair g before k mid to b c → AddsPairs g from (before ++ k ∷ []) to a c
and_pair a b c g before k from mid to first second s has = second s (first s has)

-- an agreement of no pair has no row
without_last : (db : Database) (g : TradingAgreement) (next : ℕ) (s : Stored) → HasTables next db (with_pairs g [] s) → HasTables next db s
without_last db g next s has = record {
  schema = has.schema;
  numbers = has.numbers;
  agreements = record {
    at = has.agreements.at;
    are = has.agreements.are;
    counted = has.agreements.counted;
    few = has.agreements.few;
    within = has.agreements.within;
    pairs_are = has.agreements.pairs_are ∙ pairs_and_last s.agreements (record g { pairs = [] }) ∙ append-nil (agreed_pairs s.agreements);
    parties = (but_last (λ a. IsWideParty a.partner) s.agreements (record g { pairs = [] }) has.agreements.parties).0;
    wide = subst (AllByRecursion IsWidePair) (pairs_and_last s.agreements (record g { pairs = [] }) ∙ append-nil (agreed_pairs s.agreements)) has.agreements.wide;
  };
  submitted = has.submitted;
  sets = has.sets;
  wide = has.wide;
  arrived = has.arrived;
  postings = has.postings;
}

pub agrees_all : (a b c : State) (g : TradingAgreement) (pairs : List Pair) (from to : ℕ) → IsWideParty g.partner → Turns (withdrawn g.partner) Always a b → AddsPairs g from pairs to b c → AgreesAll (record g { pairs = pairs }) from to a c
agrees_all a b c g [] from to two first second s has = without_last c.now g to (withdrawn g.partner s) (second (withdrawn g.partner s) (begun b.now g from (withdrawn g.partner s) two (first from s tt has)))
agrees_all a b c g (p ∷ ps) from to two first second s has = second (withdrawn g.partner s) (begun b.now g from (withdrawn g.partner s) two (first from s tt has))
