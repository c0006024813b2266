-- Tables that were tested hold sound records.
use Rattle.std.proofs.Common.{◌≡◌, ◌∙◌, ◌+◌, ℕ, List, Option, [], ◌∷◌, length, map, false, refl, sym, ap, ap₂, subst, Result, Ok, Err, IsTrue, IfOk}
use Rattle.std.specs.Prelude.{cond, is_none}
use Rattle.std.specs.List.{count_by}
use Rattle.std.proofs.lemmas.List.{length-map}
use Rattle.std.proofs.lemmas.List.Sums.{sum_by-cons}
use Rattle.sqlite.specs.Effect.{Database}
use Rattle.sqlite.specs.State.{State, HasCleanDisk}
use Rattle.x12_envelopes.specs.declared.party.Party.{Party}
use Rattle.x12_hub.specs.Hub.{Decision, HubOutcome, Boxed, Refused}
use Rattle.x12_hub.specs.Stored.{IsSoundHub, is_refusal, count_of_refusals}
use Rattle.x12_tables.specs.Adopt.{Finds}
use Rattle.x12_hub_records.proofs.ContentLemmas.{numbers_are}
use Rattle.x12_hub_records.proofs.WaitsLemmas.{all_wait_so}
use Rattle.x12_hub_records.specs.HubAdopt.{boxed_for, node_boxed, FindsWaiting, FindsDecided, FindsItems, FindsOwnHub, FindsEntries, FindsHubRecords}
use Rattle.x12_hub_records.specs.HubContent.{hub_content_of, IsValidHub}
use Rattle.x12_hub_records.specs.HubTables.{hub_numbers_of, HoldsHubNumbers, HasHubTables}
use Rattle.x12_hub_records.specs.declared.hub_numbers.HubNumbers.{HubNumbers}

-- a decision refuses where it boxes for no node
pub refusals_are : (ds : List Decision) → count_by is_none (map boxed_for ds) ≡ count_of_refusals ds
refusals_are [] = refl
refusals_are (d ∷ ds) =
    sum_by-cons (λ (o : Option ℕ). cond (is_none o) 1 0) (boxed_for d) (map boxed_for ds)
    ∙ ap₂ (λ (k n : ℕ). k + n) (one d.outcome) (refusals_are ds)
    ∙ sym (sum_by-cons (λ (x : Decision). cond (is_refusal x.outcome) 1 0) d ds)
  where
    one : (o : HubOutcome) → cond {A = ℕ} (is_none (node_boxed o)) 1 0 ≡ cond {A = ℕ} (is_refusal o) 1 0
    one (Boxed node item) = refl
    one (Refused reply) = refl

pub items_found : (db : Database) (n : HubNumbers) (nodes : List (Option ℕ)) → FindsDecided db nodes → length nodes ≡ n.item → count_by is_none nodes ≡ n.icn → FindsWaiting nodes db → FindsItems n db
items_found db n nodes d many few w = record {
  decided = d.rows;
  boxed = d.wide;
  once = d.once;
  numbered = d.numbered;
  count = sym many ∙ ap length (sym d.boxed) ∙ length-map (hub_content_of db.trees).decisions boxed_for;
  refused = sym few ∙ ap (count_by is_none) (sym d.boxed) ∙ refusals_are (hub_content_of db.trees).decisions;
  waiting = w.rows;
  waits = all_wait_so (hub_content_of db.trees).decisions nodes (hub_content_of db.trees).waiting d.numbered d.boxed w.boxed_so;
  rising = w.rising;
}

pub records_found : (db : Database) (party : Party) (n : HubNumbers) (last : ℕ) → FindsOwnHub party db n → FindsItems n db → FindsEntries db last → FindsHubRecords party db last
records_found db party n last own items entries =
    let said : hub_numbers_of (hub_content_of db.trees) ≡ n = numbers_are n (db.trees 5) own.0.holds in
    record {
      holds = record {
        schema = own.0.schema_is;
        directory = entries;
        decisions = items.decided;
        boxed = items.boxed;
        waiting = items.waiting;
        numbers = subst (λ k. HoldsHubNumbers k (db.trees 5)) (sym said) own.0.holds;
      };
      sound = record { once = items.once; count = ap (λ (k : HubNumbers). k.item) said ∙ items.count; refused = ap (λ (k : HubNumbers). k.icn) said ∙ items.refused; numbered = items.numbered; waits = items.waits; rising = items.rising };
      party = ap (λ (k : HubNumbers). k.party) said ∙ own.1;
    }

valid_found : {E : Type 0} (party : Party) (last : ℕ) (old new : State) → Finds {E = E} (FindsHubRecords party) (Ok last) old new → old.in_transaction ≡ false → (IsTrue old.is_open → old.now ≡ old.committed)
    → (IsTrue new.is_open → HasCleanDisk new) → IsValidHub last new
valid_found party last old new h outside settled law = record {
  outside = h.mode outside;
  settled = λ o. let k = h.stays (law o) in let was = settled (k.was_open o) in k.now was o ∙ was ∙ sym (k.committed o);
  holds = λ o. let f = h.found (law o) in subst (λ d. HasHubTables last d (hub_content_of d.trees)) (sym f.1.0.now_is) f.0.holds;
  sound = λ o. let f = h.found (law o) in subst (λ (d : Database). IsSoundHub (hub_content_of d.trees)) (sym f.1.0.now_is) f.0.sound;
}

pub valid_if_found : {E : Type 0} (party : Party) (r : Result ℕ E) (old new : State) → Finds (FindsHubRecords party) r old new → old.in_transaction ≡ false → (IsTrue old.is_open → old.now ≡ old.committed)
    → (IsTrue new.is_open → HasCleanDisk new) → IfOk r (λ last. IsValidHub last new)
valid_if_found party (Ok last) old new h outside settled law = valid_found party last old new h outside settled law
valid_if_found party (Err e) old new h outside settled law = tt
