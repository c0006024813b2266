-- Each step of a hub keeps its decisions, and decides once.
use Rattle.std.specs.Prelude.{◌≡◌, ℕ, ◌+◌, List, [], ◌∷◌, ◌++◌, Bool, true, false, length, Option, Some, None, refl, nat_le, if◌then◌else◌, ◌==◌, filter, not}
use Rattle.std.specs.List.{list_any}
use mathlib.Core.Path.{sym, ap, subst, ◌∙◌}
use native.Mathlib.Omega.{arith}
use Rattle.std.proofs.lemmas.List.{length-append}
use Rattle.x12_numbers.specs.declared.book.TheConstants.{MAX_CONTROL_NUMBER}
use Rattle.x12_envelopes.specs.declared.moment.Moment.{Moment}
use Rattle.x12_profile.specs.Interchange.{Bytes}
use Rattle.x12_profile.specs.Profile.{Profile}
use Rattle.x12_hub.specs.Hub.{Hub, HubStep, Decision, HubOutcome, Boxed, Refused, decided, decides, deposit, deposit_at, deposit_new, deposit_again, taken, collect, mailbox_of, waits, refuse}
use Rattle.x12_hub.specs.DecidesOnce.{AreOnce, IsCounted, StaysDecided, HubDecidesOnce}
use Rattle.x12_hub.proofs.DecisionLemmas.{decided_pushed, decided_stays, once_pushed}
use Rattle.x12_numbers.proofs.Shelf.{if_some_parts, some_inj}

-- what a deposit of b does to what the hub decided: nothing, or b is decided for the first time
record Deposits (h : Hub) (b : Bytes) (step : HubStep) : Type 0 where
  pub counted : IsCounted h → IsCounted step.hub
  pub stays : StaysDecided h step.hub
  pub answers : decided step.hub.decisions b ≡ Some step.outcome

again : (h : Hub) (b : Bytes) (o : HubOutcome) → decided h.decisions b ≡ Some o → Deposits h b (deposit_again h o)
again h b (Boxed node item) e = record { counted = λ is. record { once = is.once; count = is.count }; stays = λ c was found. found; answers = e }
again h b (Refused reply) e = record { counted = λ is. is; stays = λ c was found. found; answers = e }

pub counts : (ds : List Decision) (d : Decision) (n : ℕ) → n ≡ length ds → n + 1 ≡ length (ds ++ d ∷ [])
counts ds d n e = let more = length-append ds (d ∷ []) in omega arith

module _ (h : Hub) (b : Bytes) (none : decided h.decisions b ≡ None) where
  first : (step : HubStep) (decisions : step.hub.decisions ≡ (decides h b step.outcome).decisions) (item : step.hub.item ≡ h.item + 1) → Deposits h b step
  first step decisions item = record {
    counted = λ is. record {
      once = subst AreOnce (sym decisions) (once_pushed h.decisions b step.outcome is.once none);
      count = item ∙ counts h.decisions (record { body = b; outcome = step.outcome }) h.item is.count ∙ ap length (sym decisions);
    };
    stays = λ c was found. subst (λ ds. decided ds c ≡ Some was) (sym decisions) (decided_stays h.decisions b step.outcome c was found);
    answers = subst (λ ds. decided ds b ≡ Some step.outcome) (sym decisions) (decided_pushed h.decisions b step.outcome none);
  }

  new_one : (p : Profile) (at : Moment) (box : Option ℕ) (step : HubStep) → deposit_new p h at b box ≡ Some step → Deposits h b step
  new_one p at (Some node) step e =
      subst (Deposits h b) (some_inj e) (first (record { hub = waits (decides h b (Boxed node (h.item + 1))) (h.item + 1); outcome = Boxed node (h.item + 1) }) refl refl)
  new_one p at None step e =
      let ok = if_some_parts (nat_le (h.icn + 1) MAX_CONTROL_NUMBER) (Some (refuse h b (p.refusal 9 h.me at (h.icn + 1) b))) step e in
      subst (Deposits h b) (some_inj ok.1) (first (refuse h b (p.refusal 9 h.me at (h.icn + 1) b)) refl refl)

one_deposit : (p : Profile) (h : Hub) (at : Moment) (b : Bytes) (o : Option HubOutcome) → decided h.decisions b ≡ o → (step : HubStep) → deposit_at p h at b o ≡ Some step → Deposits h b step
one_deposit p h at b (Some o) found step e = subst (Deposits h b) (some_inj e) (again h b o found)
one_deposit p h at b None none step e =
    let ok = if_some_parts (nat_le (h.item + 1) MAX_CONTROL_NUMBER) (deposit_new p h at b (mailbox_of h.directory (p.receiver b))) step e in
    new_one h b none p at (mailbox_of h.directory (p.receiver b)) step ok.1

any_deposit : (p : Profile) (h : Hub) (at : Moment) (b : Bytes) (step : HubStep) → deposit p h at b ≡ Some step → Deposits h b step
any_deposit p h at b step e =
    let ok = if_some_parts (p.has_header b) (deposit_at p h at b (decided h.decisions b)) step e in
    one_deposit p h at b (decided h.decisions b) refl step ok.1

takes_one : (h : Hub) (node item : ℕ) → IsCounted h → IsCounted (taken h node item)
takes_one h node item is = by (list_any (λ c. c.0 == item) (collect h node))
  where
    by : (t : Bool) → IsCounted (if t then record h { waiting = filter (λ i. not (i == item)) h.waiting } else h)
    by true = record { once = is.once; count = is.count }
    by false = is

keeps_at_taking : (h : Hub) (node item : ℕ) → StaysDecided h (taken h node item)
keeps_at_taking h node item = by (list_any (λ c. c.0 == item) (collect h node))
  where
    by : (t : Bool) → StaysDecided h (if t then record h { waiting = filter (λ i. not (i == item)) h.waiting } else h)
    by true = λ b o was. was
    by false = λ b o was. was

pub hub_decides_once : HubDecidesOnce
hub_decides_once = record {
  new = λ me. record { once = tt; count = refl };
  deposits = λ p h at b step is e. let d = any_deposit p h at b step e in d.counted is;
  takes = takes_one;
  enrols = λ h party node is. record { once = is.once; count = is.count };
  dismisses = λ h party is. record { once = is.once; count = is.count };
  answers = λ p h at b step e. let d = any_deposit p h at b step e in d.answers;
  keeps = λ p h at b step e. let d = any_deposit p h at b step e in d.stays;
  keeps_at_taking = keeps_at_taking;
  keeps_at_enrolling = λ h party node b o was. was;
  keeps_at_dismissing = λ h party b o was. was;
}
