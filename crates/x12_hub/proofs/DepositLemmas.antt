-- A deposit is decided by what the records find of its bytes, and by the directory.
use Rattle.std.specs.Prelude.{◌≡◌, ℕ, ◌+◌, Bool, true, false, ◌&&◌, not, nat_le, Option, Some, None, option_map, refl, Result, Ok, Err, IfOk, OnOk, IfErr, is_none, if◌then◌else◌}
use mathlib.Core.Path.{sym, ap, ap₂, ◌∙◌}
use Rattle.x12_numbers.specs.declared.book.TheConstants.{MAX_CONTROL_NUMBER}
use Rattle.x12_envelopes.specs.declared.moment.Moment.{Moment}
use Rattle.x12_profile.specs.Interchange.{Bytes}
use Rattle.x12_profile.specs.Profile.{Profile}
use Rattle.x12_hub.specs.declared.decision.Decision.{Decision as CodeDecision}
use Rattle.x12_hub.specs.declared.fault.HubFault.{HubFault}
use Rattle.x12_hub.specs.declared.fault.HubFault.TheVariants as hub
use Rattle.x12_hub.specs.Hub.{Hub, HubStep, HubOutcome, Boxed, decided, mailbox_of, waits, decides, deposit, deposit_at, deposit_new, deposit_again, refuse}
use Rattle.x12_hub.specs.HubRefusal.{Exhausted, deposit_refusal}
use Rattle.x12_hub.specs.Record.{decision_view}

-- what holds of each success holds of the same under another name
pub same_ok : (r : Result CodeDecision HubFault) (x y : Option HubStep) (hub : Hub) → x ≡ y → IfOk r (λ d. y ≡ Some (record { hub = hub; outcome = decision_view d })) → IfOk r (λ d. x ≡ Some (record { hub = hub; outcome = decision_view d }))
same_ok (Ok d) x y hub e fact = e ∙ fact
same_ok (Err f) x y hub e fact = fact

pub some_ok : (r : Result CodeDecision HubFault) (x : Option HubStep) (y : HubStep) (hub : Hub) → x ≡ Some y → IfOk r (λ d. y ≡ record { hub = hub; outcome = decision_view d }) → IfOk r (λ d. x ≡ Some (record { hub = hub; outcome = decision_view d }))
some_ok (Ok d) x y hub e fact = e ∙ ap Some fact
some_ok (Err f) x y hub e fact = fact

module _ (p : Profile) (h : Hub) (at : Moment) (b : Bytes) where
  -- new bytes for a mailbox
  pub put_at_is : (node item : ℕ) (hub : Hub) (r : Result CodeDecision HubFault) → nat_le (h.item + 1) MAX_CONTROL_NUMBER ≡ true → mailbox_of h.directory (p.receiver b) ≡ Some node → item ≡ h.item + 1 → OnOk r (hub ≡ waits (decides h b (Boxed node item)) item) → IfOk r (λ d. decision_view d ≡ Boxed node item) → IfOk r (λ d. deposit_at p h at b None ≡ Some (record { hub = hub; outcome = decision_view d }))
  put_at_is node item hub (Err f) left box next hub_is decision_is = decision_is
  put_at_is node item hub (Ok d) left box next hub_is decision_is =
      rw (left, box)
      (ap (λ (i : ℕ). Some (record { hub = waits (decides h b (Boxed node i)) i; outcome = Boxed node i })) (sym next)
      ∙ ap₂ (λ (x : Hub) (o : HubOutcome). Some (record { hub = x; outcome = o })) (sym hub_is) (sym decision_is))

  pub put_at_step : (node item : ℕ) → nat_le (h.item + 1) MAX_CONTROL_NUMBER ≡ true → mailbox_of h.directory (p.receiver b) ≡ Some node → item ≡ h.item + 1
      → Some (waits (decides h b (Boxed node item)) item) ≡ option_map (λ t. t.hub) (deposit_at p h at b None)
  put_at_step node item left box next = rw (left, box) (ap (λ (i : ℕ). Some (waits (decides h b (Boxed node i)) i)) next)

  -- new bytes for nobody
  pub refuse_at_is : nat_le (h.item + 1) MAX_CONTROL_NUMBER ≡ true → mailbox_of h.directory (p.receiver b) ≡ None → deposit_at p h at b None ≡ deposit_new p h at b None
  refuse_at_is left box = rw (left, box) refl

  -- bytes that can be read, as they were decided or not yet
  pub again_is : (o : HubOutcome) → p.has_header b ≡ true → decided h.decisions b ≡ Some o → deposit p h at b ≡ Some (deposit_again h o)
  again_is o header found = rw (header, found) refl

  pub new_is : p.has_header b ≡ true → decided h.decisions b ≡ None → deposit p h at b ≡ deposit_at p h at b None
  new_is header none = rw (header, none) refl

  -- where no number is left, the table says so
  pub exhausted_row : p.has_header b ≡ true → decided h.decisions b ≡ None → deposit_at p h at b None ≡ None → deposit_refusal p h b ≡ Some Exhausted
  exhausted_row header none e = by (nat_le (h.item + 1) MAX_CONTROL_NUMBER) refl
    where
      by_icn : (t : Bool) (box : Option ℕ) → nat_le (h.icn + 1) MAX_CONTROL_NUMBER ≡ t → deposit_new p h at b box ≡ None → (if (is_none box) && not t then Some Exhausted else None) ≡ Some Exhausted
      by_icn t (Some node) is never = absurd cc
      by_icn false None is never = refl
      by_icn true None is never = absurd (some (refuse h b (p.refusal 9 h.me at (h.icn + 1) b)) (rw is at never))
        where
          some : (step : HubStep) → Some step ≡ None → ⊥
          some step e = cc

      by : (t : Bool) → nat_le (h.item + 1) MAX_CONTROL_NUMBER ≡ t → deposit_refusal p h b ≡ Some Exhausted
      by false left = rw (header, none, left) refl
      by true left = rw (header, none, left) (by_icn (nat_le (h.icn + 1) MAX_CONTROL_NUMBER) (mailbox_of h.directory (p.receiver b)) refl (rw left at e))

pub exhausted_err : (r : Result CodeDecision HubFault) (p : Profile) (h : Hub) (at : Moment) (b : Bytes) → p.has_header b ≡ true → decided h.decisions b ≡ None → IfErr r (λ e. e ≡ hub.Exhausted → deposit_at p h at b None ≡ None) → IfErr r (λ e. e ≡ hub.Exhausted → deposit_refusal p h b ≡ Some Exhausted)
exhausted_err (Ok d) p h at b header none stuck = stuck
exhausted_err (Err f) p h at b header none stuck = λ is. exhausted_row p h at b header none (stuck is)
