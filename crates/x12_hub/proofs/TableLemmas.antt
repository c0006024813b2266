-- A deposit is a step exactly where no row of the table of refusals holds.
use Rattle.std.specs.Prelude.{◌≡◌, ℕ, ◌+◌, Bool, true, false, nat_le, Option, Some, None, IsSome, refl}
use Rattle.x12_numbers.specs.declared.book.TheConstants.{MAX_CONTROL_NUMBER}
use Rattle.x12_envelopes.specs.declared.moment.Moment.{Moment}
use Rattle.x12_profile.specs.Interchange.{Bytes}
use Rattle.x12_profile.specs.Profile.{Profile}
use Rattle.x12_hub.specs.Hub.{Hub, HubOutcome, decided, mailbox_of, deposit}
use Rattle.x12_hub.specs.HubRefusal.{HubRefusal, RefusesByTable, deposit_refusal}

no_refusal : {P : Type 0} (r : HubRefusal) → Some r ≡ None → P
no_refusal r e = absurd cc

none_is_some : {P : Type 0} → IsSome {T = HubRefusal} None → P
none_is_some e = absurd cc

module _ (p : Profile) (h : Hub) (at : Moment) (b : Bytes) where
  -- each test with what it answers
  by_all : (header : Bool) (was : Option HubOutcome) (item : Bool) (box : Option ℕ) (icn : Bool) → p.has_header b ≡ header → decided h.decisions b ≡ was → nat_le (h.item + 1) MAX_CONTROL_NUMBER ≡ item → mailbox_of h.directory (p.receiver b) ≡ box → nat_le (h.icn + 1) MAX_CONTROL_NUMBER ≡ icn → (deposit_refusal p h b ≡ None → IsSome (deposit p h at b)) × (IsSome (deposit_refusal p h b) → deposit p h at b ≡ None)
  by_all false was item box icn a d e f g = rw a (λ never. no_refusal _ never, λ refused. refl)
  by_all true (Some o) item box icn a d e f g = rw (a, d) (λ empty. refl, λ refused. none_is_some refused)
  by_all true None false box icn a d e f g = rw (a, d, e) (λ never. no_refusal _ never, λ refused. refl)
  by_all true None true (Some node) icn a d e f g = rw (a, d, e, f) (λ empty. refl, λ refused. none_is_some refused)
  by_all true None true None false a d e f g = rw (a, d, e, f, g) (λ never. no_refusal _ never, λ refused. refl)
  by_all true None true None true a d e f g = rw (a, d, e, f, g) (λ empty. refl, λ refused. none_is_some refused)

pub refuses_by_table : RefusesByTable
refuses_by_table = record {
  taken = λ p h at b. (by_all p h at b _ _ _ _ _ refl refl refl refl refl).0;
  refused = λ p h at b. (by_all p h at b _ _ _ _ _ refl refl refl refl refl).1;
}
