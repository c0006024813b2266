-- Prepared bytes, refused by the first row that holds, or read to be entered.
use Rattle.std.specs.Prelude.{◌≡◌, ℕ, ◌-◌, ◌^◌, ◌<◌, List, [], ◌∷◌, Bool, true, false, not, nat_le, map, filter, Option, Some, None, refl}
use Rattle.std.specs.List.{list_any}
use Rattle.std.specs.Option.{option_or}
use mathlib.Core.Path.{ap}
use native.Mathlib.Omega.{arith}
use Rattle.std.proofs.lemmas.Bool.{leb-true, or_parts}
use Rattle.x12_envelopes.specs.Shape.{FunctionalGroup}
use Rattle.x12_judge.specs.Verdict.{group_is_acknowledgment}
use Rattle.x12_profile.specs.Interchange.{Bytes}
use Rattle.x12_outbound.specs.declared.submitting.SubmitFault.{SubmitFault}
use Rattle.x12_outbound.specs.declared.submitting.SubmitFault.TheVariants as submit
use Rattle.x12_outbound.specs.Submitting.{submit_fault}
use Rattle.x12_outbound.specs.Submitting as submitting
use Rattle.x12_station.specs.declared.fault.StationFault.{StationFault}
use Rattle.x12_station.specs.declared.fault.StationFault.TheVariants.{Store, Memory}
use Rattle.x12_station.specs.declared.cached.Cached.{Cached}
use Rattle.x12_station.specs.Fault.{IsRowOrWant, fault_of_submitting, item_fault, prepared_fault}
use Rattle.x12_station.specs.working.Prepared.{IsRowOrMemory, Knows}
use Rattle.x12_station.specs.Station.{Station}

-- a table whose rows stand in another
along : (one other : Option StationFault) → ((g : StationFault) → one ≡ Some g → other ≡ Some g) → (f : StationFault) → IsRowOrWant one f → IsRowOrWant other f
along one other rows Store h = tt
along one other rows Memory h = tt
along one other rows f h = rows f h

pub along_refusal : (one other : Option StationFault) → ((g : StationFault) → one ≡ Some g → other ≡ Some g) → (f : StationFault) → IsRowOrMemory one f → IsRowOrMemory other f
along_refusal one other rows f h = (along one other rows f h.0, h.1)

pub or_first : (one rest : Option StationFault) (g : StationFault) → one ≡ Some g → option_or one rest ≡ Some g
or_first one rest g is = rw is refl

pub or_second : (one rest : Option StationFault) → one ≡ None → option_or one rest ≡ rest
or_second one rest is = rw is refl

-- no group is one of acknowledgments
pub all_numbers : (gs : List FunctionalGroup) → list_any group_is_acknowledgment gs ≡ false → map (λ (g : FunctionalGroup). g.number) (filter (λ g. not (group_is_acknowledgment g)) gs) ≡ map (λ g. g.number) gs
all_numbers [] none = refl
all_numbers (g ∷ gs) none =
    let parts = or_parts (group_is_acknowledgment g) (list_any group_is_acknowledgment gs) none in
    rw parts.0 (ap (λ l. g.number ∷ l) (all_numbers gs parts.1))

pub few_left : (seq : ℕ) → seq < 2 ^ 63 - 1 → nat_le (2 ^ 63 - 1) seq ≡ false
few_left seq room = by (nat_le (2 ^ 63 - 1) seq) refl
  where
    by : (t : Bool) → nat_le (2 ^ 63 - 1) seq ≡ t → t ≡ false
    by true is = let most = leb-true (2 ^ 63 - 1) seq is in absurd (omega arith)
    by false is = refl

module _ (m : Cached) (s : Station) (knows : Knows m s) (x : Bytes) where
  -- what may not be submitted, by the row that says so
  pub by_submitting : (f : SubmitFault) → submitting.IsSubmitRefusal (submit_fault m.me m.book x) f → IsRowOrMemory (prepared_fault s x) (fault_of_submitting f)
  unfolding prepared_fault
  by_submitting submit.Memory row = (tt, λ e. cc)
  by_submitting submit.OwnAddress row = (rw (knows.me, knows.book, row) refl, λ e. cc)
  by_submitting submit.Empty row = (rw (knows.me, knows.book, row) refl, λ e. cc)
  by_submitting (submit.BadHeader h) row = (rw (knows.me, knows.book, row) refl, λ e. cc)
  by_submitting submit.NotMine row = (rw (knows.me, knows.book, row) refl, λ e. cc)
  by_submitting (submit.Shape o) row = (rw (knows.me, knows.book, row) refl, λ e. cc)
  by_submitting submit.Acknowledgments row = (rw (knows.me, knows.book, row) refl, λ e. cc)
  by_submitting submit.SetTwice row = (rw (knows.me, knows.book, row) refl, λ e. cc)
  by_submitting submit.NotNew row = (rw (knows.me, knows.book, row) refl, λ e. cc)

  -- what may, unless no number is left
  pub by_number : submit_fault m.me m.book x ≡ None → prepared_fault s x ≡ item_fault (nat_le (2 ^ 63 - 1) m.seq)
  unfolding prepared_fault
  by_number none = rw (knows.me, knows.book, knows.last, none) refl
