-- How failures are counted, told on.
use Rattle.std.specs.Prelude.{ℕ, Result, Ok, Err, IfErr, refl}
use native.Mathlib.Omega.{arith}
use Rattle.x12_profile.specs.Stop.{CountsFailures}

-- the same failure, in a call that answers something else
pub told_alike : {A B E : Type 0} {e : E} {is_device : E → Type 0} {old new : ℕ} → CountsFailures {A = A} (Err e) is_device old new → CountsFailures {A = B} (Err e) is_device old new
told_alike told = record { never_fewer = told.never_fewer; ok = tt; device = told.device; other = told.other }

-- nothing was counted, and no failure of the device is answered
pub none_counted : {A E : Type 0} (r : Result A E) (is_device : E → Type 0) (n : ℕ) → IfErr r (λ e. is_device e → ⊥) → CountsFailures r is_device n n
none_counted (Ok a) is_device n none = record { never_fewer = omega arith; ok = refl; device = tt; other = tt }
none_counted (Err e) is_device n none = record { never_fewer = omega arith; ok = tt; device = λ is. absurd (none is); other = λ _. refl }
