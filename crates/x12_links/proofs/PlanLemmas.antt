-- Laws of fault plans.
use Rattle.std.proofs.Common.{◌≡◌, ◌∙◌, ◌++◌, ◌∷◌, [], List, ap, append_assoc, refl, sym}
use Rattle.x12_links.specs.declared.plan.FaultPlan.{FaultPlan}
use Rattle.x12_links.specs.Plan.{LinkStanding, standing_after, put_next, standing_behind, put_from}

pub plan_goes_on : {X : Type 0} (plan : FaultPlan) (s : LinkStanding X) (xs more : List X) → put_from plan s (xs ++ more) ≡ put_from plan s xs ++ put_from plan (standing_behind plan s xs) more
plan_goes_on plan s [] more = refl
plan_goes_on plan s (x ∷ xs) more = ap (λ l. put_next plan s x ++ l) (plan_goes_on plan (standing_after plan s x) xs more) ∙ sym (append_assoc (put_next plan s x) (put_from plan (standing_after plan s x) xs) (put_from plan (standing_behind plan s (x ∷ xs)) more))

pub standing_push : {X : Type 0} (plan : FaultPlan) (s : LinkStanding X) (xs more : List X) → standing_behind plan s (xs ++ more) ≡ standing_behind plan (standing_behind plan s xs) more
standing_push plan s [] more = refl
standing_push plan s (x ∷ xs) more = standing_push plan (standing_after plan s x) xs more
