-- One parcel more on its way.
use Rattle.std.proofs.Common.{◌≡◌, ◌∙◌, ◌++◌, ◌∷◌, [], List, None, Option, Some, ap, append-nil, refl, subst, sym}
use Rattle.x12_links.specs.declared.plan.FaultPlan.{FaultPlan}
use Rattle.x12_links.specs.Plan.{LinkStanding, nothing_taken, standing_after, put_next, standing_behind, put_by}
use Rattle.x12_links.specs.Link.{ComeInTurn, Took}
use Rattle.x12_links.proofs.PlanLemmas.{plan_goes_on, standing_push}

module _ {P : Type 0} (follows : Option P → P → Type 0) where
  in_turn_push : (first last : Option P) (xs : List P) (x : P) → ComeInTurn follows first xs last → follows last x → ComeInTurn follows first (xs ++ x ∷ []) (Some x)
  in_turn_push first last [] x is next = (subst (λ o. follows o x) is next, refl)
  in_turn_push first last (y ∷ xs) x is next = (is.0, in_turn_push (Some y) last xs x is.1 next)

  pub took_more : (plan : FaultPlan) (last : Option P) (s s' : LinkStanding P) (put before pending : List P) (x : P) → Took follows plan last s put before → before ≡ [] → follows last x → s' ≡ standing_after plan s x → pending ≡ put_next plan s x
      → Took follows plan (Some x) s' put pending
  took_more plan last s s' put before pending x t none next is puts =
      let at : LinkStanding P = standing_behind plan nothing_taken t.taken in
      record {
        taken = t.taken ++ x ∷ [];
        in_turn = in_turn_push None last t.taken x t.in_turn next;
        standing_is = is ∙ ap (λ z. standing_after plan z x) t.standing_is ∙ sym (standing_push plan nothing_taken t.taken (x ∷ []));
        put_is =
            ap (λ l. put ++ l) puts
            ∙ ap (λ z. put ++ put_next plan z x) t.standing_is
            ∙ ap (λ l. l ++ put_next plan at x) (sym (append-nil put) ∙ ap (λ l. put ++ l) (sym none) ∙ t.put_is)
            ∙ ap (λ l. put_by plan t.taken ++ l) (sym (append-nil (put_next plan at x)))
            ∙ sym (plan_goes_on plan nothing_taken t.taken (x ∷ []));
      }

  -- no parcel was taken yet
  pub took_none : (plan : FaultPlan) (held pending : List P) → held ≡ [] → pending ≡ [] → Took follows plan None (record { count = 0; held = held }) [] pending
  took_none plan held pending free still = record {
    taken = [];
    in_turn = refl;
    standing_is = ap (λ xs. record { count = 0; held = xs }) free;
    put_is = still;
  }
