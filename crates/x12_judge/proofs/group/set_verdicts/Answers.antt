use Rattle.std.proofs.Common.{◌≡◌, ℕ, List, ◌||◌, take, map, bytes_eq, refl, ap, sym, ◌∙◌, arith, inl, inr}
use Rattle.std.proofs.lemmas.Grind.{common_steps}
use Rattle.std.proofs.lemmas.Bool.{cases_Bool}
use Rattle.std.specs.List.{list_any}
use Rattle.std.proofs.lemmas.List.{take-map}
use Rattle.x12_envelopes.specs.Shape.{TransactionSet, set_view, bytes_of_set_no}
use Rattle.x12_judge.specs.Set.{TransactionSetVerdict, verdict_of_set}
use Rattle.x12_judge.specs.Verdict.{set_verdict_view}
use Rattle.x12_judge.proofs.RisingNumberLemmas.{not_among}
use Rattle.x12_judge.proofs.SetVerdictLemmas.{one_seen, one_verdict}
use Rattle.x12_judge.proofs.group.set_verdicts.Goals as goal

pub loop-set-preserved : goal.loop-set-preserved
loop-set-preserved c =
    let d = c.args.delims.now in
    let sets = c.args.sets.now in
    let i = c.loop-set.set-index in
    let x = c.set-item.result in
    let number = bytes_of_set_no x.number in
    let received = map (set_view d) sets in
    let f : ℕ × TransactionSet → TransactionSetVerdict =
    λ place. verdict_of_set d (list_any (λ i. bytes_eq i place.1.set) c.args.agreed.now) c.args.lenient (take place.0 received) place.1 in
    let so_far = c.loop-set.invariant in
    let earlier = λ (n : List ℕ). list_any (λ e. bytes_eq e.number n) (take i received) in
    let repeats : c.in_ok-repeated.repeated ≡ earlier number = elim (cases_Bool c.loop-set.numbers.differ) [
      | inl differ ↦
          c.in_ok-repeated.ensures.differs differ
          ∙ sym (not_among (set_view d) sets i x c.loop-set-test.true c.set-item.is (so_far.differ differ) (λ s. refl))
      | inr may ↦
          c.in_ok-repeated.ensures.repeated may ∙ so_far.seen may number
          ∙ ap (list_any (λ e. bytes_eq e.number number)) (sym (take-map (set_view d) i sets))
    ] in
    let kept = c.in_ok-repeated.ensures.differ in
    let same =
    c.in_ok-verdict.ensures (take i received) repeats
    ∙ ap (λ b. verdict_of_set d b c.args.lenient (take i received) (set_view d x)) c.is_one_of-is_agreed.ensures in
    record {
      seen = λ may n.
          c.in_ok-repeated.ensures.seen (sym kept ∙ may) n
          ∙ ap (λ b. bytes_eq number n || b) (so_far.seen (sym kept ∙ may) n)
          ∙ one_seen (λ e. bytes_eq e.number n) (set_view d) sets i x c.loop-set-test.true c.set-item.is;
      differ = λ differ. so_far.differ (sym kept ∙ differ);
      verdicts =
          one_verdict set_verdict_view f (set_view d) _ _ c.in_ok-verdict.verdict sets i x _
          c.loop-set-test.true c.set-item.is c.in_ok-push.ensures.items same so_far.verdicts;
      count = omega (arith, c.in_ok-push.ensures.len, so_far.count);
    }

pub returns-clause-verdicts : goal.returns-clause-verdicts
returns-clause-verdicts c = grind (arith, common_steps)
