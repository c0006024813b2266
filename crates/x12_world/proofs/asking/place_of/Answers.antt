use Rattle.std.proofs.Common.{rules, true, ◌≡◌, ◌<◌, length, sym, ap, ◌∙◌, arith}
use Rattle.std.proofs.lemmas.Grind.{common_steps}
use Rattle.x12_judge.specs.Agreement.{is_same_party}
use Rattle.x12_world.proofs.asking.place_of.Goals as goal
use Rattle.x12_world.proofs.AskingLemmas.{found_there}

pub returns-then-eq-clause-there : goal.returns-then-eq-clause-there
returns-then-eq-clause-there g c =
    let lt : c.loop-place.place < length c.args.stations.now = c.loop-place-test.true in
    let same : is_same_party c.party.result c.args.party.now ≡ true = search rules in (
      lt,
      found_there (λ s. is_same_party s.me c.args.party.now) c.args.stations.now c.loop-place.place c.index-stations-place.result c.index-stations-place.is lt
          (ap (λ p. is_same_party p c.args.party.now) (sym c.party.ensures.party) ∙ same) c.loop-place.invariant,
    )

pub loop-place-preserved : goal.loop-place-preserved
loop-place-preserved g c = grind (arith, common_steps)

pub returns-clause-none : goal.returns-clause-none
returns-clause-none g c = grind (arith, common_steps)
