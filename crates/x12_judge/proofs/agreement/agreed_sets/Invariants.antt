use Rattle.std.proofs.Common.{◌≡◌, ◌++◌, drop, map, flat_map}
use Rattle.x12_judge.specs.Agreement.{agreement_view, sets_taken}
use Rattle.x12_judge.proofs.agreement.agreed_sets.Given as goal

abbrev pub invariant-loop-agreement : goal.invariant-loop-agreement
invariant-loop-agreement l =
    let f = sets_taken l.partner l.functional in
    l.sets.items ++ flat_map f (map agreement_view (drop l.agreement-index l.agreements))
    ≡ flat_map f (map agreement_view l.agreements)
