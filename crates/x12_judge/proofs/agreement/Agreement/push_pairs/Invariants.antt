use Rattle.std.proofs.Common.{◌≡◌, ℕ, List, [], ◌∷◌, ◌++◌, drop, flat_map, bytes_eq, if◌then◌else◌}
use Rattle.x12_judge.proofs.agreement.Agreement.push_pairs.Given as goal

abbrev pub invariant-loop-group : goal.invariant-loop-group
invariant-loop-group l =
    let f : List ℕ × List ℕ → List (List ℕ) = λ pair. if bytes_eq pair.0 l.functional then pair.1 ∷ [] else [] in
    l.sets.items ++ flat_map f (drop l.group-index l.self.pairs.items) ≡ l.fn.sets.items ++ flat_map f l.self.pairs.items
