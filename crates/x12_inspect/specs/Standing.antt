-- The sets that stand in an interchange, whichever they are.
use Rattle.std.specs.Prelude.{ℕ, List, [], map, flat_map, Ok, Err}
use Rattle.x12_envelopes.specs.Shape.{FunctionalGroup, TransactionSet}
use Rattle.x12_judge.specs.Interchange.{Reading}

-- GS01 and ST01 of a set
abbrev pub pair_of_set : FunctionalGroup → TransactionSet → List ℕ × List ℕ
pair_of_set g s = (g.functional, s.set)

-- those of each set of a group
abbrev pub pairs_of_group : FunctionalGroup → List (List ℕ × List ℕ)
pairs_of_group g = map (pair_of_set g) g.sets

-- those of each set of an interchange; none where its outline can't be read
abbrev pub pairs_standing : Reading → List (List ℕ × List ℕ)
pairs_standing (Ok x) = flat_map pairs_of_group x.groups
pairs_standing (Err fault) = []
