-- none of those before is this party
use Rattle.std.proofs.Common.{◌≡◌, drop}
use Rattle.std.specs.List.{list_any}
use Rattle.x12_judge.specs.Agreement.{is_same_party}
use Rattle.x12_nodes.proofs.naming.is_among.Given as goal

abbrev pub invariant-loop-other : goal.invariant-loop-other
invariant-loop-other l =
    list_any (is_same_party l.party) (drop l.other-index l.parties) ≡ list_any (is_same_party l.party) l.parties
