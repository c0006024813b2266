use Rattle.std.proofs.Common.{◌≡◌, ◌++◌, take, flat_map}
use Rattle.std.specs.List.{enumerate_from}
use Rattle.x12_outbound.specs.declared.fate.FinalFate.TheVariants.{Rejected}
use Rattle.x12_outbound.specs.declared.statement.NamedBy.TheVariants.{Interchange}
use Rattle.x12_outbound.specs.Statement.{all_told}
use Rattle.x12_outbound.specs.Matches.{origin}
use Rattle.x12_outbound.proofs.matches.tell_interchange.Given as goal

-- the sets of the groups so far are told of
abbrev pub invariant-loop-index : goal.invariant-loop-index
invariant-loop-index l =
    l.out.items ≡ l.initial.out.items ++ flat_map (λ g. all_told (origin l.parties l.entry Interchange g.0) Rejected g.1.sets.items) (enumerate_from 1 (take l.index l.entry.groups.items))
