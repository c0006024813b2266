-- The second hub's party is neither the first's nor a station's.
use Rattle.std.proofs.Common.{rules, ◌≡◌, Bool, true, false, not, ap, ◌∙◌}
use Rattle.std.specs.Prelude.{◌||◌}
use Rattle.x12_judge.specs.Agreement.{is_same_party}
use Rattle.x12_world.proofs.FoundingLemmas.{named_parties}
use Rattle.x12_world.proofs.founding.is_apart.Goals as goal

alone : (a x r : Bool) → a ≡ false → r ≡ x → r ≡ ((a || x) || false)
alone a false r e f = rw e f
alone a true r e f = rw e f

pub returns-then-ne : goal.returns-then-ne
returns-then-ne g c =
    let party = c.in-Some.party in
    let unlike : is_same_party party c.args.hub.now ≡ false = search rules in
    rw c.in-Some.is (ap not (alone (is_same_party party c.args.hub.now) _ c.is_stations.result unlike (c.is_stations.ensures ∙ named_parties party c.args.stations.now)))
