use Rattle.std.proofs.Common.{◌∙◌, ◌++◌, [], ◌∷◌, refl, ap, arith}
use Rattle.std.proofs.lemmas.Grind.{common_steps}
use Rattle.x12_station_records.proofs.StationGroupLemmas.{start_placed}
use Rattle.x12_station_records.proofs.station_groups.start_group.Goals as goal

pub returns-clause-placed : goal.returns-clause-placed
returns-clause-placed c icn =
    let p = c.args.placed in
    start_placed c.args.groups.now.items c.push-2.new.self.items (record { functional = p.functional; gcn = p.gcn; sets = c.push.new.self }) p c.in_ok-push-2.ensures.items (c.in_ok-push.ensures.items ∙ ap (λ xs. xs ++ p.set ∷ []) c.new-sets.ensures.items) refl refl
    (omega (arith, c.if-placed-len.false, c.len.ensures, c.args.groups.now.ok.0)) c.requires.first icn

pub returns-clause-whole : goal.returns-clause-whole
returns-clause-whole c = grind (arith, common_steps)

pub returns-clause-ends : goal.returns-clause-ends
returns-clause-ends c = grind (arith, common_steps)
