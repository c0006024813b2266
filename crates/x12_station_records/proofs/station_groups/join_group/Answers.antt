use Rattle.std.proofs.Common.{◌∙◌, refl, arith}
use Rattle.std.proofs.lemmas.Grind.{common_steps}
use Rattle.x12_station_records.proofs.StationGroupLemmas.{join_placed, join_whole}
use Rattle.x12_station_records.proofs.station_groups.join_group.Goals as goal

pub returns-clause-placed : goal.returns-clause-placed
returns-clause-placed c icn =
    join_placed c.args.groups.now.items c.pop.new.self.items c.push-2.new.self.items c.in-Some.group (record c.in-Some.group { sets = c.push.new.self }) c.args.placed c.in-Some.ensures.items c.in_ok-push-2.ensures.items refl refl c.in_ok-push.ensures.items
    ((c.if-not-is_behind.ensures.group refl) ∙ c.len-place.ensures ∙ c.args.groups.now.ok.0) (c.if-not-is_behind.ensures.set refl) (c.if-not-is_behind.ensures.functional refl) (c.if-not-is_behind.ensures.gcn refl) icn

pub returns-clause-whole : goal.returns-clause-whole
returns-clause-whole c =
    join_whole c.args.groups.now.items c.pop.new.self.items c.push-2.new.self.items c.in-Some.group (record c.in-Some.group { sets = c.push.new.self }) c.args.placed c.in-Some.ensures.items c.in_ok-push-2.ensures.items refl refl c.in_ok-push.ensures.items
    c.requires.whole c.requires.laid

pub returns-clause-ends : goal.returns-clause-ends
returns-clause-ends c = grind (arith, common_steps)
