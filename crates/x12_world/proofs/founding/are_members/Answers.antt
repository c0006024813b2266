-- One station more is a member.
use Rattle.std.proofs.Common.{IsTrue, subst, sym, refl}
use Rattle.x12_world.specs.Founding.{IsMember}
use Rattle.x12_world.proofs.FoundingLemmas.{all_more, all_taken, answers_at}
use Rattle.x12_world.proofs.founding.are_members.Goals as goal

pub loop-station-preserved : goal.loop-station-preserved
loop-station-preserved g c = λ answers.
    let ss = c.args.stations.now in
    let i = c.loop-station.station-index in
    let s = c.station-item.result in
    let there = c.station-item.is in
    let mine : IsTrue s.answers = subst (λ t. IsTrue t.answers) (sym there) (answers_at ss i s c.loop-station-test.true answers) in
    all_more (λ t. IsMember c.args.hub.now c.args.second t.state) ss i s c.loop-station-test.true (c.loop-station.invariant answers)
    (subst (λ t. IsMember c.args.hub.now c.args.second t.state) there (c.if-not-is_member.ensures.yes mine refl))

pub returns-clause-yes : goal.returns-clause-yes
returns-clause-yes g c = λ answers is.
    all_taken (λ t. IsMember c.args.hub.now c.args.second t.state) c.args.stations.now c.loop-station.station-index c.loop-station-test.false (c.loop-station.invariant answers)
