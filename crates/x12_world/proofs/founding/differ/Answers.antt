-- One station after the other.
use Rattle.std.proofs.Common.{sym, ◌∙◌, arith}
use Rattle.std.proofs.lemmas.Grind.{common_steps}
use Rattle.x12_world.proofs.FoundingLemmas.{found_same, passed_one, plain_one}
use Rattle.x12_world.proofs.founding.differ.Goals as goal

pub returns-then-is_stations-clause-differ : goal.returns-then-is_stations-clause-differ
returns-then-is_stations-clause-differ g c =
    let rest = c.loop-first.rest.now in
    sym (sym c.loop-first.invariant.differ ∙ found_same rest c.in-Some.behind.now c.in-Some.first.now c.party-party.result c.in-Some.ensures.cases.0 c.party-party.ensures.party (sym c.is_stations.ensures ∙ c.if-is_stations.true))

pub loop-first-preserved : goal.loop-first-preserved
loop-first-preserved g c =
    let rest = c.loop-first.rest.now in
    let behind = c.in-Some.behind.now in
    let s = c.in-Some.first.now in
    let p = c.party-party.result in
    record {
      differ = passed_one rest behind s p c.in-Some.ensures.cases.0 c.party-party.ensures.party (sym c.is_stations.ensures ∙ c.if-is_stations.false) ∙ c.loop-first.invariant.differ;
      plain = λ all. c.loop-first.invariant.plain (plain_one rest behind s p c.in-Some.ensures.cases.0 c.party-party.ensures.party c.party-party.ensures.plain all);
    }

pub returns-clause-differ : goal.returns-clause-differ
returns-clause-differ g c = grind (arith, common_steps)

pub returns-clause-plain : goal.returns-clause-plain
returns-clause-plain g c = grind (arith, common_steps)
