-- Records in memory answer: the first hub's, the second's, if there is one, and the stations'.
use Rattle.std.proofs.Common.{◌∙◌, ap, subst, IsTrue}
use Rattle.std.specs.Prelude.{◌&&◌}
use Rattle.std.proofs.lemmas.Bool.{and_from}
use Rattle.x12_world.specs.Running.{all_answer, second_answers}
use Rattle.x12_world.proofs.AnswerLemmas.{founders_parts}
use Rattle.x12_world.proofs.in_memory.network_answers.Goals as goal
use Rattle.x12_world.proofs.in_memory.network_answers.Goals.{in-Some, in_default}

pub returns : goal.returns
returns c =
    let h = c.network.inside.hubs in
    let ss = c.network.inside.stations.items in
    let second : IsTrue (second_answers h.second) = elim c.match-network.branch [
      | in-Some w ↦ ap second_answers w.in-Some.is ∙ w.hub_answers-in-Some.ensures
      | in_default w ↦ ap second_answers w.in_default.is
    ] in
    let stations = subst (λ rs. IsTrue (all_answer rs)) c.deref.ensures.value c.stations_answer.ensures in
    rw (← c.network.view_is) (founders_parts h.first h.second ss ∙ and_from (h.first.answers && second_answers h.second) (all_answer ss) (and_from h.first.answers (second_answers h.second) c.hub_answers.ensures second) stations)
