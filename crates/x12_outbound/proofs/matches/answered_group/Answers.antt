use Rattle.std.proofs.Common.{get_or, sym, ◌∙◌, arith}
use Rattle.std.proofs.lemmas.Grind.{common_steps}
use Rattle.std.proofs.lemmas.List.{get_or_default}
use Rattle.x12_outbound.specs.Group.{groups_of_row}
use Rattle.x12_outbound.specs.Matches.{group_answer_view}
use Rattle.x12_outbound.proofs.FoundLemmas.{groups_rise}
use Rattle.x12_outbound.proofs.AnswerLemmas.{no_group, other_receiver, other_code, with_one}
use Rattle.x12_outbound.proofs.matches.answered_group.Goals as goal

pub find_group-requires : goal.find_group-requires
find_group-requires c = groups_rise c.args.parties.now.me c.args.rows.now c.requires

-- there is no such group
pub returns-in_default-clause-none : goal.returns-in_default-clause-none
returns-in_default-clause-none c = no_group c.args.parties.now c.args.rows.now c.requires (group_answer_view c.args.answer.now) c.in_default.ensures.none

-- it is another party's
pub returns-then-not-is_receiver-clause-none : goal.returns-then-not-is_receiver-clause-none
returns-then-not-is_receiver-clause-none c =
    let found = c.in-Some.ensures in
    let rows = c.args.rows.now in
    let row = get_or rows c.in-Some.at c.index-rows-at.result in
    let row_is = get_or_default rows c.in-Some.at c.index-rows-at.result row found.row in
    let within = (found.found c.index-rows-at.result).0 in
    with_one (groups_of_row row) c.in-Some.index within (λ d.
    other_receiver c.args.parties.now rows c.requires (group_answer_view c.args.answer.now) c.in-Some.at c.in-Some.index row (get_or (groups_of_row row) c.in-Some.index d) found.row found.found row_is
    (get_or_default (groups_of_row row) c.in-Some.index d (get_or (groups_of_row row) c.in-Some.index d) within)
    (sym c.is_receiver.ensures ∙ c.if-not-is_receiver.true))

-- it has another GS01
pub returns-then-not-is_functional-clause-none : goal.returns-then-not-is_functional-clause-none
returns-then-not-is_functional-clause-none c =
    let found = c.in-Some.ensures in
    let rows = c.args.rows.now in
    let row = get_or rows c.in-Some.at c.index-rows-at.result in
    let row_is = get_or_default rows c.in-Some.at c.index-rows-at.result row found.row in
    other_code c.args.parties.now rows c.requires (group_answer_view c.args.answer.now) c.in-Some.at c.in-Some.index row c.index.result.now found.row found.found row_is c.index.ensures
    (sym c.is_receiver.ensures ∙ c.if-not-is_receiver.false) (sym c.is_functional.ensures ∙ c.if-not-is_functional.true)

pub returns-clause-found : goal.returns-clause-found
returns-clause-found c = grind (arith, common_steps)
