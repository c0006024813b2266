use Rattle.std.proofs.Common.{◌+◌, ◌∙◌, map, get_or, refl, Some}
use Rattle.std.proofs.lemmas.List.{get_or_default}
use Rattle.x12_outbound.specs.Group.{groups_of_row}
use Rattle.x12_outbound.specs.Ledger.{row_view, submitted_by}
use Rattle.x12_outbound.specs.Matches.{group_answer_view}
use Rattle.x12_outbound.specs.Subject.{a_group}
use Rattle.x12_outbound.proofs.AnswerLemmas.{on_ok, with_one, group_found, answers_group}
use Rattle.x12_outbound.proofs.BothLemmas.{adds_here, adds_there, adds_unmatched, functional_here, functional_there, no_functional}
use Rattle.x12_outbound.proofs.FoundLemmas.{rows_sendable}
use Rattle.x12_outbound.proofs.matches.tell_functional.Goals as goal

-- the ledger has it
pub tell_group_at-requires-clause-sendable : goal.tell_group_at-requires-clause-sendable
tell_group_at-requires-clause-sendable c = rows_sendable c.args.parties.now.me c.args.rows.now c.requires.held c.in-Some.at c.index-rows-at.result c.in-Some.ensures.found.within

pub returns-in-Some : goal.returns-in-Some
returns-in-Some c =
    let p = c.args.parties.now in
    let rows = c.args.rows.now in
    let closed = c.args.closed.now in
    let answer = c.args.answer.now in
    let a = group_answer_view answer in
    let near = submitted_by p.me (map row_view rows) in
    let far = submitted_by p.me (map row_view closed) in
    let found = c.in-Some.ensures.found in
    let at = c.in-Some.at in
    let index = c.in-Some.index in
    let held = c.requires.held in
    let row = get_or rows at c.index-rows-at.result in
    let row_is = get_or_default rows at c.index-rows-at.result row found.within in
    let within = (found.group c.index-rows-at.result).0 in
    let old = c.args.out.now.items in
    let new = c.tell_group_at.new.out.items in
    with_one (groups_of_row row) index within (λ d.
    let group = get_or (groups_of_row row) index d in
    let group_is = get_or_default (groups_of_row row) index d group within in
    let same = found.receiver c.index-rows-at.result in
    let code = found.functional c.index-rows-at.result d in
    on_ok c.tell_group_at.result (λ is. adds_here p (map row_view rows) (map row_view closed) (Some (a_group answer.functional answer.number)) old new _ _
    (functional_here p near far a _ (group_found p rows held a at index row group found.within found.group row_is group_is same code))
    (answers_group p rows held a at index row group found.within found.group row_is group_is same code old new answer.functional answer.number (index + 1) group.sets.items answer.sets.now refl refl refl refl refl is))
    (c.tell_group_at.ensures group group_is))

-- or the closed ones have it
pub tell_group_at-requires-in-Some-answered_group-clause-sendable :
    goal.tell_group_at-requires-in-Some-answered_group-clause-sendable
tell_group_at-requires-in-Some-answered_group-clause-sendable c = rows_sendable c.args.parties.now.me c.args.closed.now c.requires.closed c.in-Some-answered_group.at c.index-closed-at.result c.in-Some-answered_group.ensures.found.within

pub returns-in-Some-answered_group : goal.returns-in-Some-answered_group
returns-in-Some-answered_group c =
    let p = c.args.parties.now in
    let rows = c.args.rows.now in
    let closed = c.args.closed.now in
    let answer = c.args.answer.now in
    let a = group_answer_view answer in
    let near = submitted_by p.me (map row_view rows) in
    let far = submitted_by p.me (map row_view closed) in
    let found = c.in-Some-answered_group.ensures.found in
    let at = c.in-Some-answered_group.at in
    let index = c.in-Some-answered_group.index in
    let held = c.requires.closed in
    let row = get_or closed at c.index-closed-at.result in
    let row_is = get_or_default closed at c.index-closed-at.result row found.within in
    let within = (found.group c.index-closed-at.result).0 in
    let old = c.args.out.now.items in
    let new = c.tell_group_at-in-Some-answered_group.new.out.items in
    with_one (groups_of_row row) index within (λ d.
    let group = get_or (groups_of_row row) index d in
    let group_is = get_or_default (groups_of_row row) index d group within in
    let same = found.receiver c.index-closed-at.result in
    let code = found.functional c.index-closed-at.result d in
    on_ok c.tell_group_at-in-Some-answered_group.result (λ is. adds_there p (map row_view rows) (map row_view closed) (Some (a_group answer.functional answer.number)) old new _ _
    (functional_there p near far a c.in_default.ensures.none) c.requires.apart
    (answers_group p closed held a at index row group found.within found.group row_is group_is same code old new answer.functional answer.number (index + 1) group.sets.items answer.sets.now refl refl refl refl refl is))
    (c.tell_group_at-in-Some-answered_group.ensures group group_is))

-- or neither
pub returns : goal.returns
returns c =
    let p = c.args.parties.now in
    let a = group_answer_view c.args.answer.now in
    let near = submitted_by p.me (map row_view c.args.rows.now) in
    let far = submitted_by p.me (map row_view c.args.closed.now) in
    on_ok c.tell_unmatched.result (λ is. adds_unmatched p (map row_view c.args.rows.now) (map row_view c.args.closed.now) (Some (a_group c.args.answer.now.functional c.args.answer.now.number)) c.args.out.now.items c.tell_unmatched.new.out.items _ is
    (functional_there p near far a c.in_default.ensures.none ∙ no_functional p near far a c.in_default-answered_group.ensures.none)) c.tell_unmatched.ensures
