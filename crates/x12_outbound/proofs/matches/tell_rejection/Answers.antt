use Rattle.std.proofs.Common.{map, get_or, ◌∙◌, Some}
use Rattle.std.proofs.lemmas.List.{get_or_default}
use Rattle.x12_outbound.specs.Ledger.{row_view, submitted_by}
use Rattle.x12_outbound.specs.Subject.{an_interchange}
use Rattle.x12_outbound.proofs.AnswerLemmas.{on_ok, rejected_is, rejects_all}
use Rattle.x12_outbound.proofs.BothLemmas.{adds_here, adds_there, adds_unmatched, rejection_here, rejection_there, no_rejection}
use Rattle.x12_outbound.proofs.FoundLemmas.{rows_sendable}
use Rattle.x12_outbound.proofs.matches.tell_rejection.Goals as goal

-- the ledger has it
pub tell_interchange-requires : goal.tell_interchange-requires
tell_interchange-requires c = rows_sendable c.args.parties.now.me c.args.rows.now c.requires.held c.in-Some.index c.index-rows-index.result c.in-Some.ensures.found.within

pub returns-in-Some : goal.returns-in-Some
returns-in-Some c =
    let p = c.args.parties.now in
    let rows = c.args.rows.now in
    let near = submitted_by p.me (map row_view rows) in
    let far = submitted_by p.me (map row_view c.args.closed.now) in
    let found = c.in-Some.ensures.found in
    let row = get_or rows c.in-Some.index c.index-rows-index.result in
    let row_is = get_or_default rows c.in-Some.index c.index-rows-index.result row found.within in
    on_ok c.tell_interchange.result (λ is. adds_here p (map row_view rows) (map row_view c.args.closed.now) (Some (an_interchange c.args.icn)) c.args.out.now.items c.tell_interchange.new.out.items _ _
    (rejection_here p near far c.args.icn _ (rejected_is p rows c.requires.held c.args.icn c.in-Some.index found row row_is))
    (rejects_all p rows c.requires.held c.args.icn c.in-Some.index found row row_is c.args.out.now.items c.tell_interchange.new.out.items is)) c.tell_interchange.ensures

-- or the closed ones have it
pub tell_interchange-requires-in-Some-rejected_row :
    goal.tell_interchange-requires-in-Some-rejected_row
tell_interchange-requires-in-Some-rejected_row c = rows_sendable c.args.parties.now.me c.args.closed.now c.requires.closed c.in-Some-rejected_row.index c.index-closed-index.result c.in-Some-rejected_row.ensures.found.within

pub returns-in-Some-rejected_row : goal.returns-in-Some-rejected_row
returns-in-Some-rejected_row c =
    let p = c.args.parties.now in
    let rows = c.args.closed.now in
    let near = submitted_by p.me (map row_view c.args.rows.now) in
    let far = submitted_by p.me (map row_view rows) in
    let found = c.in-Some-rejected_row.ensures.found in
    let at = c.in-Some-rejected_row.index in
    let row = get_or rows at c.index-closed-index.result in
    let row_is = get_or_default rows at c.index-closed-index.result row found.within in
    let new = c.tell_interchange-in-Some-rejected_row.new.out.items in
    on_ok c.tell_interchange-in-Some-rejected_row.result (λ is. adds_there p (map row_view c.args.rows.now) (map row_view rows) (Some (an_interchange c.args.icn)) c.args.out.now.items new _ _
    (rejection_there p near far c.args.icn c.in_default.ensures.none) c.requires.apart
    (rejects_all p rows c.requires.closed c.args.icn at found row row_is c.args.out.now.items new is)) c.tell_interchange-in-Some-rejected_row.ensures

-- or neither
pub returns : goal.returns
returns c =
    let p = c.args.parties.now in
    let near = submitted_by p.me (map row_view c.args.rows.now) in
    let far = submitted_by p.me (map row_view c.args.closed.now) in
    on_ok c.tell_unmatched.result (λ is. adds_unmatched p (map row_view c.args.rows.now) (map row_view c.args.closed.now) (Some (an_interchange c.args.icn)) c.args.out.now.items c.tell_unmatched.new.out.items _ is
    (rejection_there p near far c.args.icn c.in_default.ensures.none ∙ no_rejection p near far c.args.icn c.in_default-rejected_row.ensures.none)) c.tell_unmatched.ensures
