use Rattle.std.proofs.Common.{map, get_or, sym, ap, ◌∙◌, ◌||◌}
use Rattle.std.specs.List.{list_any}
use Rattle.std.proofs.lemmas.List.{get_or_default}
use Rattle.x12_judge.specs.Agreement.{is_same_party}
use Rattle.x12_outbound.specs.Hubs.{hubs_of}
use Rattle.x12_outbound.specs.declared.row.Row.{Row}
use Rattle.x12_outbound.specs.Ledger.{row_view}
use Rattle.x12_outbound.proofs.LedgerLemmas.{icns_rise}
use Rattle.x12_outbound.proofs.AnswerLemmas.{no_row, may_not}
use Rattle.x12_outbound.proofs.matches.rejected_row.Goals as goal

pub find_row-requires : goal.find_row-requires
find_row-requires c = icns_rise c.args.parties.now.me (map row_view c.args.rows.now) c.requires

-- there is no such interchange
pub returns-in_default-clause-none : goal.returns-in_default-clause-none
returns-in_default-clause-none c = no_row c.args.parties.now c.args.rows.now c.requires c.args.icn c.in_default.ensures.none

-- the one who answers may not reject it
pub returns-then-not-may_reject-clause-none : goal.returns-then-not-may_reject-clause-none
returns-then-not-may_reject-clause-none c =
    let found = c.in-Some.ensures.found in
    let row = get_or c.args.rows.now c.in-Some.index c.index-rows-index.result in
    let row_is = get_or_default c.args.rows.now c.in-Some.index c.index-rows-index.result row found.0 in
    may_not c.args.parties.now c.args.rows.now c.requires c.args.icn c.in-Some.index row found.0 row_is found.2 (sym c.may_reject.ensures ∙ c.if-not-may_reject.true)

pub returns-clause-found : goal.returns-clause-found
returns-clause-found c =
    let found = c.in-Some.ensures.found in
    let p = c.args.parties.now in
    record {
      within = found.0;
      number = found.1;
      found = found.2;
      may = λ d. ap (λ (r : Row). is_same_party r.entry.partner p.from || list_any (is_same_party p.from) (hubs_of p.hubs)) (get_or_default c.args.rows.now c.in-Some.index d c.index-rows-index.result found.0) ∙ sym c.may_reject.ensures ∙ c.if-not-may_reject.false;
    }
