use Rattle.std.proofs.Common.{rules, ◌∙◌, ap, sym}
use Rattle.std.specs.Prelude.{option_map}
use Rattle.x12_outbound.specs.Entry.{entry_row}
use Rattle.x12_outbound.specs.Schedule.{unsent_schedule}
use Rattle.x12_station.proofs.BesideLemmas.{next_follows, looks_more, found_more}
use Rattle.x12_station.proofs.closed.look_for.Goals as goal

pub add_unsent-requires : goal.add_unsent-requires
add_unsent-requires g c =
    let next = rw c.in-Some.is at c.in_ok-entry.ensures.next in
    let v = c.args.ledger.now.holds in
    let old = c.args.closed.now.holds in
    next_follows v old old (entry_row c.in-Some.entry) c.args.icn c.args.least c.args.least next.0 next.1 next.2 c.requires.least next.3 c.requires.lower

pub returns-clause-looks : goal.returns-clause-looks
returns-clause-looks g c =
    let next = rw c.in-Some.is at c.in_ok-entry.ensures.next in
    let v = c.args.ledger.now.holds in
    let old = c.args.closed.now.holds in
    let new = c.add_unsent.new.self.holds in
    looks_more v old new (entry_row c.in-Some.entry) c.args.icn c.args.least c.above-next.result next.0 next.1 next.2 c.requires.least next.3 unsent_schedule (search rules) (search rules)

pub returns-clause-found : goal.returns-clause-found
returns-clause-found g c = λ answers.
    let next = rw c.in-Some.is at c.in_ok-entry.ensures.next in
    let v = c.args.ledger.now.holds in
    let old = c.args.closed.now.holds in
    let new = c.add_unsent.new.self.holds in
    found_more v old new (entry_row c.in-Some.entry) c.args.icn c.args.least c.above-next.result next.0 next.1 next.2 c.requires.least next.3 unsent_schedule (search rules) _
    (sym (ap (option_map entry_row) c.in-Some.is) ∙ c.in_ok-entry.ensures.found answers)
