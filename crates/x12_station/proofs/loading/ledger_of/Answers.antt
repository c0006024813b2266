use Rattle.std.proofs.Common.{◌≡◌, ◌∷◌, [], map, length, refl, sym, ap, subst, ◌∙◌, append_assoc, arith}
use Rattle.std.proofs.lemmas.List.{map-append}
use Rattle.std.specs.Vec.Iter.{into_iter_items}
use Rattle.x12_outbound.specs.Entry.{entry_row, submission_of_entry}
use Rattle.x12_outbound.specs.Ledger.{AreInOrder}
use Rattle.x12_station.specs.working.Loading.{IsLedgerOf}
use Rattle.x12_station.proofs.LoadingLemmas.{next_is, starts, grows}
use Rattle.x12_station.proofs.loading.ledger_of.Goals as goal

pub loop-entry-init : goal.loop-entry-init
loop-entry-init c =
    let gives = c.into_iter-entry-iterator.ensures.into_iter_gives in
    (refl, starts c.args.me c.args.hubs c.new-ledger.result.holds c.new-ledger.ensures, gives.1 ∙ c.args.entries.ok.0 ∙ ap length (sym gives.0))

pub add_unsent-requires : goal.add_unsent-requires
add_unsent-requires c =
    let at = c.loop-entry in
    let e = c.in-Some.entry in
    let steps : into_iter_items at.entry-iterator ≡ e ∷ into_iter_items c.next.new.self = c.in-Some.ensures.steps.0 in
    let all = rw (← steps) at.invariant.0 ∙ c.into_iter-entry-iterator.ensures.into_iter_gives.0 in
    let order = subst (λ es. AreInOrder (map (submission_of_entry c.args.me) (map entry_row es))) (sym all) c.requires in
    next_is c.args.me (map entry_row at.yielded) (map entry_row (into_iter_items c.next.new.self)) (entry_row e) at.ledger.holds (subst (λ es. AreInOrder (map (submission_of_entry c.args.me) es)) (map-append entry_row at.yielded (e ∷ into_iter_items c.next.new.self)) order) at.invariant.1.party at.invariant.1.rows

pub loop-entry-preserved : goal.loop-entry-preserved
loop-entry-preserved c =
    let at = c.loop-entry in
    let e = c.in-Some.entry in
    let steps : into_iter_items at.entry-iterator ≡ e ∷ into_iter_items c.next.new.self = c.in-Some.ensures.steps.0 in (
      append_assoc at.yielded (e ∷ []) _ ∙ rw (← steps) at.invariant.0,
      subst (λ es. IsLedgerOf c.args.me c.args.hubs es c.add_unsent.new.self.holds) (sym (map-append entry_row at.yielded (e ∷ []))) (grows c.args.me c.args.hubs (map entry_row at.yielded) (entry_row e) at.ledger.holds c.add_unsent.new.self.holds at.invariant.1 c.in-Ok.ensures.ok),
      let was = at.invariant.2 in
          let gone = c.in-Some.ensures.steps.1 in
          let short = ap length steps in
          omega arith,
    )
