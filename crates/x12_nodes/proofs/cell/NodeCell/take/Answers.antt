-- The log with the entry of what the core did.
use Rattle.std.proofs.Common.{◌≡◌, ◌++◌, ◌∷◌, [], ap, sym, subst, ◌∙◌, map, refl, true}
use Rattle.std.proofs.lemmas.List.{map-append}
use Rattle.x12_core.specs.Bound.{core_bound}
use Rattle.x12_core.specs.Core.{core_answers, core_failures, node_of}
use Rattle.x12_core.specs.View.{ask_view, packet_view}
use Rattle.x12_nodes.specs.Log.{LogEntry, IsStepOf}
use Rattle.x12_nodes.specs.View.{log_entry_view, receipt_view}
use Rattle.x12_nodes.proofs.CellLemmas.{cell, copies_known, did_step, is_enough, receipt_known, refused_by, replayed_more}
use Rattle.x12_nodes.proofs.cell.NodeCell.take.Goals as goal

pub invariant_of-self-2 : goal.invariant_of-self-2
invariant_of-self-2 g c =
    let old = c.self.inside in
    let k = ask_view c.args.ask in
    let did = c.in-Ok-step.did in
    let entry = c.written-entry.result.0 in
    let items : c.push_reserved.new.self.items ≡ old.log.items ++ entry ∷ [] = c.push_reserved.ensures.items ∙ ap (λ l. l ++ entry ∷ []) c.in-Ok.ensures.log.0 in
    replayed_more old.site old.opening (node_of old.core) (node_of c.step.new.core) (map log_entry_view old.log.items) (map log_entry_view c.push_reserved.new.self.items) old.last c.args.stamp
    (core_answers old.core) (core_answers c.step.new.core) (core_failures old.core) (core_failures c.step.new.core) (log_entry_view entry) c.self.invariant c.step.ensures.never_won_back c.in-Ok-step.ensures.follows c.written-entry.ensures.stamp
    (ap (map log_entry_view) items ∙ map-append log_entry_view old.log.items (entry ∷ []))
    (λ answers.
    let enough = is_enough (core_bound k old.core) c.in-Ok.room.count did c.in-Ok.ensures.count c.in-Ok-step.ensures.bounded in
    subst (λ (e : LogEntry). IsStepOf old.site e (node_of old.core) (node_of c.step.new.core)) (sym (c.written-entry.ensures.entry enough))
    (did_step old.site c.args.stamp k (node_of old.core) (node_of c.step.new.core) did (c.in-Ok-step.ensures.did answers)))

pub returns-clause-took : goal.returns-clause-took
returns-clause-took g c =
    rw (← c.self.view_is)
    (λ answers.
    let old = c.self.inside in
    let k = ask_view c.args.ask in
    let did = c.in-Ok-step.did in
    let entry = c.written-entry.result.0 in
    let items : c.push_reserved.new.self.items ≡ old.log.items ++ entry ∷ [] = c.push_reserved.ensures.items ∙ ap (λ l. l ++ entry ∷ []) c.in-Ok.ensures.log.0 in
    let enough = is_enough (core_bound k old.core) c.in-Ok.room.count did c.in-Ok.ensures.count c.in-Ok-step.ensures.bounded in
    let is = c.written-entry.ensures.entry enough in
    record {
      entry = log_entry_view entry;
      stamp_is = c.written-entry.ensures.stamp;
      ask_is = ap (λ (e : LogEntry). e.ask) is;
      step = subst (λ (e : LogEntry). IsStepOf old.site e (node_of old.core) (node_of c.step.new.core)) (sym is) (did_step old.site c.args.stamp k (node_of old.core) (node_of c.step.new.core) did (c.in-Ok-step.ensures.did answers));
      log = ap (map log_entry_view) items ∙ map-append log_entry_view old.log.items (entry ∷ []);
      receipt = receipt_known old.site.node c.args.stamp k (log_entry_view entry) (receipt_view c.written-entry.result.1) _ c.written-entry.ensures.receipt c.written-entry.ensures.told c.written-entry.ensures.stamp (ap (λ (e : LogEntry). e.ask) is);
      sent = copies_known (map packet_view) c.copies-copies.result.items _ c.copies-copies.ensures refl;
    })

pub returns-in-Err-step-clause-refused : goal.returns-in-Err-step-clause-refused
returns-in-Err-step-clause-refused g c =
    rw (← c.self.view_is)
    (λ answers.
    let old = c.self.inside in
    let was = cell old.site old.opening (map log_entry_view old.log.items) old.last (node_of old.core) (core_answers old.core) (core_failures old.core) in
    refused_by was c.args.stamp (ask_view c.args.ask) c.in-Err-step.fault c.in-Ok.ensures.suits (c.in-Err-step.ensures.refused answers))
