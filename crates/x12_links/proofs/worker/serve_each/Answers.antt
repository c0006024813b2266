use Rattle.std.proofs.Common.{ap, rules}
use Rattle.x12_links.specs.Worker.{cut_by}
use Rattle.x12_links.proofs.WorkerLemmas.{cut_where, same_further, same_inboxes, serving_set}
use Rattle.x12_links.proofs.worker.serve_each.Goals as goal

pub returns-in_err-came-clause-served : goal.returns-in_err-came-clause-served
returns-in_err-came-clause-served g c =
    serving_set g.D.Recipient.answered _ _ _ c.loop-inbox.inlets.items c.loop-inbox.inbox c.serve.new.inlet c.index_mut.result.now (search rules) (search rules) c.serve.ensures.same.0 c.serve.ensures.same.1 c.loop-inbox.invariant.0
    (cut_by c.serve.result) (cut_where c.serve.result c.from_residual.result _ c.in_err-came.was c.from_residual.ensures.0) c.serve.ensures.served c.serve.ensures.others

pub returns-in_err-came-clause-same : goal.returns-in_err-came-clause-same
returns-in_err-came-clause-same g c =
    same_further _ c.loop-inbox.inlets.items _ c.loop-inbox.invariant.1 (same_inboxes c.loop-inbox.inlets.items c.loop-inbox.inbox c.serve.new.inlet c.index_mut.result.now (search rules) c.serve.ensures.same.0 c.serve.ensures.same.1)

pub loop-inbox-preserved : goal.loop-inbox-preserved
loop-inbox-preserved g c = (
  serving_set g.D.Recipient.answered 0 _ _ c.loop-inbox.inlets.items c.loop-inbox.inbox c.serve.new.inlet c.index_mut.result.now (search rules) (search rules) c.serve.ensures.same.0 c.serve.ensures.same.1 c.loop-inbox.invariant.0
      (cut_by c.serve.result) (ap cut_by c.in_ok-came.was) c.serve.ensures.served c.serve.ensures.others,
  same_further _ c.loop-inbox.inlets.items _ c.loop-inbox.invariant.1 (same_inboxes c.loop-inbox.inlets.items c.loop-inbox.inbox c.serve.new.inlet c.index_mut.result.now (search rules) c.serve.ensures.same.0 c.serve.ensures.same.1),
)
