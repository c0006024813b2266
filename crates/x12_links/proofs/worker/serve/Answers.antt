use Rattle.std.proofs.Common.{◌∙◌, ◌++◌, ◌∷◌, [], ap}
use Rattle.x12_links.specs.Inbox.{with_taken}
use Rattle.x12_links.specs.Worker.{cut_by}
use Rattle.x12_links.proofs.WorkerLemmas.{cut_where, served_more}
use Rattle.x12_links.proofs.worker.serve.Goals as goal

-- a parcel was taken, and its node answered
pub returns-in_err-deliver-clause-served : goal.returns-in_err-deliver-clause-served
returns-in_err-deliver-clause-served g c =
    let was = c.requires.0.1 in
    let taken = c.in-Some.ensures.some in (
      (c.take.ensures.seat, (was.0 ++ c.in-Some.parcel ∷ [], taken ∙ ap (λ v. with_taken v c.in-Some.parcel) was.1)),
      served_more (g.D.Recipient.answered c.args.inlet.now.from) c.deliver.result _ _ _ _ c.in-Some.parcel _ (cut_where c.deliver.result c.from_residual.result _ c.in_err-deliver.was c.from_residual.ensures.0)
          c.requires.1 (ap (λ v. v.took) taken) c.deliver.ensures.delivered.this c.deliver.ensures.answered,
    )

pub returns-clause-served : goal.returns-clause-served
returns-clause-served g c =
    let was = c.requires.0.1 in
    let taken = c.in-Some.ensures.some in (
      (c.take.ensures.seat, (was.0 ++ c.in-Some.parcel ∷ [], taken ∙ ap (λ v. with_taken v c.in-Some.parcel) was.1)),
      served_more (g.D.Recipient.answered c.args.inlet.now.from) c.deliver.result _ _ _ _ c.in-Some.parcel 0 (ap cut_by c.in_ok-deliver.was)
          c.requires.1 (ap (λ v. v.took) taken) c.deliver.ensures.delivered.this c.deliver.ensures.answered,
    )
