use Rattle.std.proofs.Common.{◌∙◌, sym, refl, []}
use Rattle.x12_segments.proofs.TextsLemmas.{texts_left, texts_done, and_true}
use Rattle.x12_sent.proofs.SenderLemmas.{submitted_on}
use Rattle.x12_sent.proofs.submitter.Submitter.read_each.Goals as goal

pub loop-index-preserved : goal.loop-index-preserved
loop-index-preserved g c =
    let one = texts_left c.loop-index.index c.args.slices.now (record { ref_ptr = (0, 0); now = [] }) c.loop-index-test.true in
    let held = c.loop-index.invariant in
    record {
      keeps = c.in_ok-right.ensures.keeps;
      me = c.in_ok-right.ensures.me ∙ held.me;
      right = submitted_on _ _ _ _ _ _ _ _ _ _ held.me c.in_ok-right.ensures.right c.in_ok-right.ensures.book (rw one at held.right) refl;
    }

pub returns-clause-right : goal.returns-clause-right
returns-clause-right g c =
    let over = texts_done c.loop-index.index c.args.slices.now c.loop-index-test.false in
    sym (and_true _) ∙ (rw over at c.loop-index.invariant.right)
