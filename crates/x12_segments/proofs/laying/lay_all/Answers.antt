use Rattle.std.proofs.Common.{refl, sym, ◌∙◌, []}
use Rattle.x12_answering.proofs.AnsweringLemmas.{leads_at_first, leads_on, leads_to_all}
use Rattle.x12_segments.proofs.TextsLemmas.{texts_left, texts_done, right_on, and_true}
use Rattle.x12_segments.proofs.laying.lay_all.Goals as goal

pub loop-bytes-init : goal.loop-bytes-init
loop-bytes-init g c = record { text = leads_at_first _ _ _ c.new-text.ensures.items; right = refl }

pub loop-bytes-preserved : goal.loop-bytes-preserved
loop-bytes-preserved g c =
    let held = c.loop-bytes.invariant in
    let one = texts_left c.loop-bytes.bytes-index c.args.interchanges.now (record { ref_ptr = (0, 0); now = [] }) c.loop-bytes-test.true in
    record {
      text = leads_on _ _ _ _ _ _ _ _ _ (rw one at held.text) c.in_ok-push_laid.ensures c.in_ok-write_piece.ensures.moves;
      right = right_on _ _ _ _ _ _ c.can_be_read-all_right.ensures (rw one at held.right) refl;
    }

pub returns-clause-written : goal.returns-clause-written
returns-clause-written g c =
    let over = texts_done c.loop-bytes.bytes-index c.args.interchanges.now c.loop-bytes-test.false in
    leads_to_all _ _ _ _ _ _ (rw over at c.loop-bytes.invariant.text) c.in_ok-write_last.ensures.moves c.in_ok-write_last.ensures.empty

pub returns-clause-right : goal.returns-clause-right
returns-clause-right g c =
    let over = texts_done c.loop-bytes.bytes-index c.args.interchanges.now c.loop-bytes-test.false in
    sym (and_true _) ∙ (rw over at c.loop-bytes.invariant.right)
