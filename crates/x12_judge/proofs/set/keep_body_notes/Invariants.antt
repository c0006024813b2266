use Rattle.std.proofs.Common.{◌≡◌, ◌+◌, ◌≤◌, ◌||◌, length, flat_map}
use Rattle.x12_envelopes.specs.Shape.{set_view}
use Rattle.x12_judge.specs.Body.{body_left}
use Rattle.x12_judge.specs.Note.{kept_notes}
use Rattle.x12_judge.specs.Keeping.{keeping}
use Rattle.x12_judge.specs.Segment.{has_po1, notes_from}
use Rattle.x12_judge.specs.Set.{body_of, reported}
use Rattle.x12_judge.proofs.set.keep_body_notes.Given as goal

abbrev pub invariant-loop-bytes : goal.invariant-loop-bytes
invariant-loop-bytes l =
    let d = l.delims in
    let left = body_left d l.body in
    let all = body_of (set_view d l.set) in
    record {
      notes :
          keeping (kept_notes l.notes) (flat_map reported (notes_from d l.position left))
          ≡ keeping (kept_notes l.fn.notes) (flat_map reported (notes_from d 2 all));
      position : l.position + length left ≡ 2 + length all;
      behind : 2 ≤ l.position;
      po1 : (l.has_po1 || has_po1 d left) ≡ has_po1 d all;
      few : length all ≤ length l.set.bytes.now;
    }

abbrev pub decreases-loop-bytes : goal.decreases-loop-bytes
decreases-loop-bytes l = length (body_left l.delims l.body)
