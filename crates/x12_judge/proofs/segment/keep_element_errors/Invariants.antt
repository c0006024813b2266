use Rattle.std.proofs.Common.{◌≡◌, take, drop}
use Rattle.std.specs.List.{filter_map}
use Rattle.x12_judge.specs.Note.{kept_notes, with_errors}
use Rattle.x12_judge.specs.Keeping.{keeping}
use Rattle.x12_judge.specs.Element.{rules_of_elements}
use Rattle.x12_judge.specs.Segment.{identifier_of, note_of_element}
use Rattle.x12_judge.specs.Set.{segment}
use Rattle.x12_judge.specs.declared.verdict.SegmentCode.TheVariants.{ElementErrors}
use Rattle.x12_judge.proofs.ElementErrorLemmas.{to_come}
use Rattle.x12_judge.proofs.segment.keep_element_errors.Given as goal

abbrev pub invariant-loop-rule : goal.invariant-loop-rule
invariant-loop-rule l =
    let head = segment (take 3 (identifier_of l.read.delims l.read.bytes.now)) l.position ElementErrors in
    let left = filter_map (note_of_element l.read.delims l.read.bytes.now) (drop l.rule-index l.rule-items) in
    record {
      same : l.elements.read ≡ l.read;
      noted :
          keeping (kept_notes l.notes) (to_come l.noted head left)
          ≡ keeping (kept_notes l.fn.notes) (with_errors head (filter_map (note_of_element l.read.delims l.read.bytes.now) rules_of_elements));
    }
