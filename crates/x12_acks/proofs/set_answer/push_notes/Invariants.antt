use Rattle.std.proofs.Common.{◌≡◌, ◌++◌, take, map}
use Rattle.x12_envelopes.specs.Segment.{text_of}
use Rattle.x12_judge.specs.Verdict.{note_view}
use Rattle.x12_acks.specs.Reply.{note_segment}
use Rattle.x12_acks.proofs.set_answer.push_notes.Given as goal

abbrev pub invariant-loop-note : goal.invariant-loop-note
invariant-loop-note l = record {
  written : l.out.items ≡ l.initial.out.items ++ text_of l.delims (map note_segment (map note_view (take l.note-index l.notes)));
}
