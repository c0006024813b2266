use Rattle.std.proofs.Common.{◌≡◌, ◌≤◌, ◌++◌, take, map, flat_map, length}
use Rattle.x12_envelopes.specs.Segment.{text_of}
use Rattle.x12_judge.specs.Verdict.{set_verdict_view}
use Rattle.x12_acks.specs.Reply.{set_answer}
use Rattle.x12_acks.proofs.group_answer.push_set_answers.Given as goal

abbrev pub invariant-loop-verdict : goal.invariant-loop-verdict
invariant-loop-verdict l = record {
  written : l.out.items ≡ l.initial.out.items ++ text_of l.delims (flat_map set_answer (map set_verdict_view (take l.verdict-index l.sets)));
  segments : l.segments ≡ length (flat_map set_answer (map set_verdict_view (take l.verdict-index l.sets)));
  few : l.segments ≤ length l.out.items;
}
