use Rattle.std.proofs.Common.{◌≡◌, ◌++◌, ◌+◌, take, map, flat_map}
use Rattle.x12_envelopes.specs.Segment.{text_of}
use Rattle.x12_envelopes.specs.Envelope.{set_segments}
use Rattle.x12_judge.specs.Verdict.{group_verdict_view}
use Rattle.x12_acks.specs.Reply.{numbered_answers}
use Rattle.x12_acks.proofs.interchange_answer.push_group_answers.Given as goal

abbrev pub invariant-loop-verdict : goal.invariant-loop-verdict
invariant-loop-verdict l = record {
  written : l.out.items ≡ l.initial.out.items ++ text_of l.delims (flat_map set_segments (numbered_answers (map group_verdict_view (take l.verdict-index l.groups))));
  number : l.number ≡ l.verdict-index + 1;
}
