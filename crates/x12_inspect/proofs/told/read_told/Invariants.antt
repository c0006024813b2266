use Rattle.std.proofs.Common.{◌≡◌, ◌++◌, map, Option}
use Rattle.x12_envelopes.specs.Shape.{outline_view}
use Rattle.x12_acks.specs.Answer.{answer_view, answers_of}
use Rattle.x12_sent.specs.declared.sent.SentFile.{SentFile}
use Rattle.x12_inspect.specs.Explaining.{answers_received, MayBeLeftBy}
use Rattle.x12_inspect.proofs.told.read_told.Given as goal

abbrev pub invariant-loop-answer : goal.invariant-loop-answer
invariant-loop-answer l =
    let all = answers_of l.header.delims (outline_view l.header.delims l.read) in
    let rest = map answer_view l.answer-iterator.rest.items in
    record {
      told : map (λ t. answer_view t.answer) l.told.items ++ rest ≡ all;
      left : (last : Option SentFile) → MayBeLeftBy (λ me. answers_received me l.header rest) l.sent last → MayBeLeftBy (λ me. answers_received me l.header all) l.fn.sent last;
    }
