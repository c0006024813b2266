use Rattle.std.proofs.Common.{ℕ, List, Some, ap, ◌∙◌, nat_cmp, arith}
use Rattle.std.proofs.lemmas.Grind.{common_steps}
use Rattle.std.specs.BTreeMap.{get_by}
use Rattle.std.specs.Cmp.Lexicographic.{slice_cmp}
use Rattle.std.specs.Map.{update}
use Rattle.std.specs.Str.{bytes_eq}
use Rattle.std.proofs.lemmas.Map.Text.{btree_map_updates_str}
use Rattle.x12_outbound.proofs.ToldLemmas.{numbers_more}
use Rattle.x12_outbound.proofs.statement.listed_numbers.Goals as goal

-- the next number is listed
pub loop-answer-preserved : goal.loop-answer-preserved
loop-answer-preserved c =
    let before = λ (number : List ℕ). get_by (λ k. slice_cmp nat_cmp number k.now) c.loop-answer.numbers in
    numbers_more c.args.listed.now c.loop-answer.answer-index c.answer-item.result c.loop-answer-test.true c.answer-item.is
    before (λ number. get_by (λ k. slice_cmp nat_cmp number k.now) c.insert.new.self) c.loop-answer.invariant
    (λ number. btree_map_updates_str c.as_bytes.result.now c.loop-answer.numbers c.insert.new.self _ c.in_ok-insert.ensures.updates number
    ∙ ap (λ bytes. update bytes_eq before bytes (Some tt) number) c.as_bytes.ensures)

pub returns : goal.returns
returns c = grind (arith, common_steps)
