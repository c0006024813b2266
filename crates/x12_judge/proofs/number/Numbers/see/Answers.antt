use Rattle.std.proofs.Common.{true, cond, ap, ◌∙◌}
use Rattle.x12_envelopes.specs.Shape.{bytes_of_set_no}
use Rattle.std.specs.Ordering.{nat_cmp, is_eq}
use Rattle.std.specs.Cmp.Lexicographic.{slice_cmp}
use Rattle.x12_judge.specs.Number.{key_of_number, has_seen}
use Rattle.x12_judge.proofs.KeyLemmas.{same_key, either}
use Rattle.x12_judge.proofs.number.Numbers.see.Goals as goal

pub returns-clause-seen : goal.returns-clause-seen
returns-clause-seen c may n =
    let before = has_seen c.args.self.now n in
    c.in_ok-added.ensures.updates.0 (key_of_number n)
    ∙ ap (λ k. cond (is_eq (slice_cmp nat_cmp k (key_of_number n))) true before) c.key_of.ensures
    ∙ ap (λ b. cond b true before) (same_key (bytes_of_set_no c.args.number.now) n)
    ∙ either _ before
