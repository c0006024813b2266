use Rattle.std.proofs.Common.{ℕ, ◌==◌, ap, sym, ◌∙◌, arith}
use Rattle.std.specs.List.{position_or_len}
use Rattle.std.proofs.lemmas.List.{take_all}
use Rattle.x12_envelopes.proofs.CuttingLemmas.{cut_near}
use Rattle.x12_envelopes.proofs.ShortCutLemmas.{one_piece}
use Rattle.x12_envelopes.proofs.cutting.cut_near.Goals as goal

pub returns-then-end-bytes-clause-none : goal.returns-then-end-bytes-clause-none
returns-then-end-bytes-clause-none c =
    let p = λ (b : ℕ). b == c.args.byte in
    let bytes = c.args.bytes.now in
    let whole = c.split_at.ensures.front ∙ take_all c.min.result bytes (omega (arith, c.min.ensures, c.split_at.ensures.front_len, c.element_len-end.ensures.within, c.if-end-bytes.true)) in
    λ _. one_piece p bytes (sym (ap (position_or_len p) whole) ∙ sym c.element_len-end.ensures.count ∙ c.if-end-bytes.true)

pub returns-clause-some : goal.returns-clause-some
returns-clause-some c =
    cut_near c.args.byte c.args.bytes.now c.split_at.result.0.now c.split_at-2.result.0.now c.split_at-2.result.1.now c.split_at-3.result.1.now c.min.result c.element_len-end.result c.split_at.ensures.front (omega (arith, c.min.ensures)) c.element_len-end.ensures.count (omega (arith, c.element_len-end.ensures.within, c.if-end-near.false)) c.split_at-2.ensures.front c.split_at-2.ensures.back c.split_at-3.ensures.back
