use Rattle.std.proofs.Common.{◌==◌, ℕ, sym, ◌∙◌, arith}
use Rattle.x12_envelopes.proofs.ShortCutLemmas.{one_piece, two_pieces}
use Rattle.x12_envelopes.proofs.remaining.cut_element.Goals as goal

pub returns-then-end-bytes-clause-none : goal.returns-then-end-bytes-clause-none
returns-then-end-bytes-clause-none c =
    λ none. one_piece (λ (b : ℕ). b == c.args.separator) c.args.bytes.now (sym c.element_len-end.ensures.count ∙ c.if-end-bytes.true)

pub returns-clause-some : goal.returns-clause-some
returns-clause-some c =
    two_pieces (λ (b : ℕ). b == c.args.separator) c.args.bytes.now c.split_at.result.0.now c.split_at.result.1.now c.split_at-2.result.1.now c.element_len-end.result c.element_len-end.ensures.count (omega (arith, c.element_len-end.ensures.within, c.if-end-bytes.false)) c.split_at.ensures.front c.split_at.ensures.back c.split_at-2.ensures.back
