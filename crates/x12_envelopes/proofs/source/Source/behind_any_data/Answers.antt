use Rattle.std.proofs.Common.{sym, ◌∙◌}
use Rattle.x12_envelopes.proofs.PlainDataLemmas.{any_data_next}
use Rattle.x12_envelopes.proofs.source.Source.behind_any_data.Goals as goal

pub returns : goal.returns
returns c =
    record {
      next = any_data_next c.args.self.now c.args.at c.split_at.result.1.now c.in_ok-piece.piece.now c.in_ok-piece.field-0-1.now c.line_ends.result c.split_at-2.result.1.now c.requires.within c.split_at.ensures.back c.in_ok-piece.ensures.some c.line_ends.ensures.count c.line_ends.ensures.within c.split_at-2.ensures.back (sym c.begin_with_data.ensures ∙ c.if-not-begin_with_data.false) (sym c.has_low.ensures ∙ c.if-has_low.false);
    }
