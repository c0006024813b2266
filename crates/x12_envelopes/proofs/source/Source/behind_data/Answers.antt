use Rattle.std.proofs.Common.{sym, ◌∙◌}
use Rattle.x12_envelopes.proofs.PlainDataLemmas.{data_next}
use Rattle.x12_envelopes.proofs.source.Source.behind_data.Goals as goal

pub returns : goal.returns
returns c =
    let s = c.args.self.now in
    record {
      next = data_next s c.args.at c.split_at.result.1.now c.in_ok-piece.piece.now c.in_ok-piece.field-0-1.now c.requires.within c.split_at.ensures.back (sym c.begin_with_data.ensures ∙ c.if-not-begin_with_data.false) c.in_ok-piece.ensures.some (s.none_low c.if-not-self.false);
    }
