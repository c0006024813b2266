use Rattle.std.proofs.Common.{sym, ap₂, ◌∙◌}
use Rattle.x12_envelopes.specs.Content.{kind_of_segment}
use Rattle.x12_envelopes.proofs.PlainLemmas.{plain_part}
use Rattle.x12_envelopes.proofs.PlainDataLemmas.{known_data_next}
use Rattle.x12_envelopes.proofs.source.Source.behind_named_data.Goals as goal

pub returns-in-Data : goal.returns-in-Data
returns-in-Data c =
    let s = c.args.self.now in
    let rest = c.split_at.result.1.now in
    let piece = c.in_ok-piece.piece.now in
    let back = c.in_ok-piece.field-0-1.now in
    let part = c.split_at-2.result.1.now in
    let cut = c.in_ok-piece.ensures.some in
    let kind = sym (ap₂ kind_of_segment c.segment_of.ensures.delims c.segment_of.ensures.bytes) ∙ sym c.kind.ensures ∙ c.in-Data.is in
    let low = plain_part s.input.now rest piece back part c.args.at c.line_ends.result s.delims.terminator c.split_at.ensures.back cut c.split_at-2.ensures.back (s.none_low c.requires.plain) in
    record {
      next = known_data_next s c.args.at rest piece back c.line_ends.result part c.requires.within c.split_at.ensures.back cut c.line_ends.ensures.count c.line_ends.ensures.within c.split_at-2.ensures.back kind low;
    }
