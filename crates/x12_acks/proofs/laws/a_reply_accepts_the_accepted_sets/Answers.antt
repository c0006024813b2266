use Rattle.x12_acks.proofs.ReplyPlaceLemmas.{segments_accept, segments_name, bytes_accept}
use Rattle.x12_acks.proofs.laws.a_reply_accepts_the_accepted_sets.Goals as goal

pub returns : goal.returns
returns c =
    let read = c.numbers_are_readable.ensures in
    let elements = c.elements_are_read_back.ensures.elements in
    let header = c.header_is_read_back.ensures.header in
    let outline = c.outline_is_read_back.ensures.outline in
    let fit = c.segments_fit.ensures.fit in
    let fits = c.a_reply_fits.ensures.law.reply in
    record {
      law = record {
        segments = segments_accept read.readable;
        named = segments_name read.readable;
        bytes = λ me terms h bytes x at icn gcn is_header is_outline may small few. bytes_accept read.readable elements header outline fit me terms h bytes x at icn gcn is_outline (fits me terms h bytes at icn gcn is_header may small few);
      };
    }
