use Rattle.std.proofs.Common.{◌≡◌, ◌&&◌, drop, flat_map}
use Rattle.std.specs.List.{list_all}
use Rattle.x12_envelopes.specs.Writing.{texts}
use Rattle.x12_answering.proofs.AnsweringLemmas.{Leads}
use Rattle.x12_segments.specs.Laying.{laid, header_can_be_read}
use Rattle.x12_segments.proofs.laying.lay_all.Given as goal

abbrev pub invariant-loop-bytes : goal.invariant-loop-bytes
invariant-loop-bytes g l =
    let left = texts (drop l.bytes-index l.interchanges) in
    record {
      text : Leads (g.W.Write.contents l.fn.out) (g.W.Write.contents l.out) l.text.items (flat_map (laid l.layout) left) (flat_map (laid l.layout) (texts l.interchanges));
      right : (l.all_right && list_all header_can_be_read left) ≡ list_all header_can_be_read (texts l.interchanges);
    }
