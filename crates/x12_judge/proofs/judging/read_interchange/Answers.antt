use Rattle.std.proofs.Common.{sym}
use Rattle.x12_judge.proofs.OutlineBoundLemmas.{reading_small, reading_is, header_bound}
use Rattle.x12_judge.proofs.judging.read_interchange.Goals as goal

pub returns : goal.returns
returns c =
    let d = c.args.header.now.delims in
    let read = c.outline-reading.ensures in
    record {
      is = sym (reading_is d c.outline-reading.result _ read.outline (sym c.if-is_memory_fault.ensures));
      small = reading_small d c.args.bytes.now c.outline-reading.result
          (header_bound c.args.bytes.now c.args.header.now c.requires.read) read.outline read.groups read.sets;
    }
