use Rattle.std.proofs.Common.{arith, ◌+◌}
use Rattle.x12_numbers.proofs.Shelf.{whole_input}
use Rattle.x12_answering.proofs.input.read_input.Goals as goal

pub returns-clause-all : goal.returns-clause-all
returns-clause-all g c =
    let known = g.R.Read.remaining c.args.reader.now in
    let bytes = rw (c.take.ensures.limit, c.take.ensures.inner, c.new-input.ensures.items) at c.in-Ok.ensures.bytes in
    whole_input (c.args.most + 1) known c.read_to_end.new.buf.items bytes (omega (arith, c.read_to_end.new.buf.ok.0))
