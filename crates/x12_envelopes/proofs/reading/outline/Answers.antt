use Rattle.x12_envelopes.proofs.HeaderLemmas.{header_fits, outline_gives}
use Rattle.x12_envelopes.proofs.reading.outline.Goals as goal

pub invariant_of-source-clause-small : goal.invariant_of-source-clause-small
invariant_of-source-clause-small c = (header_fits c.args.bytes.now c.args.header.now c.requires.read).0

pub interchange-requires : goal.interchange-requires
interchange-requires c = record { header = (header_fits c.args.bytes.now c.args.header.now c.requires.read).1 }

pub returns-clause-outline : goal.returns-clause-outline
returns-clause-outline c =
    outline_gives c.args.header.now.delims c.args.bytes.now c.interchange.result c.interchange.ensures.outline c.interchange.ensures.sound c.interchange.ensures.fault
