use Rattle.x12_envelopes.specs.Shape.{outline_view}
use Rattle.x12_sent.proofs.SenderLemmas.{book_raised}
use Rattle.x12_sent.proofs.sender.Sender.submit.Goals as goal

pub returns-clause-book : goal.returns-clause-book
returns-clause-book c =
    let read = c.in_ok-read.read in
    let is = c.in_ok-read.ensures in
    book_raised c.args.self.now.me c.args.self.now.book read.book c.args.bytes.now read.header (outline_view read.header.delims read.outline) is.allowed is.header is.outline is.uses
