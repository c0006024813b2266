use Rattle.std.proofs.Common.{ap, sym, subst, ◌∙◌, is_none}
use Rattle.x12_envelopes.specs.Shape.{outline_view}
use Rattle.x12_sent.specs.Submitter.{IsWithin}
use Rattle.x12_sent.proofs.SubmitterLemmas.{me_submitted, next_submitted, within_after}
use Rattle.x12_sent.proofs.SenderLemmas.{book_stays, row_unless_memory}
use Rattle.x12_sent.proofs.submitter.Submitter.read.Goals as goal

pub enter-requires : goal.enter-requires
enter-requires g c =
    let read = c.in-Ok.read in
    next_submitted c.args.self.now.sender.book c.submit.new.self.book c.args.self.now.whole.holds read.header c.args.bytes.now (outline_view read.header.delims read.outline)
    c.in-Ok.ensures.uses c.in-Ok.ensures.sendable c.requires.keeps.0.0

pub enter-requires-2 : goal.enter-requires-2
enter-requires-2 g c =
    let read = c.in-Ok.read in
    next_submitted c.args.self.now.sender.book c.submit.new.self.book c.args.self.now.left.holds read.header c.args.bytes.now (outline_view read.header.delims read.outline)
    c.in-Ok.ensures.uses c.in-Ok.ensures.sendable c.requires.keeps.1.0

pub returns-in-Err : goal.returns-in-Err
returns-in-Err g c =
    let sender = c.args.self.now.sender in
    let is = c.in-Err.ensures in
    let refused = ap is_none (row_unless_memory _ c.in-Err.fault c.in_default.not-Memory is.refused) in
    let same = sym is.unchanged in
    record {
      keeps = (
        (subst (λ b. IsWithin b c.args.self.now.whole.holds) same c.requires.keeps.0.0, c.requires.keeps.0.1 ∙ sym is.me),
        (subst (λ b. IsWithin b c.args.self.now.left.holds) same c.requires.keeps.1.0, c.requires.keeps.1.1 ∙ sym is.me),
      );
      right = sym refused;
      book = is.unchanged ∙ sym (book_stays sender.me sender.book c.args.bytes.now refused);
      me = is.me;
    }

pub returns-clause-keeps : goal.returns-clause-keeps
returns-clause-keeps g c =
    let sender = c.args.self.now.sender in
    let read = c.in-Ok.read in
    let o = outline_view read.header.delims read.outline in
    let uses = c.in-Ok.ensures.uses in
    let me = sym c.in-Ok.ensures.me in (
      (
        within_after sender.book c.submit.new.self.book c.args.self.now.whole.holds c.enter.new.ledger.holds read.header c.args.bytes.now o uses c.requires.keeps.0.0 c.in_ok-enter.ensures,
        me_submitted sender.me c.args.self.now.whole.holds c.enter.new.ledger.holds _ c.requires.keeps.0.1 c.in_ok-enter.ensures ∙ me,
      ),
      (
        within_after sender.book c.submit.new.self.book c.args.self.now.left.holds c.enter-2.new.ledger.holds read.header c.args.bytes.now o uses c.requires.keeps.1.0 c.in_ok-enter-2.ensures,
        me_submitted sender.me c.args.self.now.left.holds c.enter-2.new.ledger.holds _ c.requires.keeps.1.1 c.in_ok-enter-2.ensures ∙ me,
      ),
    )
