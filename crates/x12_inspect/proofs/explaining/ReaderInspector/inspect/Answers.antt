use Rattle.std.proofs.Common.{[], refl, sym}
use Rattle.x12_envelopes.specs.Shape.{outline_view}
use Rattle.x12_acks.specs.Answer.{answers_of}
use Rattle.x12_inspect.specs.Explaining.{answers_received, none_told}
use Rattle.x12_inspect.proofs.ExplainingLemmas.{no_header, no_outline, all_read, unless_memory, unread, one_asked}
use Rattle.x12_inspect.proofs.explaining.ReaderInspector.inspect.Goals as goal

pub returns-in-Err-clause-asked : goal.returns-in-Err-clause-asked
returns-in-Err-clause-asked c = λ more last rest.
    one_asked c.args.slice.now.bytes.now more (λ me. []) c.args.self.now.sent c.args.self.now.sent last.sent (no_header c.args.slice.now.bytes.now c.in-Err.fault (sym c.in-Err.ensures)) (none_told c.args.self.now.sent) rest

pub returns-in_ok-tell_answers-in-Ok-outline-clause-asked : goal.returns-in_ok-tell_answers-in-Ok-outline-clause-asked
returns-in_ok-tell_answers-in-Ok-outline-clause-asked c = λ more last rest.
    let h = c.in-Ok.header in
    let x = outline_view h.delims c.in-Ok-outline.read in
    one_asked c.args.slice.now.bytes.now more (λ me. answers_received me h (answers_of h.delims x)) c.args.self.now.sent c.read_told.new.sent last.sent
    (all_read c.args.slice.now.bytes.now h x (sym c.in-Ok.ensures) c.in-Ok-outline.ensures.outline) c.in_ok-told-in-Ok-outline.ensures.left rest

pub returns-in_default : goal.returns-in_default
returns-in_default c =
    let h = c.in-Ok.header in
    let bytes = c.args.slice.now.bytes.now in
    let fault = c.in-Err-outline.fault in
    let is = sym c.in-Ok.ensures in
    let none = unless_memory h bytes fault c.in_default.not-Memory c.in-Err-outline.ensures.outline in
    record {
      right = λ more. rw (unread bytes h fault is none) refl;
      asked = λ more last rest. one_asked bytes more (λ me. []) c.args.self.now.sent c.args.self.now.sent last.sent (no_outline bytes h fault is none) (none_told c.args.self.now.sent) rest;
    }
