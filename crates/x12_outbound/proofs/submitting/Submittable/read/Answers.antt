use Rattle.std.proofs.Common.{◌≡◌, ◌≤◌, arith, sym, ◌∙◌, subst}
use Rattle.std.proofs.lemmas.List.{length-map}
use Rattle.x12_envelopes.specs.Shape.{group_view, outline_view}
use Rattle.x12_outbound.specs.Submitting.{IsSubmitRefusal, submit_fault}
use Rattle.x12_outbound.proofs.SubmittingLemmas.{along, allowed, behind, by_contents, by_header, by_numbers, by_parties, handed}
use Rattle.x12_outbound.proofs.SendableLemmas.{sendable, viewed_sizes}
use Rattle.x12_outbound.proofs.submitting.Submittable.read.Goals as goal

pub returns-in-Err-clause-refused : goal.returns-in-Err-clause-refused
returns-in-Err-clause-refused c = by_header c.args.me.now c.args.book.now c.args.bytes.now c.in-Err.fault (sym c.read_header.ensures ∙ c.in-Err.is)

pub returns-in_err-check_parties-clause-refused : goal.returns-in_err-check_parties-clause-refused
returns-in_err-check_parties-clause-refused c =
    let me = c.args.me.now in
    let book = c.args.book.now in
    let x = c.args.bytes.now in
    handed c.from_residual.result c.in_err-check_parties.field-0.0 (IsSubmitRefusal (submit_fault me book x)) (λ e f. f ≡ e)
    (λ f same. subst (IsSubmitRefusal (submit_fault me book x)) (sym same)
    (along _ (submit_fault me book x) (by_parties me book x c.in-Ok.header (sym c.read_header.ensures ∙ c.in-Ok.is)) c.in_err-check_parties.field-0.0 c.in_err-check_parties.ensures))
    c.from_residual.ensures.1

pub returns-in_err-outline-clause-refused : goal.returns-in_err-outline-clause-refused
returns-in_err-outline-clause-refused c =
    let me = c.args.me.now in
    let book = c.args.book.now in
    let x = c.args.bytes.now in
    let h = c.in-Ok.header in
    handed c.from_residual-in_err-outline.result c.in_err-outline.field-0.0 (IsSubmitRefusal (submit_fault me book x)) (λ e f. f ≡ e)
    (λ f same. subst (IsSubmitRefusal (submit_fault me book x)) (sym same)
    (along _ (submit_fault me book x) (λ g row. behind me book x h (sym c.read_header.ensures ∙ c.in-Ok.is) c.in_ok-check_parties.ensures ∙ row) c.in_err-outline.field-0.0 (c.in_err-outline.ensures.refused book)))
    c.from_residual-in_err-outline.ensures.1

pub returns-in_err-check_contents-clause-refused : goal.returns-in_err-check_contents-clause-refused
returns-in_err-check_contents-clause-refused c =
    let me = c.args.me.now in
    let book = c.args.book.now in
    let x = c.args.bytes.now in
    let h = c.in-Ok.header in
    handed c.from_residual-in_err-check_contents.result c.in_err-check_contents.field-0.0 (IsSubmitRefusal (submit_fault me book x)) (λ e f. f ≡ e)
    (λ f same. subst (IsSubmitRefusal (submit_fault me book x)) (sym same)
    (along _ (submit_fault me book x)
    (by_contents me book x h (sym c.read_header.ensures ∙ c.in-Ok.is) c.in_ok-check_parties.ensures (outline_view h.delims c.in_ok-outline.outline) c.in_ok-outline.ensures.read)
    c.in_err-check_contents.field-0.0 (c.in_err-check_contents.ensures h.delims)))
    c.from_residual-in_err-check_contents.ensures.1

pub returns-in_err-book-clause-refused : goal.returns-in_err-book-clause-refused
returns-in_err-book-clause-refused c =
    let me = c.args.me.now in
    let book = c.args.book.now in
    let x = c.args.bytes.now in
    let h = c.in-Ok.header in
    handed c.from_residual-in_err-book.result c.in_err-book.field-0.0 (IsSubmitRefusal (submit_fault me book x)) (λ e f. f ≡ e)
    (λ f same. subst (IsSubmitRefusal (submit_fault me book x)) (sym same)
    (along _ (submit_fault me book x)
    (by_numbers me book x h (sym c.read_header.ensures ∙ c.in-Ok.is) c.in_ok-check_parties.ensures (outline_view h.delims c.in_ok-outline.outline) c.in_ok-outline.ensures.read (c.in_ok-check_contents.ensures h.delims))
    c.in_err-book.field-0.0 (c.in_err-book.ensures.refused h.delims)))
    c.from_residual-in_err-book.ensures.1

pub returns-clause-allowed : goal.returns-clause-allowed
returns-clause-allowed c =
    let me = c.args.me.now in
    let book = c.args.book.now in
    let h = c.in-Ok.header in
    let o = c.in_ok-outline.outline in
    allowed me book c.args.bytes.now h (sym c.read_header.ensures ∙ c.in-Ok.is) c.in_ok-check_parties.ensures (outline_view h.delims o) c.in_ok-outline.ensures.read (c.in_ok-check_contents.ensures h.delims)
    (c.in_ok-book.ensures.uses h.delims).numbers

pub returns-clause-sendable : goal.returns-clause-sendable
returns-clause-sendable c =
    let h = c.in-Ok.header in
    let groups = c.in_ok-outline.outline.groups in
    let few = length-map groups.items (group_view h.delims) in
    let most = c.in_ok-outline.ensures.groups in
    let same = groups.ok.0 in
    sendable c.args.bytes.now h (outline_view h.delims c.in_ok-outline.outline) (c.in_ok-check_contents.ensures h.delims) c.args.book.now c.in_ok-book.book
    (c.in_ok-book.ensures.uses h.delims)
    (omega arith) (subst (λ n. n ≤ 400) (sym (viewed_sizes h.delims groups.items)) c.in_ok-outline.ensures.sets)
