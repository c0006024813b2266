use Rattle.std.proofs.Common.{◌≡◌, ◌-◌, ◌^◌, ap, sym, subst, ◌∙◌, arith}
use Rattle.std.proofs.lemmas.Bool.{le-leb}
use Rattle.x12_envelopes.specs.Shape.{outline_view}
use Rattle.x12_outbound.specs.Entry.{InterchangeRow}
use Rattle.x12_outbound.proofs.SubmittingLemmas.{handed, inside_none}
use Rattle.x12_station.specs.Fault.{fault_of_submitting, item_fault, prepared_fault}
use Rattle.x12_station.specs.working.Prepared.{IsRowOrMemory, Knows, MayEnter}
use Rattle.x12_station.specs.Station.{Station}
use Rattle.x12_station.proofs.EnterLemmas.{bytes_of_submission, may_enter}
use Rattle.x12_station.proofs.PreparedLemmas.{by_number, by_submitting, few_left}
use Rattle.x12_station.proofs.prepared.read_prepared.Goals as goal

pub returns-in_err-read-clause-refused : goal.returns-in_err-read-clause-refused
returns-in_err-read-clause-refused c =
    let m = c.args.memory.now in
    let x = c.args.bytes.now in
    handed c.from_residual.result c.in_err-read.field-0.0 (λ f. (s : Station) → Knows m s → IsRowOrMemory (prepared_fault s x) f) (λ e f. f ≡ fault_of_submitting e)
    (λ f same s knows. subst (IsRowOrMemory (prepared_fault s x)) (sym same) (by_submitting m s knows x c.in_err-read.field-0.0 c.in_err-read.ensures.refused))
    c.from_residual.ensures.1

pub returns-then-memory-ge-LAST_ITEM-clause-refused : goal.returns-then-memory-ge-LAST_ITEM-clause-refused
returns-then-memory-ge-LAST_ITEM-clause-refused c = λ s knows.
    let m = c.args.memory.now in
    (by_number m s knows c.args.bytes.now c.in_ok-read.ensures.allowed ∙ ap item_fault (le-leb (2 ^ 63 - 1) m.seq c.if-memory-ge-LAST_ITEM.true), λ e. cc)

pub returns-clause-bytes : goal.returns-clause-bytes
returns-clause-bytes c =
    let read = c.in_ok-read.read in
    ap (λ (e : InterchangeRow). e.bytes) c.in_ok-entry.ensures ∙ bytes_of_submission read.header c.args.bytes.now (outline_view read.header.delims read.outline)

pub returns-clause-allowed : goal.returns-clause-allowed
returns-clause-allowed c = λ s knows.
    let m = c.args.memory.now in
    by_number m s knows c.args.bytes.now c.in_ok-read.ensures.allowed ∙ ap item_fault (few_left m.seq (omega (arith, c.if-memory-ge-LAST_ITEM.false)))

pub returns-clause-may : goal.returns-clause-may
returns-clause-may c =
    let m = c.args.memory.now in
    let x = c.args.bytes.now in
    let read = c.in_ok-read.read in
    let h = read.header in
    let o = outline_view h.delims read.outline in
    let is = c.in_ok-read.ensures in
    let none = inside_none m.me m.book x h o is.header is.outline is.allowed in
    subst (MayEnter m read.book) (sym c.in_ok-entry.ensures)
    (may_enter m read.book x h o is.header is.outline none.0 none.1 is.uses is.sendable (omega (arith, c.if-memory-ge-LAST_ITEM.false)))
