-- What was checked settles the network.
use Rattle.std.proofs.Common.{◌≡◌, ◌∙◌, ◌&&◌, sym, ap, ap₂, subst, bytes_eq, true}
use Rattle.std.proofs.lemmas.Bool.{not-true, not-false}
use Rattle.x12_nodes.specs.Check.{stamps_logged}
use Rattle.x12_nodes.specs.Merging.{stamps_rise_from}
use Rattle.x12_nodes.specs.Receiving.{stamps_passed}
use Rattle.x12_nodes.specs.Settling.{IsInconsistent}
use Rattle.x12_nodes.proofs.ReceivingLemmas.{are_settled, stranger_found}
use Rattle.x12_nodes.proofs.SettlingLemmas.{bytes_apart, bytes_known, each_answers, each_replayed}
use Rattle.x12_outbound.proofs.SubmittingLemmas.{handed}
use Rattle.x12_nodes.proofs.settling.check_network.Goals as goal

pub returns-in_err-stamps-clause-inconsistent : goal.returns-in_err-stamps-clause-inconsistent
returns-in_err-stamps-clause-inconsistent g c =
    let fault = c.in_err-stamps.field-0.0 in
    handed c.from_residual.result fault (IsInconsistent c.args.cells.now c.args.passes.now) (λ e f. f ≡ e)
    (λ f same. subst (IsInconsistent c.args.cells.now c.args.passes.now) (sym same) (c.in_err-stamps.ensures.inconsistent c.args.passes.now))
    c.from_residual.ensures.1

-- the passes' stamps aren't those of the logs
pub returns-then-ne-clause-inconsistent : goal.returns-then-ne-clause-inconsistent
returns-then-ne-clause-inconsistent g c =
    let nothing = c.in_ok-stamps.ensures.nothing in
    let received = c.in_ok-received.received.items in
    let stamps = c.in_ok-stamps.stamps.items in
    let stand = sym c.if-not-all_stand.ensures in
    let rises : stamps_rise_from 0 (stamps_passed c.args.passes.now) ≡ true = ap (stamps_rise_from 0) (sym (c.deref.ensures.value ∙ c.in_ok-received.ensures)) ∙ sym c.if-not-rise.ensures in
    let differ = bytes_apart received stamps (not-true (bytes_eq received stamps) (sym c.if-ne.ensures)) in (
      stranger_found c.args.cells.now c.args.passes.now nothing stand rises (λ same. differ (c.in_ok-received.ensures ∙ same ∙ sym c.in_ok-stamps.ensures.stamps)),
      (ap₂ (λ a b. a && b) stand rises, (nothing.replay, (nothing.packet, (nothing.stamp, tt)))),
    )

pub returns-clause-settled : goal.returns-clause-settled
returns-clause-settled g c = λ answers.
    let cells = c.args.cells.now in
    let received = c.in_ok-received.received.items in
    let stamps = c.in_ok-stamps.stamps.items in
    let alike : received ≡ stamps = bytes_known received stamps (not-false (bytes_eq received stamps) (sym c.if-ne.ensures)) in
    let same : stamps_passed c.args.passes.now ≡ stamps_logged cells = sym c.in_ok-received.ensures ∙ alike ∙ c.in_ok-stamps.ensures.stamps in
    are_settled cells c.args.passes.now (λ d has. each_replayed cells d c.are_replayed.ensures has) (λ d has. each_answers cells d answers has)
    c.in_ok-stamps.ensures.nothing (sym c.if-not-all_stand.ensures) same c.merge_is_run.ensures.run c.merge_is_run.ensures.each c.merge_is_run.ensures.headline
