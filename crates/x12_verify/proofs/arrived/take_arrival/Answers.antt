use Rattle.std.proofs.Common.{◌∙◌, ap, map, subst, sym, IfSome}
use Rattle.x12_envelopes.specs.declared.party.Party.{Party}
use Rattle.x12_envelopes.specs.Header.{header_of}
use Rattle.x12_inbound.specs.Filing.{reply_bytes}
use Rattle.x12_judge.specs.Agreement.{agreement_view}
use Rattle.x12_profile.specs.declared.edition.Edition.{Edition}
use Rattle.x12_profile.specs.Edition.{Marks, edition_at}
use Rattle.x12_profile.specs.X12.{judged_by}
use Rattle.x12_profile.proofs.FieldLemmas.{has_header_is}
use Rattle.x12_station.specs.Durable.{WasAnswered}
use Rattle.x12_verify.specs.Arrived.{WasDueFrom, filed_rightly}
use Rattle.x12_verify.proofs.DueLemmas.{was_answered}
use Rattle.x12_verify.proofs.arrived.take_arrival.Goals as goal

pub returns-clause-right : goal.returns-clause-right
returns-clause-right g c = λ answers.
    let b = c.args.filed.now.bytes.items in
    let h = c.in-Ok.header in
    let r = reply_bytes c.args.filed.now.reply in
    let own = c.in_ok-own.own in
    let known = ap header_of (sym c.deref.ensures.value) ∙ sym c.read_header.ensures ∙ c.in-Ok.is in
    let book = c.args.holder.now.loaded.now.book in
    let ed = c.at-edition.result in
    let due = subst (λ o. IfSome o (λ d. WasDueFrom h (judged_by ed own.me (map agreement_view d.agreements.items) h b) (record own { at = d.at }) r)) c.in-Some.is c.in_ok-due.ensures in
    record {
      header = has_header_is b h known;
      filed = c.in_ok-test_filed.ensures.filed answers;
      answered =
          subst (λ (by : Edition). WasAnswered by c.args.holder.now.owner.party book (filed_rightly b r)) (c.at-edition.ensures ∙ ap (λ (k : Marks). edition_at k c.args.number) c.marks.ensures)
          (subst (λ (p : Party). WasAnswered ed p book (filed_rightly b r)) c.in_ok-own.ensures.me
          (was_answered b h known ed (map agreement_view c.in-Some.due.agreements.items) (record own { at = c.in-Some.due.at }) r due book c.in_ok-own.ensures.icn.0 c.in_ok-own.ensures.gcn.0));
    }
