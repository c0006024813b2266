use Rattle.std.proofs.Common.{◌∙◌, ap, sym, map}
use Rattle.x12_profile.specs.Edition.{terms_by}
use Rattle.x12_judge.specs.Agreement.{agreement_view}
use Rattle.x12_judge.specs.Verdict.{judgement_view}
use Rattle.x12_station.specs.Keeps.{cached_edition}
use Rattle.x12_station.proofs.DraftLemmas.{group_is_due}
use Rattle.x12_station.proofs.replying.drafted.Goals as goal

pub taken-requires : goal.taken-requires
taken-requires c = λ takes. c.needs.ensures.reply ∙ group_is_due c.args.header.now (judgement_view c.args.judgement.now) (sym c.needs.ensures.group ∙ takes)

pub judge-requires : goal.judge-requires
judge-requires c = record {
  me = c.args.memory.now.me;
  terms = terms_by (cached_edition c.args.memory.now) (map agreement_view c.args.memory.now.agreements.items);
  header = c.args.header.now;
  is_header = c.requires.read;
  partner = ap (λ a. a.partner) (sym c.requires.filed);
  icn = ap (λ a. a.icn) (sym c.requires.filed);
  judgement = c.requires.judged;
  reply = record { at = c.args.at.now; icn = c.in_ok-book.book.interchange; gcn = c.in_ok-book.book.group; is = c.in_ok-reply.ensures };
}
