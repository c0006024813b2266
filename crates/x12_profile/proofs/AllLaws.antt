-- The profile of X12 meets every law of the network.
use Rattle.x12_profile.specs.Laws.{Laws}
use Rattle.x12_profile.specs.X12.{x12}
use Rattle.x12_profile.proofs.Below.{Below}
use Rattle.x12_profile.proofs.SubmissionLemmas as submission
use Rattle.x12_profile.proofs.ReplyLemmas as reply
use Rattle.x12_profile.proofs.AboutLemmas as about
use Rattle.x12_profile.proofs.TellsLemmas as telling
use Rattle.x12_profile.proofs.RefusalLemmas as refusal
use Rattle.x12_profile.proofs.NamedLemmas.{told_by}

pub all_laws : Below → Laws x12
all_laws g = record {
  submission = record {
    has_group = submission.has_group;
    one_at_a_place = submission.one_at_a_place;
    tells_nothing = submission.tells_nothing;
  };
  reply = record {
    from = reply.from g;
    to = reply.to g;
    number = reply.number g;
    no_groups = reply.no_groups g;
    about = about.about g;
    is_taken = reply.is_taken g;
    tells = telling.tells g;
    result = reply.result g;
    accepts_no_group = reply.accepts_no_group g;
    accepts_no_other = reply.accepts_no_other g;
  };
  refusal = record {
    from = refusal.from g;
    to = refusal.to g;
    number = refusal.number g;
    no_groups = refusal.no_groups g;
    about = refusal.about g;
    is_taken = refusal.is_taken g;
    tells = refusal.tells g;
  };
  told_by = told_by;
  refuses_others = reply.refuses_others;
}
