-- That what is posted of an interchange is what the reply that is kept accepts (997, AK501 and
-- AK901).
use Rattle.std.specs.Prelude.{◌≡◌, ◌≤◌, ℕ, List, [], Some, None, Ok}
use Rattle.x12_envelopes.specs.Outline.{outline_of}
use Rattle.x12_envelopes.specs.Shape.{Interchange}
use Rattle.x12_judge.specs.Verdict.{InterchangeJudgement}
use Rattle.x12_acks.specs.Reply.{MayAnswer}
use Rattle.x12_acks.specs.Accepted.{accepted_by_verdict}
use Rattle.x12_acks.specs.Place.{AcceptsSets}
use Rattle.x12_inbound.specs.Arrival.{Arrival, HasDueReply}

-- The postings of an interchange, which are the transaction sets that its verdict accepts, are
-- those that the reply to it accepts by place, as it is read; where no reply is due there are none.
-- The reply comes from one who may answer the interchange, under control numbers of at most nine
-- digits.
pub record PostsWhatIsAccepted : Type 0 where
  pub reply :
      (a : Arrival) (j : InterchangeJudgement) (reply : List ℕ) (x : Interchange)
      (answered : HasDueReply a j (Some reply)) →
      outline_of answered.header.delims a.bytes ≡ Ok x →
      MayAnswer answered.header answered.me →
      answered.reply.icn ≤ 999999999 → answered.reply.gcn ≤ 999999999 →
      AcceptsSets answered.header x reply (accepted_by_verdict a.partner a.icn j.verdict)
  pub none :
      (a : Arrival) (j : InterchangeJudgement) → HasDueReply a j None →
      accepted_by_verdict a.partner a.icn j.verdict ≡ []
