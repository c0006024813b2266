-- How long a reply is: far below the 1,048,576 bytes that an interchange may have (X12.5).
use Rattle.std.specs.Prelude.{◌≡◌, ◌<◌, ◌≤◌, ℕ, List, length, Ok}
use Rattle.std.specs.List.{sum_by}
use Rattle.x12_envelopes.specs.declared.party.Party.{Party}
use Rattle.x12_envelopes.specs.declared.moment.Moment.{Moment}
use Rattle.x12_envelopes.specs.declared.header.Header.{Header}
use Rattle.x12_envelopes.specs.Header.{header_of}
use Rattle.x12_envelopes.specs.Envelope.{WrittenInterchange, WrittenGroup, written}
use Rattle.x12_judge.specs.Controls.{JudgingTerms}
use Rattle.x12_judge.specs.Verdict.{judgement_of}
use Rattle.x12_acks.specs.Reply.{reply_of, refusal_of, MayAnswer}

-- fewer than 400,000 bytes, at most one functional group, and at most 32 transaction sets
pub record IsShort (x : WrittenInterchange) : Type 0 where
  pub bytes : length (written x) < 400000
  pub groups : length x.groups ≤ 1
  pub sets : sum_by (λ (g : WrittenGroup). length g.sets) x.groups ≤ 32

-- A reply to an interchange whose header can be read, and a refusal of it with a note of at most
-- three digits, are short, from one who may answer it, under control numbers of at most nine
-- digits.
pub record ReplyIsShort : Type 0 where
  pub reply :
      (me : Party) (terms : JudgingTerms) (h : Header) (bytes : List ℕ) (at : Moment)
      (icn gcn : ℕ) →
      header_of bytes ≡ Ok h → MayAnswer h me → icn ≤ 999999999 → gcn ≤ 999999999 →
      IsShort (reply_of h (judgement_of me terms h bytes) me at icn gcn)
  pub refusal :
      (me : Party) (note : ℕ) (h : Header) (bytes : List ℕ) (at : Moment) (icn : ℕ) →
      header_of bytes ≡ Ok h → MayAnswer h me → icn ≤ 999999999 → note ≤ 999 →
      IsShort (refusal_of note h me at icn)
