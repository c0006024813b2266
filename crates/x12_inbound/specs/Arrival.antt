-- An interchange that arrived, what it was answered, and what is kept of it.
use Rattle.std.specs.Prelude.{◌≡◌, ℕ, List, Option, Ok, All, AllPairs}
use Rattle.std.specs.declared.cmp.Ordering.TheVariants.{Less}
use Rattle.x12_envelopes.specs.declared.party.Party.{Party}
use Rattle.x12_envelopes.specs.declared.header.Header.{Header}
use Rattle.x12_envelopes.specs.declared.moment.Moment.{Moment}
use Rattle.x12_envelopes.specs.Header.{header_of}
use Rattle.x12_judge.specs.Controls.{JudgingTerms}
use Rattle.x12_judge.specs.Verdict.{InterchangeJudgement, judgement_of}
use Rattle.x12_acks.specs.Reply.{due_reply}
use Rattle.x12_inbound.specs.declared.arrival.Arrived.{Arrived}
use Rattle.x12_inbound.specs.Order.{interchange_holding, set_order}
use Rattle.x12_inbound.specs.Filing.{FiledInterchange, filed_key}
use Rattle.x12_acks.specs.Accepted.{AcceptedSet, accepted_by_verdict}

-- an interchange that arrived: its sender, its number (ISA13), and its bytes
pub record Arrival : Type 0 where
  pub partner : Party
  pub icn : ℕ
  pub bytes : List ℕ

abbrev pub arrival : Party → ℕ → List ℕ → Arrival
arrival partner icn bytes = record { partner = partner; icn = icn; bytes = bytes }

-- what the code's arrival stands for
abbrev pub arrived_view : Arrived → Arrival
arrived_view a = arrival a.partner a.icn a.bytes.now

-- the reply to this interchange, written at some moment under some control numbers, where one is
-- due, and else none
pub record IsDueReply (me : Party) (h : Header) (j : InterchangeJudgement)
    (kept : Option (List ℕ)) : Type 0 where
  pub at : Moment
  pub icn : ℕ
  pub gcn : ℕ
  pub is : kept ≡ due_reply h j me at icn gcn

-- the judgement is that of the arrived bytes at some station by some terms, and the reply is the reply
-- to it
pub record HasDueReply (a : Arrival) (j : InterchangeJudgement)
    (kept : Option (List ℕ)) : Type 0 where
  pub me : Party
  pub terms : JudgingTerms
  pub header : Header
  pub is_header : header_of a.bytes ≡ Ok header
  pub partner : header.sender ≡ a.partner
  pub icn : header.icn ≡ a.icn
  pub judgement : j ≡ judgement_of me terms header a.bytes
  pub reply : IsDueReply me header j kept

-- what is kept of an interchange: what is filed, and its postings
pub record Filing : Type 0 where
  pub filed : FiledInterchange
  pub postings : List AcceptedSet

-- an interchange with its reply, and the accepted transaction sets of its judgement
abbrev pub filing_of : Arrival → InterchangeJudgement → Option (List ℕ) → Filing
filing_of a j reply = record {
  filed = record { partner = a.partner; icn = a.icn; bytes = a.bytes; reply = reply };
  postings = accepted_by_verdict a.partner a.icn j.verdict;
}

-- each key is below those behind it
abbrev pub RiseByKey : List AcceptedSet → Type 0
RiseByKey postings = AllPairs (λ p q. set_order p.key q.key ≡ Less) postings

-- postings of this interchange, by rising key
pub record ArePostingsOf (filed : FiledInterchange) (postings : List AcceptedSet) : Type 0 where
  pub rise : RiseByKey postings
  pub theirs : All (λ p. interchange_holding p.key ≡ filed_key filed) postings
