-- Answering a transmission: the reply to each of its interchanges in order, under control numbers
-- that are used in turn.
use Rattle.std.specs.Prelude.{◌≡◌, ℕ, ◌+◌, Bool, List, [], ◌∷◌, ◌++◌, Option, Some, None, Result, Ok, Err, unwrap_or, is_some, if◌then◌else◌, flat_map, codes, decimal}
use Rattle.std.specs.List.{list_any}
use Rattle.std.specs.Io.KnownBytes.{Appends}
use Rattle.x12_envelopes.specs.declared.party.Party.{Party}
use Rattle.x12_envelopes.specs.declared.moment.Moment.{Moment}
use Rattle.x12_envelopes.specs.declared.header.Header.{Header}
use Rattle.x12_envelopes.specs.declared.header.HeaderFault.{HeaderFault}
use Rattle.x12_envelopes.specs.Header.{header_of}
use Rattle.x12_envelopes.specs.Fault.{header_fault_number}
use Rattle.x12_envelopes.specs.Transmission.{AreSlices}
use Rattle.x12_judge.specs.Agreement.{TradingAgreement}
use Rattle.x12_judge.specs.Controls.{newest_terms}
use Rattle.x12_judge.specs.Verdict.{InterchangeJudgement, judgement_of}
use Rattle.x12_acks.specs.Reply.{due_reply, takes_group_number}
use Rattle.x12_answering.specs.declared.fault.RunStatus.{RunStatus}
use Rattle.x12_answering.specs.declared.fault.RunStatus.TheVariants.{Answered, Incomplete}
use Rattle.x12_answering.specs.declared.number.NextNumbers.{NextNumbers}
use Rattle.x12_answering.specs.declared.options.Options.{Options}
use Rattle.x12_answering.specs.Number.{numbers_are_exhausted, numbers_behind}
use Rattle.x12_answering.specs.Output.{AppendsFront}

-- who answers and when; whether sets are accepted whose only errors are in elements, with these
-- noted; and the pairs of GS01 and ST01 that are taken from every partner
pub record Terms : Type 0 where
  pub me : Party
  pub at : Moment
  pub lenient : Bool
  pub pairs : List (List ℕ × List ℕ)

-- what becomes of an interchange: its reply, the line that says why it has none, and the numbers
-- left behind it
pub record Answer : Type 0 where
  pub reply : List ℕ
  pub line : Option (List ℕ)
  pub next : NextNumbers

-- the agreement with a partner: these pairs are taken from every one, and from every one leniently
-- or from none
abbrev pub agreements_on : Bool → List (List ℕ × List ℕ) → Party → List TradingAgreement
agreements_on lenient pairs partner =
    record { partner = partner; lenient = lenient; pairs = pairs } ∷ []

-- the line on an interchange without a reply: its place in the transmission, from 1, and why
unfoldable pub line_of : ℕ → List ℕ → List ℕ
line_of place why = codes "interchange " ++ decimal place ++ codes ": " ++ why ++ 10 ∷ []

-- an interchange that is never answered
abbrev pub silent : NextNumbers → Answer
silent next = record { reply = []; line = None; next = next }

-- an interchange that goes without a reply, and why: no number is used up
abbrev pub without_reply : NextNumbers → ℕ → List ℕ → Answer
without_reply next place why =
    record { reply = []; line = Some (line_of place why); next = next }

-- an interchange that is replied to, where numbers are left, with a group's or without
abbrev pub with_reply : NextNumbers → ℕ → Bool → List ℕ → Answer
with_reply next place takes_group reply =
    if numbers_are_exhausted next takes_group then without_reply next place (codes "N1")
    else record { reply = reply; line = None; next = numbers_behind next takes_group }

abbrev pub with_due_reply : NextNumbers → ℕ → Bool → Option (List ℕ) → Answer
with_due_reply next place takes_group None = silent next
with_due_reply next place takes_group (Some reply) = with_reply next place takes_group reply

-- the answer to an interchange with this header that deserves this
unfoldable pub judged_answer : Terms → NextNumbers → ℕ → Header → InterchangeJudgement → Answer
judged_answer t next place h j =
    with_due_reply next place (takes_group_number j) (due_reply h j t.me t.at next.icn next.gcn)

abbrev pub answer_by : Terms → NextNumbers → ℕ → List ℕ → Result Header HeaderFault → Answer
answer_by t next place bytes (Ok h) =
    judged_answer t next place h
    (judgement_of t.me (newest_terms (agreements_on t.lenient t.pairs h.sender)) h bytes)
answer_by t next place bytes (Err fault) = without_reply next place (header_fault_number fault)

-- the answer to the interchange at a place of a transmission
unfoldable pub answer_at : Terms → NextNumbers → ℕ → List ℕ → Answer
answer_at t next place bytes = answer_by t next place bytes (header_of bytes)

-- the answers to interchanges, the first of which has this place: each finds the numbers that the
-- one before left
unfoldable pub answers_from : Terms → NextNumbers → ℕ → List (List ℕ) → List Answer
answers_from t next place [] = []
answers_from t next place (bytes ∷ more) =
    let answer = answer_at t next place bytes in
    answer ∷ answers_from t answer.next (place + 1) more

-- what the options stand for
abbrev pub terms_in : Options → Terms
terms_in o = record { me = o.me; at = o.at; lenient = o.lenient; pairs = o.pairs.items }

-- the first control numbers
abbrev pub first_numbers : Options → NextNumbers
first_numbers o = record { icn = o.icn; gcn = o.gcn }

-- the answers to the interchanges of a transmission, one for each
abbrev pub answers_to : Options → List (List ℕ) → List Answer
answers_to o interchanges = answers_from (terms_in o) (first_numbers o) 1 interchanges

-- the replies, one behind the other
abbrev pub replies_in : List Answer → List ℕ
replies_in answers = flat_map (λ a. a.reply) answers

-- the lines on the interchanges without a reply
abbrev pub lines_in : List Answer → List ℕ
lines_in answers = flat_map (λ a. unwrap_or a.line []) answers

-- a line was written
abbrev pub is_incomplete : List Answer → Bool
is_incomplete answers = list_any (λ a. is_some a.line) answers

abbrev pub status_by : Bool → RunStatus
status_by is_line_written = if is_line_written then Incomplete else Answered

-- A transmission is answered: of its interchanges the replies are appended to what one writer held,
-- the lines on those without a reply to what another held, and the status says whether there are
-- such lines.
pub record IsAnswered (o : Options) (input : List ℕ) (out new_out err new_err : Option (List ℕ))
    (status : RunStatus) : Type 0 where
  pub interchanges : List (List ℕ)
  pub cut : AreSlices interchanges input
  pub replies : Appends out new_out (replies_in (answers_to o interchanges))
  pub lines : Appends err new_err (lines_in (answers_to o interchanges))
  pub ends : status ≡ status_by (is_incomplete (answers_to o interchanges))

-- A transmission is answered in part, or not at all: what is appended to one writer is a front of the
-- replies to its interchanges, and what is appended to another a front of the lines on those without
-- a reply.
pub record IsAnsweredInPart (o : Options) (input : List ℕ) (out new_out err new_err : Option (List ℕ))
    : Type 0 where
  pub interchanges : List (List ℕ)
  pub cut : AreSlices interchanges input
  pub replies : AppendsFront out new_out (replies_in (answers_to o interchanges))
  pub lines : AppendsFront err new_err (lines_in (answers_to o interchanges))
