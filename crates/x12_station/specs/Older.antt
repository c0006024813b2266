-- Answers as an edition reads them: by the first one, a transaction set that is accepted with errors
-- noted is accepted like any other.
use Rattle.std.specs.Prelude.{List, map}
use Rattle.x12_acks.specs.Answer.{Acknowledgment, of_group, TransactionSetAnswer}
use Rattle.x12_acks.specs.declared.answer.AnswerCode.{AnswerCode}
use Rattle.x12_acks.specs.declared.answer.AnswerCode.TheVariants.{Accepted, ErrorsNoted}
use Rattle.x12_profile.specs.declared.edition.Edition.{Edition}
use Rattle.x12_profile.specs.declared.edition.Edition.TheVariants.{First, Second, Third}

-- AK501 as it was read before errors were told as noted
abbrev pub code_before : AnswerCode → AnswerCode
code_before ErrorsNoted = Accepted
code_before code = code

-- so is the answer for a listed transaction set, and for the group that lists it
abbrev pub set_answer_before : TransactionSetAnswer → TransactionSetAnswer
set_answer_before a = record a { code = code_before a.code }

abbrev pub answer_before : Acknowledgment → Acknowledgment
answer_before (of_group a) = of_group (record a { sets = map set_answer_before a.sets })
answer_before answer = answer

-- answers as they are read by an edition
abbrev pub answers_as_read : Edition → List Acknowledgment → List Acknowledgment
answers_as_read First answers = map answer_before answers
answers_as_read Second answers = answers
answers_as_read Third answers = answers
