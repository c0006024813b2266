use Rattle.x12_acks.proofs.ReadingLemmas.{head_read, first_astray, second_astray, no_first, no_second}
use Rattle.x12_acks.proofs.answer.read_statements.Goals as goal

pub returns-in_default : goal.returns-in_default
returns-in_default c = no_first c.in_default.ensures.steps.0

pub returns-in_default-next : goal.returns-in_default-next
returns-in_default-next c = no_second c.in-Some.first c.in-Some.ensures.steps c.in_default-next.ensures.steps.0

pub returns-in-Ak1 : goal.returns-in-Ak1
returns-in-Ak1 c =
    rw (← head_read c.in-Some.ensures.steps c.in-Some-next.ensures.steps c.in-St.is c.in-Ak1.is) c.read_listed.ensures

pub returns-in_default-second : goal.returns-in_default-second
returns-in_default-second c =
    second_astray c.in-Some.ensures.steps c.in-Some-next.ensures.steps c.in-St.is c.in_default-second.not-Ak1

pub returns-in_default-first : goal.returns-in_default-first
returns-in_default-first c = first_astray c.in-Some.ensures.steps c.in_default-first.not-St
