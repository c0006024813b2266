-- When an open interchange is sent again, by the schedules of the outbound ledger. They aren't
-- kept: a restart begins new ones, and then each open interchange is due at once.
use Rattle.std.specs.Prelude.{ℕ, List, ◌==◌, nat_le, find, option_map, unwrap_or, if◌then◌else◌}
use Rattle.x12_outbound.specs.declared.schedule.Schedule.{Schedule}
use Rattle.x12_outbound.specs.Schedule.{unsent_schedule, sent_at}

-- the schedule of the open interchange with this number
pub record Sending : Type 0 where
  pub number : ℕ
  pub schedule : Schedule

-- the schedule under a number; what has none is due at once
abbrev pub schedule_of : List Sending → ℕ → Schedule
schedule_of sendings n =
    unwrap_or (option_map (λ q. q.schedule) (find (λ q. q.number == n) sendings)) unsent_schedule

-- sent once more at this tick, if it is due
abbrev pub sent_if_due : ℕ → Sending → Sending
sent_if_due now q =
    if nat_le q.schedule.due now
    then record q { schedule = sent_at now q.schedule }
    else q
