-- The schedule of sendings: an open interchange is sent again after 1, 2, 4 .. ticks, and from then
-- on after 64.
use Rattle.std.specs.Prelude.{ℕ, ◌+◌, ◌-◌, ◌^◌, min, max}
use Rattle.x12_outbound.specs.declared.schedule.Schedule.{Schedule}

-- the greatest tick, and the greatest count: both stay there
abbrev pub greatest : ℕ
greatest = 2 ^ 64 - 1

-- not sent yet: due at once
abbrev pub unsent_schedule : Schedule
unsent_schedule = record { sendings = 0; due = 0 }

-- how long to wait after the sending that makes this number of sendings
abbrev pub wait_after : ℕ → ℕ
wait_after sendings = min (2 ^ (sendings - 1)) 64

-- after one sending more, at this tick
unfoldable pub sent_at : ℕ → Schedule → Schedule
sent_at now s =
    let sendings = min (s.sendings + 1) greatest in
    record { sendings = sendings; due = min (now + wait_after sendings) greatest }

-- a tick that is smaller than the greatest one seen counts as that one
abbrev pub tick_seen : ℕ → ℕ → ℕ
tick_seen seen now = max seen now
