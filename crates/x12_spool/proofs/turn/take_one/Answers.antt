use Rattle.std.proofs.Common.{inr, ◌∷◌, []}
use Rattle.x12_station.specs.Outgoing.{outgoing_bytes}
use Rattle.x12_spool.proofs.DeedLemmas.{err_holds}
use Rattle.x12_spool.proofs.turn.take_one.Goals as goal

-- it was taken, and what it sends wasn't put on
pub returns-in_err-send-in-Ok-Sends-Some-clause-stopped : goal.returns-in_err-send-in-Ok-Sends-Some-clause-stopped
returns-in_err-send-in-Ok-Sends-Some-clause-stopped g c =
    err_holds (inr (outgoing_bytes c.in-Ok-Sends-Some.reply ∷ [], rw (c.in-Ok-Sends-Some.field-0-is, c.in-Ok-Sends-Some.field-0-0-is) at c.in-Ok-Sends-Some.ensures)) _
