-- the records stay as sound as they were
use Rattle.x12_mailbox.proofs.history.look_at_all.Given as goal

abbrev pub invariant-loop-number : goal.invariant-loop-number
invariant-loop-number g l = g.R.Records.valid l.records
