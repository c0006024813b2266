-- the records stay as sound as they were
use Rattle.x12_mailbox.proofs.logging.log_history.Given as goal

abbrev pub invariant-loop-seq : goal.invariant-loop-seq
invariant-loop-seq g l = g.R.Records.valid l.records
