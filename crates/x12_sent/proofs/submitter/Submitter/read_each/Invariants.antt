use Rattle.std.proofs.Common.{◌≡◌, drop, ◌&&◌}
use Rattle.x12_envelopes.specs.Writing.{texts}
use Rattle.x12_sent.specs.Submitter.{KeepBoth}
use Rattle.x12_sent.specs.Sender.{all_submitted}
use Rattle.x12_sent.proofs.submitter.Submitter.read_each.Given as goal

abbrev pub invariant-loop-index : goal.invariant-loop-index
invariant-loop-index g l = record {
  keeps : KeepBoth l.self;
  me : l.self.sender.me ≡ l.fn.self.sender.me;
  right : (l.all_right && all_submitted l.fn.self.sender.me l.self.sender.book (texts (drop l.index l.slices))) ≡ all_submitted l.fn.self.sender.me l.fn.self.sender.book (texts l.slices);
}
