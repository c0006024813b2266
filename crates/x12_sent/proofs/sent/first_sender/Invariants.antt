use Rattle.std.proofs.Common.{◌≡◌, drop}
use Rattle.x12_envelopes.specs.Writing.{texts}
use Rattle.x12_sent.specs.Sent.{first_sender_of}
use Rattle.x12_sent.proofs.sent.first_sender.Given as goal

abbrev pub invariant-loop-bytes : goal.invariant-loop-bytes
invariant-loop-bytes l = first_sender_of (texts (drop l.bytes-index l.interchanges)) ≡ first_sender_of (texts l.interchanges)
