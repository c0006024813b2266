-- Keys of transaction sets: two are the same where the test says so.
use Rattle.std.proofs.Common.{◌≡◌, true, arith}
use Rattle.std.proofs.lemmas.Bool.Decides.{nat_tests}
use Rattle.x12_acks.specs.Submission.{TransactionSetKey}
use Rattle.x12_acks.specs.Key.{is_same_key}
use Rattle.x12_acks.proofs.ReplyGroupLemmas.{same_party_itself}

pub key_itself : (k : TransactionSetKey) → is_same_key k k ≡ true
key_itself k = rw (same_party_itself k.sender) (grind (arith, nat_tests))
