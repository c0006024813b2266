-- The keys of transaction sets.
use Rattle.std.specs.Prelude.{Bool, ◌&&◌, ◌==◌}
use Rattle.x12_judge.specs.Agreement.{is_same_party}
use Rattle.x12_acks.specs.Submission.{TransactionSetKey}
use Rattle.x12_acks.specs.declared.key.SetKey.{SetKey}

-- the same sender, interchange number, group and set
abbrev pub is_same_key : TransactionSetKey → TransactionSetKey → Bool
is_same_key j k =
    is_same_party j.sender k.sender && j.icn == k.icn && j.group == k.group && j.set == k.set

-- what the code's key stands for
abbrev pub key_view : SetKey → TransactionSetKey
key_view k = record { sender = k.sender; icn = k.icn; group = k.group; set = k.set }
