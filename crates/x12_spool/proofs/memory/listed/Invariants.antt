use Rattle.std.proofs.Common.{◌≡◌, map, take}
use Rattle.x12_spool.specs.Deed.{file_view}
use Rattle.x12_spool.specs.Memory.{stored_view}
use Rattle.x12_spool.proofs.memory.listed.Given as goal

abbrev pub invariant-loop-file : goal.invariant-loop-file
invariant-loop-file l = map file_view l.waiting.items ≡ map stored_view (take l.file-index l.files)
