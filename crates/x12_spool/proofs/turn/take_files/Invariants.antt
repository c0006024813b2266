use Rattle.std.proofs.Common.{map, take}
use Rattle.x12_spool.specs.Deed.{file_view}
use Rattle.x12_spool.specs.Turn.{Does, TakesFiles}
use Rattle.x12_spool.proofs.turn.take_files.Given as goal

-- the files before this one were taken
abbrev pub invariant-loop-file : goal.invariant-loop-file
invariant-loop-file g l =
    Does (g.P.Spool.done l.fn.spool) (g.P.Spool.done l.spool)
    (TakesFiles g.N.Node (map file_view (take l.file-index l.files)) l.fn.node l.node)
