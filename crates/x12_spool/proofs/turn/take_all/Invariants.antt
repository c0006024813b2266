use Rattle.std.proofs.Common.{take}
use Rattle.x12_envelopes.specs.Writing.{texts}
use Rattle.x12_spool.specs.Turn.{Does, TakesAll}
use Rattle.x12_spool.proofs.turn.take_all.Given as goal

-- the interchanges before this one were taken
abbrev pub invariant-loop-bytes : goal.invariant-loop-bytes
invariant-loop-bytes g l =
    Does (g.P.Spool.done l.fn.spool) (g.P.Spool.done l.spool)
    (TakesAll g.N.Node l.name (texts (take l.bytes-index l.interchanges)) l.fn.node l.node l.any)
