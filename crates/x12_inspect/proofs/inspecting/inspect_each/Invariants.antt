use Rattle.std.proofs.Common.{◌≡◌, drop, ◌&&◌}
use Rattle.x12_envelopes.specs.Writing.{texts}
use Rattle.x12_inspect.proofs.inspecting.inspect_each.Given as goal

abbrev pub invariant-loop-index : goal.invariant-loop-index
invariant-loop-index g l =
    let left = texts (drop l.index l.interchanges) in
    record {
      right : (l.all_right && g.I.Inspector.all_right l.inspector left) ≡ g.I.Inspector.all_right l.fn.inspector (texts l.interchanges);
      asked : (last : g.row.I.Denot) → g.I.Inspector.asked l.inspector left last → g.I.Inspector.asked l.fn.inspector (texts l.interchanges) last;
    }
