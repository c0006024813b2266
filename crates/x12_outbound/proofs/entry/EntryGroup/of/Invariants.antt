use Rattle.std.proofs.Common.{◌≡◌, take, map, false}
use Rattle.x12_envelopes.specs.Shape.{bytes_of_set_no}
use Rattle.x12_outbound.specs.declared.fate.Fate.TheVariants.{Pending}
use Rattle.x12_outbound.specs.Entry.{set_row}
use Rattle.x12_outbound.proofs.entry.EntryGroup.of.Given as goal

-- the sets so far are entered
abbrev pub invariant-loop-set : goal.invariant-loop-set
invariant-loop-set l =
    map set_row l.sets.items
    ≡ map (λ s. record { number = bytes_of_set_no s.number; fate = Pending; is_out = false }) (take l.set-index l.set-items)
