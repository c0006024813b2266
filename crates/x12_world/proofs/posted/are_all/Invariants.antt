use Rattle.std.proofs.Common.{◌≡◌, drop, map}
use Rattle.std.specs.Prelude.{bytes_eq}
use Rattle.std.specs.List.{list_all}
use Rattle.x12_world.proofs.posted.are_all.Given as goal

-- each that was seen has these bytes
abbrev pub invariant-loop-one : goal.invariant-loop-one
invariant-loop-one l = list_all (bytes_eq l.bytes) (map (λ b. b.items) (drop l.one-index l.all)) ≡ list_all (bytes_eq l.bytes) (map (λ b. b.items) l.all)
