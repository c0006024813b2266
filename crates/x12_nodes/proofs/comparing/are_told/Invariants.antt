-- what is left decides
use Rattle.std.proofs.Common.{◌≡◌, length, map}
use Rattle.std.specs.Cmp.Lexicographic.{pointwise}
use Rattle.x12_core.specs.View.{packet_view}
use Rattle.x12_nodes.specs.Comparing.{told_is}
use Rattle.x12_nodes.specs.Log.{told_of_packets}
use Rattle.x12_nodes.specs.View.{told_kind_view}
use Rattle.x12_nodes.proofs.comparing.are_told.Given as goal

abbrev pub invariant-loop-packet : goal.invariant-loop-packet
invariant-loop-packet l =
    pointwise told_is (told_of_packets (map packet_view l.left)) (map told_kind_view l.right)
    ≡ pointwise told_is (told_of_packets (map packet_view l.packets)) (map told_kind_view l.told)

abbrev pub decreases-loop-packet : goal.decreases-loop-packet
decreases-loop-packet l = length l.left
