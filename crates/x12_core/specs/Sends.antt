-- What the code has of a node's packets before memory is found for them.
use Rattle.std.specs.Prelude.{List, [], ◌∷◌, map}
use Rattle.x12_core.specs.declared.sends.Sends.{Sends}
use Rattle.x12_core.specs.declared.sends.Sends.TheVariants.{Nothing, One, Submitted, Two, Deposits}
use Rattle.x12_core.specs.declared.sends.Sends.TheVariants.{Items}
use Rattle.std.specs.Arc.{arc_slice_items}
use Rattle.x12_core.specs.Effect.{deposits, items_to}
use Rattle.x12_core.specs.Packet.{Packet}
use Rattle.x12_core.specs.View.{packet_view}
use Rattle.x12_hub.specs.Mailbox.{item_view}
use Rattle.x12_profile.specs.X12.{x12}

abbrev pub sends_view : Sends → List Packet
sends_view Nothing = []
sends_view (One q) = packet_view q ∷ []
sends_view (Submitted at icn bytes) = deposits at (arc_slice_items bytes ∷ [])
sends_view (Two q r) = packet_view q ∷ packet_view r ∷ []
sends_view (Deposits at sent) = deposits at (map arc_slice_items sent.items)
sends_view (Items hub to sent) = items_to x12 hub to (map item_view sent.items)
