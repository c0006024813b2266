-- What the code's events stand for, and what it asks.
use Rattle.std.specs.Prelude.{ℕ}
use Rattle.x12_core.specs.declared.ask.AskRef.{AskRef}
use Rattle.x12_core.specs.View.{action_view, name_view, ref_view}
use Rattle.x12_world.specs.declared.event.Event.{Event as CodeEvent}
use Rattle.x12_world.specs.declared.event.Event.TheVariants as code
use Rattle.x12_world.specs.Effect.{Asked}
use Rattle.x12_world.specs.World.{Event, At, Deliver, Outside}

abbrev pub event_view : CodeEvent → Event
event_view (code.At node action) = At node (action_view action)
event_view (code.Deliver packet at) = Deliver (name_view packet) at
event_view (code.Outside node bytes at) = Outside node bytes.items at

abbrev pub asked_view : ℕ × AskRef → Asked
asked_view t = record { node = t.0; ask = ref_view t.1 }
