-- What holds of a network that runs, between calls.
use Rattle.std.specs.Prelude.{◌≤◌, List, IsTrue, Vec, length}
use Rattle.std.specs.Global.{Global}
use Rattle.x12_core.specs.declared.packet.Packet.{Packet as CodePacket}
use Rattle.x12_core.specs.declared.submission.Listed.{Listed}
use Rattle.x12_profile.specs.X12.{x12}
use Rattle.x12_station.specs.Seen.{StationView}
use Rattle.x12_world.specs.Asking.{states_of}
use Rattle.x12_world.specs.declared.hubs.Hubs.{Hubs as CodeHubs}
use Rattle.x12_world.specs.Reach.{IsReachable}
use Rattle.x12_world.specs.Failing.{failures_of}
use Rattle.x12_world.specs.Running.{Running, answering, clean_beside, nodes_answer, station_clean, world_of}
use Rattle.x12_world.specs.Submission.{AreListed}

-- what is seen of a network with these hubs, stations and packets
abbrev pub running : {H R : Type 0} → CodeHubs H → List (StationView R)
    → List (Vec CodePacket Global) → Running
running h ss held = record {
  world = world_of h ss held;
  answers = answering h ss;
  clean = clean_beside h (station_clean ss);
  failures = failures_of h ss;
}

-- there are at most 16 stations; and while all records answer, a network reached this world, and what
-- its stations submitted is listed
pub record Runs {H R : Type 0} (h : CodeHubs H) (ss : List (StationView R))
    (held : List (Vec CodePacket Global)) (submitted : List Listed) : Type 0 where
  pub few : length ss ≤ 16
  pub reached : IsTrue (nodes_answer h ss) → IsReachable x12 (world_of h ss held)
  pub listed : IsTrue (nodes_answer h ss) → AreListed (states_of ss) submitted
