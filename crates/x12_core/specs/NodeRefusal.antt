-- What a node says where it refuses.
use Rattle.x12_hub.specs.HubRefusal.{HubRefusal}
use Rattle.x12_station.specs.StationRefusal.{StationRefusal}

-- what a node says where it refuses
pub data NodeRefusal : Type 0 where
  OfStation : StationRefusal → NodeRefusal
  OfHub : HubRefusal → NodeRefusal
