-- The audits of all that was submitted.
use Rattle.std.specs.Prelude.{◌≡◌, List, Some, flat_map, map, option_to_list}
use Rattle.std.specs.List.Sorted.{IsPermutation}
use Rattle.x12_acks.specs.Submission.{TransactionSetKey}
use Rattle.x12_profile.specs.X12.{x12}
use Rattle.x12_station.specs.Station.{Station}
use Rattle.x12_world.specs.Audit.{Audit, audit, keys_of, stations_of}
use Rattle.x12_core.specs.declared.submission.Listed.{Listed}
use Rattle.x12_world.specs.Listing.{KeysRise}
use Rattle.x12_world.specs.Reach.{IsReachable}
use Rattle.x12_world.specs.Submission.{AreListed}
use Rattle.x12_world.specs.World.{World}

-- the audits of a world: of each submitted set's key, once and by rising key, the audit
pub record AreAudits (w : World) (found : List Audit) : Type 0 where
  pub keys : List TransactionSetKey
  pub all : IsPermutation (keys_of x12 w) keys
  pub rise : KeysRise keys
  pub each : map Some found ≡ map (audit x12 w) keys

-- the audits of these keys that there are in a world
abbrev pub audits_under : World → List TransactionSetKey → List Audit
audits_under w keys = flat_map (λ k. option_to_list (audit x12 w k)) keys

-- a world that a network reached has these stations, and this is the list of what they submitted
pub record HasStations (w : World) (ss : List Station) (submitted : List Listed) : Type 0 where
  pub reached : IsReachable x12 w
  pub stations : stations_of w ≡ ss
  pub listed : AreListed ss submitted
