use Rattle.std.proofs.Common.{◌≡◌, ◌++◌, take}
use Rattle.x12_network.specs.Senders.{is_station_site, numbers_where}
use Rattle.x12_network.proofs.senders.push_stations.Given as goal

abbrev pub invariant-loop-site : goal.invariant-loop-site
invariant-loop-site l = l.numbers.items ≡ l.fn.numbers.items ++ numbers_where (is_station_site l.hub) (take l.site-index l.sites)
