use Rattle.std.proofs.Common.{map}
use Rattle.x12_judge.specs.Agreement.{agreement_view}
use Rattle.x12_profile.specs.X12.{needs_of}
use Rattle.x12_station.specs.Keeps.{cached_edition}
use Rattle.x12_station.specs.working.Drafting.{exhausted}
use Rattle.x12_station.specs.StationRefusal.{is_spent}
use Rattle.x12_station.proofs.arriving.weighed.Goals as goal

pub returns-in-Err-clause-fault : goal.returns-in-Err-clause-fault
returns-in-Err-clause-fault g c = c.in-Err.ensures.fault (exhausted (is_spent c.args.memory.now.book (needs_of (cached_edition c.args.memory.now) c.args.memory.now.me (map agreement_view c.args.memory.now.agreements.items) c.args.bytes.now c.args.header.now)))

pub returns-clause-device : goal.returns-clause-device
returns-clause-device g c = record {
  never_fewer = c.in-Ok.ensures.device.never_fewer;
  ok = tt;
  device = λ is. absurd (c.in-Err-drafted.ensures.own is);
  other = λ _. c.in-Ok.ensures.device.ok;
}
