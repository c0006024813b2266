use Rattle.x12_records.proofs.LeftLemmas.{next_left, left_files}
use Rattle.x12_records.proofs.opening.leave_station.Goals as goal

pub returns : goal.returns
returns g c = record {
  left =
      let store = c.end_station.result in
      let ends = c.end_station.ensures in
      left_files store c.close.result.log c.close.result.db c.close.ensures (λ clean image may. next_left store (ends.numbered clean) (ends.sound clean)
      (λ db allowed version next holds. ends.left clean db allowed) image may);
}
