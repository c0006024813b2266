use Rattle.std.proofs.Common.{◌∙◌, ap, sym}
use Rattle.sqlite.specs.Held.{state}
use Rattle.x12_tables.proofs.ReadLemmas.{answers_made}
use Rattle.x12_station_records.proofs.StationNumberLemmas.{newest_view}
use Rattle.x12_station_records.specs.StationNumbers.{KeptNumbers}
use Rattle.x12_station_records.proofs.station_numbers.find_owner.Goals as goal

pub returns : goal.returns
returns g c = answers_made _ _ _ _ _ (state g.S.Store c.args.conn.now) (state g.S.Store c.load_numbers.new.conn) c.in_ok-load_numbers.ensures.answers (λ has o said. ap (λ (n : KeptNumbers). n.origin) (sym (newest_view c.in_ok-load_numbers.field-0 c.in_ok-load_numbers.ensures.newest) ∙ said))
