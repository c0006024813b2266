use Rattle.std.proofs.Common.{ap}
use Rattle.sqlite.specs.Held.{state}
use Rattle.x12_tables.proofs.ReadLemmas.{answers_made}
use Rattle.x12_hub_records.specs.declared.hub_numbers.HubNumbers.{HubNumbers}
use Rattle.x12_hub_records.proofs.hub_numbers.find_owner.Goals as goal

pub returns : goal.returns
returns g c = answers_made _ _ _ _ _ (state g.S.Store c.args.conn.now) (state g.S.Store c.load_numbers.new.conn) c.in_ok-load_numbers.ensures (λ has o said. ap (λ (n : HubNumbers). n.party) said)
