use Rattle.std.proofs.Common.{◌≡◌, false, IsTrue, rules}
use Rattle.sqlite.proofs.StateLemmas.{clean_if_open}
use Rattle.sqlite.specs.Held.{state}
use Rattle.sqlite.specs.State.{HasCleanDisk}
use Rattle.x12_hub_records.proofs.RecordsFound.{valid_if_found}
use Rattle.x12_hub_records.proofs.adopting.adopt.Goals as goal

pub returns-clause-valid : goal.returns-clause-valid
returns-clause-valid g c =
    let old = state g.S.Store c.args.conn.now in
    let new = state g.S.Store c.find_records.new.conn in
    let law : IsTrue new.is_open → HasCleanDisk new = clean_if_open (g.S.Store.view c.find_records.new.conn.store) (g.met.S.Store.shut_if_dirty c.find_records.new.conn.store) in
    let outside : old.in_transaction ≡ false = search rules in
    let settled : IsTrue old.is_open → old.now ≡ old.committed = search rules in
    valid_if_found c.args.party.now c.find_records.result old new c.find_records.ensures.finds outside settled law

pub returns-clause-taken : goal.returns-clause-taken
returns-clause-taken g c clean left = c.find_records.ensures.taken.taken clean left.ready left.holds
