use Rattle.std.proofs.Common.{◌∙◌, ap, refl}
use Rattle.sqlite.specs.Held.{state}
use Rattle.x12_hub.specs.Stored.{HubStored}
use Rattle.x12_tables.proofs.ReadLemmas.{then_reads}
use Rattle.x12_hub_records.proofs.ReadLemmas.{hub_still, hub_same}
use Rattle.x12_hub_records.specs.HubTables.{hub_numbers_of}
use Rattle.x12_hub_records.proofs.adopting.load.Goals as goal

pub returns : goal.returns
returns g c =
    let first = state g.S.Store c.args.conn.now in
    let second = state g.S.Store c.load_directory.new.conn in
    let third = state g.S.Store c.load_mailboxes.new.conn in
    let fourth = state g.S.Store c.load_numbers.new.conn in
    let directory = c.in_ok-directory.ensures in
    let waiting = c.in_ok-mailboxes.ensures in
    let numbers = c.in_ok-numbers.ensures in
    record {
      reads = then_reads first second fourth directory.reads (then_reads second third fourth waiting.reads numbers.reads);
      answered = numbers.answered;
      found = λ has is_open.
          let third_open = numbers.reads.never_won_back is_open in
          let second_open = waiting.reads.never_won_back third_open in
          let second_has = hub_still first second directory.reads has in
          let second_same = hub_same first second directory.reads has second_open in
          let third_has = hub_still second third waiting.reads second_has in
          let third_same = hub_same second third waiting.reads second_has third_open in
          rw (
            directory.found has second_open,
            waiting.found second_has third_open ∙ ap (λ (s : HubStored). s.waiting) second_same,
            numbers.found third_has is_open ∙ ap hub_numbers_of (third_same ∙ second_same),
          ) refl;
    }
