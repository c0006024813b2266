use Rattle.std.proofs.Common.{map, refl, sym, subst, All}
use Rattle.x12_outbound.specs.Entry.{entry_row}
use Rattle.x12_station.specs.Stored.{IsNumberedBy}
use Rattle.x12_station.proofs.LoadingLemmas.{none_is_out, used_rows}
use Rattle.x12_station.proofs.cached.Cached.take_in.Goals as goal

pub ledger_of-requires : goal.ledger_of-requires
ledger_of-requires c = c.requires.sound.in_order c.args.me

pub returns-clause-taken : goal.returns-clause-taken
unfolding Rattle.x12_outbound.specs.Counts.only_unclear
returns-clause-taken c = record { me = refl; hubs = refl; marks = refl; book = refl; seq = refl; agreements = refl; ledger = c.in_ok-ledger_of.ensures; counts = refl }

pub returns-clause-ready : goal.returns-clause-ready
returns-clause-ready c =
    let es = map entry_row c.args.loaded.entries.items in
    let made = c.in_ok-ledger_of.ensures in
    record {
      me = made.party;
      plain = c.requires.plain;
      hubs = made.hubs;
      none_out = none_is_out es c.in_ok-ledger_of.field-0.holds made.rows c.requires.sound.laid;
      used = subst (λ rows. All (λ r. IsNumberedBy c.args.loaded.book r.interchange) rows) (sym made.rows) (used_rows c.args.loaded.book es c.requires.sound.used);
      seq = c.requires.sound.few;
    }
