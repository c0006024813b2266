use Rattle.std.proofs.Common.{ℕ, List, Some, map, ap, subst, refl, ◌∙◌}
use Rattle.sqlite.specs.Held.{state}
use Rattle.x12_envelopes.specs.declared.party.Party.{Party}
use Rattle.x12_outbound.specs.Entry.{GroupRow, InterchangeRow, entry_row, group_row}
use Rattle.x12_outbound.specs.declared.entry.EntryGroup.{EntryGroup}
use Rattle.x12_tables.proofs.ReadLemmas.{answers_made}
use Rattle.x12_station_records.proofs.StationEntryLemmas.{entry_back}
use Rattle.x12_station_records.proofs.StationGroupLemmas.{sendable}
use Rattle.x12_station_records.specs.StationContent.{content_of}
use Rattle.x12_station_records.specs.StationEntries.{head_view}
use Rattle.x12_station_records.specs.StationGroups.{AreSendable}
use Rattle.x12_station_records.proofs.station_outbound.put_together.Goals as goal

abbrev row : ℕ → Party → List GroupRow → List ℕ → InterchangeRow
row icn to gs bytes = record { icn = icn; receiver = to; bytes = bytes; groups = gs }

pub returns-clause-answers : goal.returns-clause-answers
returns-clause-answers g c =
    let old = state g.S.Store c.args.conn.now in
    let groups = c.in_ok-groups.ensures in
    answers_made _ _ _ _ _ old (state g.S.Store c.load_groups.new.conn) groups.answers
    (λ has o loaded head. ap (λ b. Some (row c.args.icn c.args.head.partner (map group_row c.in_ok-groups.groups.items) b)) c.in_ok-from_vec.ensures
    ∙ entry_back c.args.icn (content_of old.now.trees) (head_view c.args.head) (map group_row c.in_ok-groups.groups.items) head loaded groups.whole)

pub returns-clause-fit : goal.returns-clause-fit
returns-clause-fit g c = record {
  sendable = sendable (entry_row (record { icn = c.args.icn; partner = c.args.head.partner; bytes = c.in_ok-from_vec.field-0; groups = c.in_ok-groups.groups })) (subst (λ (gs : List EntryGroup). AreSendable (map group_row gs)) c.deref.ensures.value (c.if-not-are_sendable.ensures.is refl));
  laid = c.in_ok-groups.ensures.whole.laid;
}
