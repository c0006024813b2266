use Rattle.std.proofs.Common.{◌≡◌, ◌∙◌, true, map, List, sym, ap, ap₂, refl, subst}
use Rattle.std.specs.Prelude.{max}
use Rattle.x12_outbound.specs.declared.entry.EntryGroup.{EntryGroup}
use Rattle.x12_outbound.specs.Entry.{group_row}
use Rattle.x12_station.specs.Closed.{above_groups}
use Rattle.x12_tables.specs.Fault.{table_fault_of}
use Rattle.x12_station_records.proofs.StationSentTaken.{one_stands, put_groups}
use Rattle.x12_station_records.proofs.StationStepLemmas.{one_sent}
use Rattle.x12_station_records.proofs.TakesLemmas.{rows_failed}
use Rattle.x12_station_records.specs.StationGroups.{AreSendable}
use Rattle.x12_station_records.specs.StationOpen.{are_between}
use Rattle.x12_station_records.proofs.station_groups.least_behind.Goals as goal

pub returns-clause-one : goal.returns-clause-one
returns-clause-one c =
    let gs = c.in_ok-groups.groups.items in
    let least = c.args.least in
    let can : AreSendable (map group_row gs) = subst (λ (xs : List EntryGroup). AreSendable (map group_row xs)) c.deref.ensures.value (c.if-not-are_sendable.ensures.is refl) in
    let used : are_between least c.args.book.group (map group_row gs) ≡ true =
    ap₂ (λ m (xs : List EntryGroup). are_between least m (map group_row xs)) (sym c.group.ensures.last) (sym c.deref-2.ensures.value) ∙ sym c.if-not-are_within.ensures in
    let next = c.above.ensures ∙ ap (λ (xs : List EntryGroup). max least (above_groups (map group_row xs))) c.deref-3.ensures.value in
    one_sent c.args.book c.args.icn least c.above.result c.args.rows.now (map group_row gs) c.requires c.in_ok-groups.ensures.groups c.in_ok-groups.ensures.whole can used next

pub returns-in_err-groups-clause-taken : goal.returns-in_err-groups-clause-taken
returns-in_err-groups-clause-taken c =
    rows_failed _ _ _ c.in_err-groups.field-0.0 _ c.from_residual.result c.from_residual.ensures.1 (λ f is memory. is ∙ ap table_fault_of memory) c.in_err-groups.ensures.taken
    (one_stands c.args.book c.args.icn c.args.least c.args.rows.now c.requires)

pub returns-then-not-are_sendable-clause-taken : goal.returns-then-not-are_sendable-clause-taken
returns-then-not-are_sendable-clause-taken c h =
    let gs = c.in_ok-groups.groups.items in
    let same = put_groups c.args.book c.args.icn c.args.least c.args.rows.now (map group_row gs) c.requires c.in_ok-groups.ensures.groups c.in_ok-groups.ensures.whole h in
    let can = subst (λ (xs : List EntryGroup). AreSendable (map group_row xs)) (sym c.deref.ensures.value) (subst AreSendable same h.one.sendable) in
    absurd (let off = c.if-not-are_sendable.ensures.met can in cc)

pub returns-then-not-are_within-clause-taken : goal.returns-then-not-are_within-clause-taken
returns-then-not-are_within-clause-taken c h =
    let gs = c.in_ok-groups.groups.items in
    let same = put_groups c.args.book c.args.icn c.args.least c.args.rows.now (map group_row gs) c.requires c.in_ok-groups.ensures.groups c.in_ok-groups.ensures.whole h in
    let used : are_between c.args.least c.args.book.group (map group_row gs) ≡ true = ap (are_between c.args.least c.args.book.group) (sym same) ∙ h.one.used in
    let off = c.if-not-are_within.ensures ∙ ap₂ (λ m (xs : List EntryGroup). are_between c.args.least m (map group_row xs)) c.group.ensures.last c.deref-2.ensures.value ∙ used in
    absurd cc
