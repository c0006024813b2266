use Rattle.std.proofs.Common.{◌≡◌, ◌+◌, ◌||◌, not, nat_le, ℕ, List, refl, sym, ap, ap₂, subst, ◌∙◌, arith, map, vec_len}
use Rattle.x12_envelopes.specs.declared.content.Kind.TheVariants.{Ta1, Gs, Iea}
use Rattle.x12_envelopes.specs.declared.content.Level.{Level}
use Rattle.x12_envelopes.specs.declared.content.Level.TheVariants.{Between}
use Rattle.x12_envelopes.specs.Content.{segment_is_ta1, segment_is_gs, ta1_of}
use Rattle.x12_envelopes.specs.Segment.{PlacedSegment}
use Rattle.x12_envelopes.specs.Shape.{group_view}
use Rattle.x12_envelopes.specs.Outline.{offset_behind, first_fault}
use Rattle.x12_envelopes.specs.Reading.{IsFault, placed, rest_at}
use Rattle.x12_envelopes.proofs.FirstFaultLemmas.{IsFault-from, goes_wrong}
use Rattle.x12_envelopes.proofs.SegmentLemmas.{segments_more}
use Rattle.x12_envelopes.proofs.GroupLemmas.{right_place, sound_others, sound_header, unreadable_header}
use Rattle.x12_envelopes.proofs.OutlineLemmas.{sound_ta1, only_these, one_ta1, one_group, ends_by_iea, steps_groups, closes_groups, group_count}
use Rattle.x12_envelopes.proofs.source.Source.interchange.Goals as goal

pub ta1-requires : goal.ta1-requires
ta1-requires c =
    let kind = sym c.in-Ok.ensures.kind ∙ c.in-Ta1.is in
    ap₂ segment_is_ta1 c.segment_of.ensures.delims c.segment_of.ensures.bytes
    ∙ (sound_ta1 c.args.self.now.delims c.loop-found.level _ _ (placed c.in-Ok.found) (sound_others _ _ _ _ _ Ta1 c.in-Ok.ensures.sound kind refl) kind).0

pub loop-found-preserved-in-Ta1 : goal.loop-found-preserved-in-Ta1
loop-found-preserved-in-Ta1 c =
    let s = c.args.self.now in
    let f = placed c.in-Ok.found in
    let next = c.in-Ok.ensures.next in
    let kind = sym c.in-Ok.ensures.kind ∙ c.in-Ta1.is in
    let front = (sound_ta1 s.delims c.loop-found.level c.len.result c.loop-found.sets f (sound_others _ _ _ _ _ Ta1 c.in-Ok.ensures.sound kind refl) kind).1 in
    let on = steps_groups s.delims c.loop-found.level c.len.result (vec_len c.loop-found.groups) (vec_len c.loop-found.groups) c.loop-found.sets f (rest_at s c.loop-found.place) (rest_at s (offset_behind f)) Ta1 c.len.ensures refl next.rest (segments_more s.delims _ _) (sound_others _ _ _ _ _ Ta1 c.in-Ok.ensures.sound kind refl) kind refl in
    record {
      whole = c.loop-found.invariant.whole ∙ one_ta1 s.delims s.input.now f (rest_at s c.loop-found.place) (rest_at s (offset_behind f)) c.loop-found.tas.items c.push.new.list.items c.ta1.result _ next.rest kind (c.ta1.ensures ∙ ap₂ ta1_of c.segment_of.ensures.delims c.segment_of.ensures.bytes) c.in_ok-push-in-Ta1.ensures.ok;
      faults = c.loop-found.invariant.faults ∙ on ∙ ap (λ (l : Level). first_fault s.delims l (vec_len c.loop-found.groups) c.loop-found.sets (rest_at s (offset_behind f))) (sym front);
      outside = c.loop-found.invariant.outside;
      few = c.loop-found.invariant.few;
      counted = c.loop-found.invariant.counted;
      some = c.loop-found.invariant.some;
      within = next.high;
    }

pub returns-in_default-header_of_group-clause-fault : goal.returns-in_default-header_of_group-clause-fault
returns-in_default-header_of_group-clause-fault c =
    let s = c.args.self.now in
    let f = placed c.in-Ok.found in
    let kind = sym c.in-Ok.ensures.kind ∙ c.in-Gs.is in
    let same : c.len-in-Gs.result ≡ c.len.result = c.len-in-Gs.ensures ∙ sym c.len.ensures in
    let unreadable = ap (λ (n : ℕ). not (segment_is_gs s.delims f.bytes) || nat_le 32 n) (sym same) ∙ c.in_default-header_of_group.ensures.none refl in
    let wrong = unreadable_header s.delims c.loop-found.level c.len.result c.loop-found.sets f c.in-Ok.ensures.sound kind unreadable in
    let faults = ap₂ (λ (n : ℕ) (l : List PlacedSegment). first_fault s.delims c.loop-found.level n c.loop-found.sets l) (sym c.len.ensures) c.in-Ok.ensures.next.rest in
    c.loop-found.invariant.faults ∙ faults ∙ goes_wrong s.delims c.loop-found.level c.len.result c.loop-found.sets f _ _ (segments_more s.delims _ _) wrong

pub group-requires-clause-header : goal.group-requires-clause-header
group-requires-clause-header c = (c.in-Some.ensures.header, c.in-Ok.ensures.next.high)

pub returns-in-Err-group-clause-fault : goal.returns-in-Err-group-clause-fault
returns-in-Err-group-clause-fault c =
    let s = c.args.self.now in
    let f = placed c.in-Ok.found in
    let kind = sym c.in-Ok.ensures.kind ∙ c.in-Gs.is in
    let on = steps_groups s.delims c.loop-found.level c.len.result (vec_len c.loop-found.groups) (c.len-in-Gs-2.result + 1) c.loop-found.sets f (rest_at s c.loop-found.place) (rest_at s (offset_behind f)) Gs c.len.ensures (omega (arith, c.len-in-Gs-2.ensures)) c.in-Ok.ensures.next.rest (segments_more s.delims _ _) (sound_header s.delims c.loop-found.level c.len.result c.loop-found.sets f c.in-Ok.ensures.sound kind c.in-Some.ensures.readable (omega (arith, c.len.ensures, c.len-in-Gs.ensures, c.in-Some.ensures.few))) kind refl in
    subst (IsFault c.in-Err-group.fault) (sym (c.loop-found.invariant.faults ∙ on)) c.in-Err-group.ensures.fault

pub loop-found-preserved : goal.loop-found-preserved
loop-found-preserved c =
    let s = c.args.self.now in
    let f = placed c.in-Ok.found in
    let next = c.in-Ok.ensures.next in
    let kind = sym c.in-Ok.ensures.kind ∙ c.in-Gs.is in
    let below = c.in-Some.ensures.few in
    let on = steps_groups s.delims c.loop-found.level c.len.result (vec_len c.loop-found.groups) (c.len-in-Gs-2.result + 1) c.loop-found.sets f (rest_at s c.loop-found.place) (rest_at s (offset_behind f)) Gs c.len.ensures (omega (arith, c.len-in-Gs-2.ensures)) next.rest (segments_more s.delims _ _) (sound_header s.delims c.loop-found.level c.len.result c.loop-found.sets f c.in-Ok.ensures.sound kind c.in-Some.ensures.readable (omega (arith, c.len.ensures, c.len-in-Gs.ensures, c.in-Some.ensures.few))) kind refl in
    let groups : c.len-in-Gs-2.result + 1 ≡ vec_len c.push-in-Gs.new.list = omega (arith, c.len-in-Gs-2.ensures, c.in_ok-push-in-Gs.ensures.len) in
    let sets : c.loop-found.sets + vec_len c.in-Ok-group.read.0.sets ≡ c.loop-found.sets + c.len-sets.result = omega (arith, c.len-sets.ensures) in
    record {
      whole = c.loop-found.invariant.whole ∙ one_group s.delims s.input.now f (rest_at s c.loop-found.place) (rest_at s (offset_behind f)) _ _ c.loop-found.groups.items c.push-in-Gs.new.list.items c.in-Ok-group.read.0 next.rest kind c.in-Ok-group.ensures.group c.in-Ok-group.ensures.rest c.in_ok-push-in-Gs.ensures.ok;
      faults = c.loop-found.invariant.faults ∙ on ∙ c.in-Ok-group.ensures.goes_on ∙ ap₂ (λ (g n : ℕ). first_fault s.delims Between g n (rest_at s c.in-Ok-group.read.1)) groups sets;
      outside = refl;
      few = omega (arith, below, groups, c.len-in-Gs.ensures, c.len-in-Gs-2.ensures);
      counted = group_count c.loop-found.groups.items c.push-in-Gs.new.list.items c.in-Ok-group.read.0 c.loop-found.sets c.len-sets.result c.loop-found.invariant.counted c.in_ok-push-in-Gs.ensures.ok c.len-sets.ensures;
      some = omega (arith, c.in-Ok-group.ensures.few, c.len-sets.ensures);
      within = c.in-Ok-group.ensures.place.1;
    }

pub returns-in-Some-fault_behind-clause-fault : goal.returns-in-Some-fault_behind-clause-fault
returns-in-Some-fault_behind-clause-fault c =
    let s = c.args.self.now in
    let f = placed c.in-Ok.found in
    let kind = sym c.in-Ok.ensures.kind ∙ c.in-Iea.is in
    let closed = closes_groups s.delims c.loop-found.level c.len.result (vec_len c.loop-found.groups) c.loop-found.sets f (rest_at s c.loop-found.place) (rest_at s (offset_behind f)) c.len.ensures c.in-Ok.ensures.next.rest (segments_more s.delims _ _) (sound_others _ _ _ _ _ Iea c.in-Ok.ensures.sound kind refl) kind in
    IsFault-from c.in-Some-fault_behind.fault _ (c.loop-found.invariant.faults ∙ closed ∙ sym c.fault_behind.ensures ∙ c.in-Some-fault_behind.is)

pub returns-in-Iea-clause-outline : goal.returns-in-Iea-clause-outline
returns-in-Iea-clause-outline c =
    let s = c.args.self.now in
    let f = placed c.in-Ok.found in
    let kind = sym c.in-Ok.ensures.kind ∙ c.in-Iea.is in
    let ends = ends_by_iea s.delims s.input.now f (rest_at s c.loop-found.place) (rest_at s (offset_behind f)) c.loop-found.tas.items (map (group_view s.delims) c.loop-found.groups.items) c.in-Ok.ensures.next.rest kind in
    let made = c.view_of_interchange.ensures in
    (λ i. record { tas = (made.tas i).items; groups = map (group_view s.delims) (made.groups i).items; count = made.count i; trailer = made.trailer i })
    ∙ sym (c.loop-found.invariant.whole ∙ ends)

pub returns-in-Iea-clause-sound : goal.returns-in-Iea-clause-sound
returns-in-Iea-clause-sound c =
    let s = c.args.self.now in
    let f = placed c.in-Ok.found in
    let kind = sym c.in-Ok.ensures.kind ∙ c.in-Iea.is in
    let closed = closes_groups s.delims c.loop-found.level c.len.result (vec_len c.loop-found.groups) c.loop-found.sets f (rest_at s c.loop-found.place) (rest_at s (offset_behind f)) c.len.ensures c.in-Ok.ensures.next.rest (segments_more s.delims _ _) (sound_others _ _ _ _ _ Iea c.in-Ok.ensures.sound kind refl) kind in
    c.loop-found.invariant.faults ∙ closed ∙ sym c.fault_behind.ensures ∙ c.in_default-fault_behind.is

pub unreachable-requires : goal.unreachable-requires
unreachable-requires c =
    let d = c.args.self.now.delims in
    let right = right_place d c.loop-found.level _ _ (placed c.in-Ok.found) c.in-Ok.found.kind c.in-Ok.ensures.sound (sym c.in-Ok.ensures.kind) in
    only_these c.loop-found.level c.in-Ok.found.kind c.loop-found.invariant.outside c.in_default.not-Ta1 c.in_default.not-Gs c.in_default.not-Iea right
