use Rattle.std.proofs.Common.{◌≡◌, ◌+◌, ℕ, refl, sym, ap, ap₂, ◌∙◌, Some, arith, vec_len}
use Rattle.x12_envelopes.specs.declared.content.Kind.TheVariants.{St, Ge}
use Rattle.x12_envelopes.specs.declared.content.Level.TheVariants.{InGroup, Between}
use Rattle.x12_envelopes.specs.Content.{group_trailer_of}
use Rattle.x12_envelopes.specs.Outline.{GroupRest, offset_behind, first_fault}
use Rattle.x12_envelopes.specs.Reading.{placed, rest_at}
use Rattle.x12_envelopes.proofs.FirstFaultLemmas.{IsFault-from}
use Rattle.x12_envelopes.proofs.SegmentLemmas.{segments_more}
use Rattle.x12_envelopes.proofs.GroupLemmas.{right_place, sound_others, group_of_header, sound_st, one_set, ends_by_ge, ends_group_before, group_is, group_over, steps_on, level_on}
use Rattle.x12_envelopes.proofs.source.Source.group.Goals as goal

pub set-requires-clause-readable : goal.set-requires-clause-readable
set-requires-clause-readable c =
    let kind = sym c.in-Ok.ensures.kind ∙ c.in-St.is in
    (sound_st c.args.self.now.delims InGroup c.args.groups _ (placed c.in-Ok.found) (sound_others _ _ _ _ _ St c.in-Ok.ensures.sound kind refl) kind).0

pub returns-in-Err-set-clause-fault : goal.returns-in-Err-set-clause-fault
returns-in-Err-set-clause-fault c =
    let s = c.args.self.now in
    let f = placed c.in-Ok.found in
    let kind = sym c.in-Ok.ensures.kind ∙ c.in-St.is in
    let on = steps_on s.delims InGroup c.args.groups (c.args.sets + c.len.result) (c.args.sets + vec_len c.loop-found.views) (c.args.sets + c.len-in-St.result + 1) f (rest_at s c.loop-found.place) (rest_at s (offset_behind f)) St (omega (arith, c.len.ensures)) (omega (arith, c.len-in-St.ensures)) c.in-Ok.ensures.next.rest (segments_more s.delims _ _) (sound_others _ _ _ _ _ St c.in-Ok.ensures.sound kind refl) kind refl in
    IsFault-from c.in-Err-set.fault _ (c.loop-found.invariant.faults ∙ on ∙ c.in-Err-set.ensures.fault)

pub loop-found-preserved : goal.loop-found-preserved
loop-found-preserved c =
    let s = c.args.self.now in
    let f = placed c.in-Ok.found in
    let kind = sym c.in-Ok.ensures.kind ∙ c.in-St.is in
    let next = c.in-Ok.ensures.next in
    let below = (sound_st s.delims InGroup c.args.groups (c.args.sets + c.len.result) f (sound_others _ _ _ _ _ St c.in-Ok.ensures.sound kind refl) kind).1 in
    let on = steps_on s.delims InGroup c.args.groups (c.args.sets + c.len.result) (c.args.sets + vec_len c.loop-found.views) (c.args.sets + c.len-in-St.result + 1) f (rest_at s c.loop-found.place) (rest_at s (offset_behind f)) St (omega (arith, c.len.ensures)) (omega (arith, c.len-in-St.ensures)) next.rest (segments_more s.delims _ _) (sound_others _ _ _ _ _ St c.in-Ok.ensures.sound kind refl) kind refl in
    let long : c.args.sets + c.len-in-St.result + 1 ≡ c.args.sets + vec_len c.push.new.list = omega (arith, c.in_ok-push-in-St.ensures.len, c.len-in-St.ensures) in
    record {
      whole = c.loop-found.invariant.whole ∙ one_set s.delims s.input.now f _ _ _ c.loop-found.views.items c.push.new.list.items c.in-Ok-set.read.0 next.rest kind c.in-Ok-set.ensures.set c.in-Ok-set.ensures.rest c.in_ok-push-in-St.ensures.ok;
      faults = c.loop-found.invariant.faults ∙ on ∙ c.in-Ok-set.ensures.goes_on ∙ ap (λ (n : ℕ). first_fault s.delims InGroup c.args.groups n (rest_at s c.in-Ok-set.read.1)) long;
      few = omega (arith, below, long, c.len.ensures, c.len-in-St.ensures);
      above = omega (arith, c.loop-found.invariant.above, next.low, c.in-Ok-set.ensures.place.0);
      within = c.in-Ok-set.ensures.place.1;
    }

pub returns-in-Ge-clause-group : goal.returns-in-Ge-clause-group
returns-in-Ge-clause-group c =
    let d = c.args.self.now.delims in
    let kind = sym c.in-Ok.ensures.kind ∙ c.in-Ge.is in
    let ends = ends_by_ge d c.args.self.now.input.now _ _ _ _ (placed c.in-Ok.found) c.loop-found.invariant.whole c.in-Ok.ensures.next.rest kind in
    c.view_of_group.ensures.group d ∙ group_of_header d (placed c.args.gs.now) c.args.header.now _ _ c.requires.header.0.0 ∙ group_is d c.args.self.now.input.now (placed c.args.gs.now) _ _ _ _ ends _ (ap Some (c.group_trailer-trailer.ensures ∙ ap₂ group_trailer_of c.segment_of.ensures.delims c.segment_of.ensures.bytes))

pub returns-in-Ge-clause-rest : goal.returns-in-Ge-clause-rest
returns-in-Ge-clause-rest c =
    let d = c.args.self.now.delims in
    let kind = sym c.in-Ok.ensures.kind ∙ c.in-Ge.is in
    let ends = ends_by_ge d c.args.self.now.input.now _ _ _ _ (placed c.in-Ok.found) c.loop-found.invariant.whole c.in-Ok.ensures.next.rest kind in
    sym (ap (λ (r : GroupRest). r.rest) ends.is)

pub returns-in-Ge-clause-goes_on : goal.returns-in-Ge-clause-goes_on
returns-in-Ge-clause-goes_on c =
    let s = c.args.self.now in
    let f = placed c.in-Ok.found in
    let kind = sym c.in-Ok.ensures.kind ∙ c.in-Ge.is in
    let on = steps_on s.delims InGroup c.args.groups (c.args.sets + c.len.result) (c.args.sets + vec_len c.loop-found.views) (c.args.sets + vec_len c.view_of_group.result.sets) f (rest_at s c.loop-found.place) (rest_at s (offset_behind f)) Ge (omega (arith, c.len.ensures)) (omega (arith, c.view_of_group.ensures.sets)) c.in-Ok.ensures.next.rest (segments_more s.delims _ _) (sound_others _ _ _ _ _ Ge c.in-Ok.ensures.sound kind refl) kind refl in
    c.loop-found.invariant.faults ∙ on

pub returns-in_default : goal.returns-in_default
returns-in_default c =
    let s = c.args.self.now in
    let f = placed c.in-Ok.found in
    let next = c.in-Ok.ensures.next in
    let kind = sym c.in-Ok.ensures.kind in
    let right = right_place s.delims InGroup c.args.groups _ f c.in-Ok.found.kind c.in-Ok.ensures.sound kind in
    let over = group_over c.in-Ok.found.kind c.in_default.not-St c.in_default.not-Ge right in
    let ends = ends_group_before s.delims s.input.now _ _ _ _ f c.in-Ok.found.kind c.loop-found.invariant.whole next.rest kind over.0 over.1 over.2 in
    let same = rw c.in-Ok.ensures.kind at over.3 in
    let level = level_on s.delims InGroup Between c.args.groups (c.args.sets + vec_len c.loop-found.views) (c.args.sets + vec_len c.view_of_group-in_default.result.sets) f (rest_at s c.loop-found.place) (rest_at s (offset_behind f)) (omega (arith, c.view_of_group-in_default.ensures.sets)) next.rest same in
    record {
      group = c.view_of_group-in_default.ensures.group s.delims ∙ group_of_header s.delims (placed c.args.gs.now) c.args.header.now _ _ c.requires.header.0.0 ∙ group_is s.delims s.input.now (placed c.args.gs.now) _ _ _ _ ends _ refl;
      rest = sym (ap (λ (r : GroupRest). r.rest) ends.is);
      place = (c.loop-found.invariant.above, c.loop-found.invariant.within);
      few = omega (arith, c.loop-found.invariant.few, c.view_of_group-in_default.ensures.sets);
      goes_on = c.loop-found.invariant.faults ∙ level;
      fault = tt;
    }
