use Rattle.std.proofs.Common.{ℕ, ◌+◌, refl, sym, ap, ap₂, subst, ◌∙◌, Some, arith}
use Rattle.x12_envelopes.specs.declared.content.Kind.TheVariants.{Data, Se}
use Rattle.x12_envelopes.specs.declared.content.Level.TheVariants.{InSet, InGroup}
use Rattle.x12_envelopes.specs.Content.{set_trailer_of}
use Rattle.x12_envelopes.specs.Outline.{SetRest, first_fault}
use Rattle.x12_envelopes.specs.Reading.{placed, rest_at}
use Rattle.x12_envelopes.proofs.FirstFaultLemmas.{goes_on}
use Rattle.x12_envelopes.proofs.SegmentLemmas.{segments_more, place}
use Rattle.x12_envelopes.proofs.PlainDataLemmas.{data_is_sound}
use Rattle.x12_envelopes.proofs.GroupLemmas.{sound_others}
use Rattle.x12_envelopes.proofs.SetLemmas.{SetSoFar, one_data, ends_by_se, ends_before, set_is, set_over, same_fault}
use Rattle.x12_envelopes.proofs.source.Source.set.Goals as goal

pub loop-behind-preserved-in-Some : goal.loop-behind-preserved-in-Some
loop-behind-preserved-in-Some c =
    let s = c.args.self.now in
    let passed = c.in-Some.ensures.next in
    let f = place passed.place passed.bytes in
    let sound = data_is_sound s.delims c.args.groups c.args.sets f passed.kind passed.plain in
    record {
      so_far = subst (λ (n : ℕ). SetSoFar s.delims s.input.now (placed c.args.st.now) n (c.loop-behind.segments + 1)) (sym passed.ends) (one_data s.delims s.input.now (placed c.args.st.now) c.loop-behind.place c.loop-behind.segments c.loop-behind.invariant.so_far f passed.next passed.kind);
      faults = c.loop-behind.invariant.faults ∙ ap (first_fault s.delims InSet c.args.groups c.args.sets) passed.next.rest ∙ goes_on s.delims InSet c.args.groups c.args.sets f _ (segments_more s.delims _ _) sound Data passed.kind refl ∙ ap (λ (n : ℕ). first_fault s.delims InSet c.args.groups c.args.sets (rest_at s n)) (sym passed.ends);
      few = omega (arith, c.loop-behind.invariant.few, passed.next.low, passed.ends);
    }

pub loop-behind-preserved : goal.loop-behind-preserved
loop-behind-preserved c =
    let s = c.args.self.now in
    let kind = sym c.in-Ok.ensures.kind ∙ c.in-Data.is in
    let next = c.in-Ok.ensures.next in
    record {
      so_far = one_data s.delims s.input.now (placed c.args.st.now) c.loop-behind.place c.loop-behind.segments c.loop-behind.invariant.so_far (placed c.in-Ok.found) next kind;
      faults = c.loop-behind.invariant.faults ∙ ap (first_fault s.delims InSet c.args.groups c.args.sets) next.rest ∙ goes_on s.delims InSet c.args.groups c.args.sets (placed c.in-Ok.found) _ (segments_more s.delims _ _) (sound_others _ _ _ _ _ Data c.in-Ok.ensures.sound kind refl) Data kind refl;
      few = omega (arith, c.loop-behind.invariant.few, next.low);
    }

pub returns-in-Se-clause-set : goal.returns-in-Se-clause-set
returns-in-Se-clause-set c =
    let s = c.args.self.now in
    let kind = sym c.in-Ok.ensures.kind ∙ c.in-Se.is in
    let ends = ends_by_se s.delims s.input.now (placed c.args.st.now) c.loop-behind.place c.loop-behind.segments c.loop-behind.invariant.so_far (placed c.in-Ok.found) c.in-Ok.ensures.next kind in
    c.view_of_set.ensures ∙ set_is s.delims s.input.now (placed c.args.st.now) _ _ _ _ ends _ (ap Some (c.set_trailer-trailer.ensures ∙ ap₂ set_trailer_of c.segment_of.ensures.delims c.segment_of.ensures.bytes))

pub returns-in-Se-clause-rest : goal.returns-in-Se-clause-rest
returns-in-Se-clause-rest c =
    let s = c.args.self.now in
    let kind = sym c.in-Ok.ensures.kind ∙ c.in-Se.is in
    let ends = ends_by_se s.delims s.input.now (placed c.args.st.now) c.loop-behind.place c.loop-behind.segments c.loop-behind.invariant.so_far (placed c.in-Ok.found) c.in-Ok.ensures.next kind in
    sym (ap (λ (r : SetRest). r.rest) ends.is)

pub returns-in-Se-clause-goes_on : goal.returns-in-Se-clause-goes_on
returns-in-Se-clause-goes_on c =
    let s = c.args.self.now in
    let kind = sym c.in-Ok.ensures.kind ∙ c.in-Se.is in
    c.loop-behind.invariant.faults ∙ ap (first_fault s.delims InSet c.args.groups c.args.sets) c.in-Ok.ensures.next.rest ∙ goes_on s.delims InSet c.args.groups c.args.sets (placed c.in-Ok.found) _ (segments_more s.delims _ _) (sound_others _ _ _ _ _ Se c.in-Ok.ensures.sound kind refl) Se kind refl

pub returns-in_default-kind : goal.returns-in_default-kind
returns-in_default-kind c =
    let s = c.args.self.now in
    let next = c.in-Ok.ensures.next in
    let over = set_over c.in-Ok.found.kind c.in_default-kind.not-Data c.in_default-kind.not-Se in
    let ends = ends_before s.delims s.input.now (placed c.args.st.now) c.loop-behind.place c.loop-behind.segments c.loop-behind.invariant.so_far (placed c.in-Ok.found) next c.in-Ok.found.kind (sym c.in-Ok.ensures.kind) over.0 over.1 in
    let same = rw c.in-Ok.ensures.kind at over.2 in
    record {
      set = c.view_of_set-in_default-kind.ensures ∙ set_is s.delims s.input.now (placed c.args.st.now) _ _ _ _ ends _ refl;
      rest = sym (ap (λ (r : SetRest). r.rest) ends.is);
      place = (c.loop-behind.invariant.so_far.above, c.loop-behind.invariant.so_far.within);
      goes_on = c.loop-behind.invariant.faults ∙ ap (first_fault s.delims InSet c.args.groups c.args.sets) next.rest ∙ same_fault s.delims InSet InGroup c.args.groups c.args.sets (placed c.in-Ok.found) _ same ∙ sym (ap (first_fault s.delims InGroup c.args.groups c.args.sets) next.rest);
      fault = tt;
    }
