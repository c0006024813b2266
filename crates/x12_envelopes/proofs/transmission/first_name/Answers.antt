use Rattle.std.proofs.Common.{◌≡◌, ◌+◌, ℕ, length, sym, subst, ap, ◌∙◌, arith}
use Rattle.std.proofs.lemmas.List.{length-drop}
use Rattle.memchr.specs.Find.{Nowhere}
use Rattle.x12_envelopes.specs.Transmission.{NamesTrailer}
use Rattle.x12_envelopes.proofs.OtherSegmentLemmas.{on_to_i, past_one}
use Rattle.x12_envelopes.proofs.transmission.first_name.Goals as goal

pub returns-in_err-place-clause-none : goal.returns-in_err-place-clause-none
returns-in_err-place-clause-none c = λ none.
    let bytes = c.args.bytes.now in
    let size : c.loop-place.from + length c.split_at.result.1.now ≡ length bytes = omega (arith, ap length c.split_at.ensures.back, length-drop c.loop-place.from bytes, c.loop-place.invariant.within) in
    subst (λ (n : ℕ). Nowhere (NamesTrailer c.args.delims.now bytes) 0 n) size (on_to_i c.args.delims.now bytes c.split_at.result.1.now c.loop-place.from (length c.split_at.result.1.now) c.loop-place.invariant.none c.split_at.ensures.back c.in_err-place.ensures)

pub returns-then-begin_with_trailer-clause-some : goal.returns-then-begin_with_trailer-clause-some
returns-then-begin_with_trailer-clause-some c =
    on_to_i c.args.delims.now c.args.bytes.now c.split_at.result.1.now c.loop-place.from c.in_ok-place.field-0 c.loop-place.invariant.none c.split_at.ensures.back c.in_ok-place.ensures.0.before

pub loop-place-smaller : goal.loop-place-smaller
loop-place-smaller c =
    let bytes = c.args.bytes.now in
    omega (arith, ap length c.split_at.ensures.back, length-drop c.loop-place.from bytes, c.in_ok-place.ensures.0.high)

pub loop-place-preserved : goal.loop-place-preserved
loop-place-preserved c =
    let bytes = c.args.bytes.now in
    let none = on_to_i c.args.delims.now bytes c.split_at.result.1.now c.loop-place.from c.in_ok-place.field-0 c.loop-place.invariant.none c.split_at.ensures.back c.in_ok-place.ensures.0.before in
    record {
      within = omega (arith, ap length c.split_at.ensures.back, length-drop c.loop-place.from bytes, c.in_ok-place.ensures.0.high);
      none = past_one c.args.delims.now bytes c.split_at-in-loop-place.result.1.now (c.loop-place.from + c.in_ok-place.field-0) none c.split_at-in-loop-place.ensures.back (sym c.begin_with_trailer.ensures ∙ c.if-begin_with_trailer.false);
    }
