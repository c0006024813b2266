use Rattle.std.proofs.Common.{arith, ap, ◌∙◌}
use Rattle.std.specs.Str.Parse.{digits_value}
use Rattle.std.proofs.lemmas.List.{take_all}
use Rattle.std.proofs.lemmas.Int.Digits.{digits_value-lt}
use Rattle.x12_envelopes.specs.Byte.{value_of_digits}
use Rattle.x12_envelopes.proofs.DigitLemmas.{AllDigits-are, digit_step}
use Rattle.x12_envelopes.proofs.byte.value_of.Goals as goal

pub overflow_mul-value : goal.overflow_mul-value
overflow_mul-value c =
    let step = digit_step _ _ c.requires.digits c.requires.short c.loop-digit-test.true in
    omega (arith, c.loop-digit.invariant)

pub overflow_add-value : goal.overflow_add-value
overflow_add-value c =
    let step = digit_step _ _ c.requires.digits c.requires.short c.loop-digit-test.true in
    omega (arith, c.loop-digit.invariant, c.from.ensures)

pub loop-digit-preserved : goal.loop-digit-preserved
loop-digit-preserved c =
    let step = digit_step _ _ c.requires.digits c.requires.short c.loop-digit-test.true in
    omega (arith, c.loop-digit.invariant, c.from.ensures)

pub returns-clause-value : goal.returns-clause-value
unfolding value_of_digits
returns-clause-value c =
    c.loop-digit.invariant ∙ ap (digits_value 10) (take_all _ c.args.text.now c.loop-digit-test.false)

pub returns-clause-below : goal.returns-clause-below
returns-clause-below c =
    let value = c.loop-digit.invariant ∙ ap (digits_value 10) (take_all _ c.args.text.now c.loop-digit-test.false) in
    omega (arith, value, digits_value-lt 10 c.args.text.now (AllDigits-are c.args.text.now c.requires.digits))
