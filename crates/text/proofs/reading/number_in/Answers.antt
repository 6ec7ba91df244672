-- A digit that is read leaves the number and the rest of the digits as they were.
use Rattle.std.proofs.Common.{arith, sym, ◌∙◌}
use Rattle.text.proofs.NumeralLaws.{value_step, digits_step, digits_not, value_end, digits_end, no_digits, no_digit, too_far, too_large, is_number, is_none, is_some}
use Rattle.text.proofs.reading.number_in.Goals as goal

pub returns-then-is_empty-clause-value : goal.returns-then-is_empty-clause-value
returns-then-is_empty-clause-value c = no_digits _ _ (is_none _ _ c.is_empty.ensures c.if-is_empty.true)

pub returns-then-not-is_ascii_digit-clause-value : goal.returns-then-not-is_ascii_digit-clause-value
returns-then-not-is_ascii_digit-clause-value c =
    no_digit _ _
    (sym c.loop-b.invariant.digits
    ∙ digits_not _ c.loop-b.b-index (omega arith) (λ l u. omega (arith, c.if-not-is_ascii_digit.ensures.cases)))

pub returns-in_err-checked_mul-clause-value : goal.returns-in_err-checked_mul-clause-value
returns-in_err-checked_mul-clause-value c =
    c.from_residual.ensures
    ∙ too_far _ c.loop-b.b-index c.loop-b.value _ (omega arith) c.loop-b.invariant.value
    (omega (arith, c.in_err-checked_mul.ensures))

pub returns-in_err-value-clause-value : goal.returns-in_err-value-clause-value
returns-in_err-value-clause-value c =
    c.from_residual-in_err-value.ensures
    ∙ too_far _ c.loop-b.b-index c.loop-b.value _ (omega arith) c.loop-b.invariant.value
    (omega (arith, c.in_ok-checked_mul.ensures, c.from.ensures, c.in_err-value.ensures))

pub loop-b-preserved : goal.loop-b-preserved
loop-b-preserved c = record {
  value =
      rw (c.in_ok-value.ensures.1, c.in_ok-checked_mul.ensures.1, c.from.ensures)
      (sym (value_step c.args.word.now c.loop-b.b-index (omega arith) c.loop-b.value) ∙ c.loop-b.invariant.value);
  digits =
      sym (digits_step c.args.word.now c.loop-b.b-index (omega arith) c.if-not-is_ascii_digit.ensures.cases.0 c.if-not-is_ascii_digit.ensures.cases.1)
      ∙ c.loop-b.invariant.digits;
}

pub returns-then-most-value-clause-value : goal.returns-then-most-value-clause-value
returns-then-most-value-clause-value c =
    too_large _ _ (omega (arith, value_end c.args.word.now c.loop-b.b-index c.loop-b.value (omega arith)))

pub returns-else-most-value-clause-value : goal.returns-else-most-value-clause-value
returns-else-most-value-clause-value c =
    is_number c.args.word.now _ c.loop-b.value (is_some _ _ c.is_empty.ensures c.if-is_empty.false)
    (sym c.loop-b.invariant.digits ∙ digits_end c.args.word.now c.loop-b.b-index (omega arith))
    (sym (value_end c.args.word.now c.loop-b.b-index c.loop-b.value (omega arith)) ∙ c.loop-b.invariant.value)
    (omega arith)
