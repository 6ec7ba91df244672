-- `rounding::quotient::divisor_of` meets its contract: a shift is a division by a power of two.
use native.Mathlib.Omega.{arith}
use Rattle.rounding.proofs.Quotients.{shift_most}
use Rattle.rounding.proofs.quotient.divisor_of.Goals as goal

pub overflow_shr-leading : goal.overflow_shr-leading
overflow_shr-leading c = omega (arith, shift_most c.args.over, c.shift_of-shift.ensures)
