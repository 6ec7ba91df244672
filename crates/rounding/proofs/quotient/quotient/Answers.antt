-- `rounding::quotient::quotient` meets its contract: what was found times the divisor, and the rest, are n at every turn.
use Prim.Native.Nat.{◌*◌, ◌/◌, ◌^◌, ◌≤◌}
use native.Mathlib.Omega.{arith}
use Rattle.rounding.proofs.Quotients.{product_low, product_fits, guess_low}
use Rattle.rounding.proofs.quotient.quotient.Goals as goal
use Rattle.rounding.proofs.quotient.quotient.Goals.{Start}

-- the product, over the divisor
known : (s : Start) → s.args.n / 2 ^ s.args.by.shift * s.args.by.factor * s.args.by.over ≤ 2 ^ 48 * s.args.n
known s = product_low s.args.n s.args.by.shift s.args.by.factor s.args.by.over s.requires.below

low : (s : Start) → s.args.n / 2 ^ s.args.by.shift * s.args.by.factor / 2 ^ 48 * s.args.by.over ≤ s.args.n
low s = guess_low (s.args.n / 2 ^ s.args.by.shift * s.args.by.factor) s.args.n s.args.by.over (known s)

pub overflow_mul-found : goal.overflow_mul-found
overflow_mul-found c = record { fits = product_fits _ c.args.n c.args.by.over (known ((goal.at.overflow_mul-found c).Start)) (omega arith) }

pub overflow_mul-rest : goal.overflow_mul-rest
overflow_mul-rest c = let l = low ((goal.at.overflow_mul-rest c).Start) in omega arith

pub overflow_sub-rest : goal.overflow_sub-rest
overflow_sub-rest c = low ((goal.at.overflow_sub-rest c).Start)

pub loop-rest-init : goal.loop-rest-init
loop-rest-init c = let l = low ((goal.at.loop-rest-init c).Start) in omega arith
