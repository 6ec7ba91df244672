-- Half of a quotient, rounded up, is Round of the half.
use mathlib.Core.Path.{◌≡◌, sym, ap, ◌∙◌}
use Prim.Native.Nat.{ℕ, ◌+◌, ◌*◌, ◌-◌, ◌/◌, ◌^◌, ◌≤◌, ◌<◌}
use native.Mathlib.Nat.{mul_comm, add-div_right, div-div-eq-div-mul, div-eq_of_lt}
use native.Mathlib.Omega.{arith}
use lib.IntN.{pos}
use lib.Pow.{pow_pos, pow_mono}
use borrow.Author.Tests.{le-leb, lt-leb}
use Rattle.rounding.specs.Rounding.{round}
use Rattle.counter.specs.Millionths.{exponent_of, mantissa_of, millionths}
use Rattle.counter.proofs.saying.millionths.Goals as goal

nearest : (n d : ℕ) → 0 < d → pos ((2 * n / d + 1) / 2) ≡ round (pos n) d
unfolding round
nearest n d s =
    ap pos (ap (λ x. x / 2) (sym (add-div_right (2 * n) s)) ∙ div-div-eq-div-mul (2 * n + d) d 2 ∙ ap (λ x. (2 * n + d) / x) (mul_comm d 2))

module _ (bits : ℕ) where
  rounded : exponent_of bits ≤ 140 → pos ((mantissa_of bits * 2000000 / 2 ^ (150 - exponent_of bits) + 1) / 2) ≡ millionths bits
  unfolding millionths
  rounded h =
      let twice : mantissa_of bits * 2000000 ≡ 2 * (1000000 * mantissa_of bits) = omega arith in
      rw (le-leb _ _ h, twice) (nearest (1000000 * mantissa_of bits) (2 ^ (150 - exponent_of bits)) (pow_pos (150 - exponent_of bits)))

  -- below 2^-27 nothing is left of the quotient
  none_small : exponent_of bits < 100 → pos 0 ≡ millionths bits
  none_small h =
      let most : 2 ^ 50 ≤ 2 ^ (150 - exponent_of bits) = pow_mono {i = 50} {j = 150 - exponent_of bits} (omega arith) in
      let none = div-eq_of_lt {n = mantissa_of bits * 2000000} {m = 2 ^ (150 - exponent_of bits)} (omega arith) in
      ap (λ n. pos ((n + 1) / 2)) (sym none) ∙ rounded (omega arith)

  none_large : 140 < exponent_of bits → pos 0 ≡ millionths bits
  unfolding millionths
  none_large h = rw (lt-leb _ _ h)

pub returns-then-exponent-lt100 : goal.returns-then-exponent-lt100
returns-then-exponent-lt100 c = none_small _ (omega arith)

pub returns-then-exponent-gt140 : goal.returns-then-exponent-gt140
returns-then-exponent-gt140 c = none_large _ (omega arith)

pub returns : goal.returns
returns c = rounded _ (omega arith)
