-- A number that stands for a divisor.
use Rattle.std.specs.Prelude.{cond, ℕ, ◌+◌, ◌-◌, ◌*◌, ◌/◌, ◌^◌, ◌≤◌, ◌<◌, ltb}
use Rattle.rounding.specs.declared.quotient.Divisor.{Divisor}

-- how many bits of a divisor to leave out, so that 20 to 30 stay
unfoldable pub shift_of : ℕ → ℕ
shift_of over = cond (ltb over (2 ^ 30)) 0 (cond (ltb over (2 ^ 40)) 10 (cond (ltb over (2 ^ 50)) 20 30))

-- what stands for a divisor: 2^48 over its leading bits, which are rounded up
abbrev pub divisor_of : ℕ → Divisor
divisor_of over =
    let shift = shift_of over in
    record { over = over; shift = shift; factor = 2 ^ 48 / ((over - 1) / 2 ^ shift + 1) }

-- The factor is at most 2^48 over the divisor's bits from `shift` on, so that a quotient found by it is never too large.
pub record Divides (d : Divisor) : Type 0 where
  pub some : 0 < d.over
  pub shift_in : d.shift ≤ 30
  pub below : d.factor * d.over ≤ 2 ^ 48 * 2 ^ d.shift
