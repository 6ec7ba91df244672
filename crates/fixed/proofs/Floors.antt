-- A number x of parts of a unit, short of unit m / e by less than s, still says m / e rounded down, and (m - 1) / e: m / e is whole or at
-- least 1 / e from it, and s parts are less than that.
use mathlib.Core.Path.{◌≡◌}
use Prim.Native.Nat.{ℕ, ◌+◌, ◌*◌, ◌-◌, ◌/◌, ◌≤◌, ◌<◌}
use native.Mathlib.Nat.{mul-le-mul_left, lt_of_mul-lt-mul_right, div-mul-le_self, lt-div-mul-add, div-eq_of_lt-le}
use native.Mathlib.Omega.{arith}

-- x is below unit m / e, and s more is above it; s is less than one e-th of the unit
pub record Near (unit e m s x : ℕ) : Type 0 where
  pub e_some : 0 < e
  pub m_some : 0 < m
  pub below : x * e ≤ unit * m
  pub above : unit * m < (x + s) * e
  pub fine : s * e < unit

module _ {unit e m s x : ℕ} (n : Near unit e m s x) where
  -- with s more, the whole part is m / e, rounded down
  pub floor : (x + s) / unit ≡ m / e
  floor =
      let t = m / e in
      let least : t * unit < x + s =
      let low = mul-le-mul_left unit (div-mul-le_self m e) in
      lt_of_mul-lt-mul_right e {m = t * unit} {n = x + s} (omega arith) in
      let most : x + s < (t + 1) * unit =
      let high : m < m / e * e + e = lt-div-mul-add n.e_some in
      let high-units = mul-le-mul_left unit high in
      lt_of_mul-lt-mul_right e {m = x + s} {n = (t + 1) * unit} (omega arith) in
      div-eq_of_lt-le unit (omega arith) most

  -- and with 1 less, it is m / e, rounded up, less one
  pub floor_before : (x - 1) / unit ≡ (m - 1) / e
  floor_before =
      let t = (m - 1) / e in
      let least : t * unit < x =
      let low : t * e + 1 ≤ m = let l = div-mul-le_self (m - 1) e in let some = n.m_some in omega arith in
      let low-units = mul-le-mul_left unit low in
      lt_of_mul-lt-mul_right e {m = t * unit} {n = x} (omega arith) in
      let most : x < (t + 1) * unit + 1 =
      let high : m ≤ t * e + e = let h = lt-div-mul-add {a = m - 1} n.e_some in omega arith in
      let high-units = mul-le-mul_left unit high in
      let some = n.e_some in
      lt_of_mul-lt-mul_right e {m = x} {n = (t + 1) * unit + 1} (omega arith) in
      div-eq_of_lt-le unit (omega arith) (omega arith)
