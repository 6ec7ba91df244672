-- A number x of parts of a unit that is near unit m / e says m / e rounded down, or (m - 1) / e, by the side on which it lies: m / e is whole or at
-- least 1 / e from it.
use mathlib.Core.Path.{◌≡◌}
use Prim.Native.Nat.{ℕ, ◌+◌, ◌*◌, ◌-◌, ◌/◌, ◌≤◌, ◌<◌}
use native.Mathlib.Nat.{mul-le-mul_left, lt_of_mul-lt-mul_left, le_of_mul-le-mul_left, div-mul-le_self, lt-div-mul-add, div-eq_of_lt-le}
use native.Mathlib.Omega.{arith}

-- at it or past it
pub floor_past : (unit e x m : ℕ) → 0 < e → unit * m ≤ e * x → e * x < unit * m + unit → x / unit ≡ m / e
floor_past unit e x m some low high =
    let t = m / e in
    let under : t * e ≤ m = div-mul-le_self m e in
    let over : m < t * e + e = lt-div-mul-add some in
    let under-units = mul-le-mul_left unit under in
    let over-units = mul-le-mul_left unit over in
    div-eq_of_lt-le {k = t} unit
    (le_of_mul-le-mul_left {m = t * unit} {n = x} {k = e} (omega arith) some)
    (lt_of_mul-lt-mul_left e {m = x} {n = (t + 1) * unit} (omega arith))

-- short of it
pub floor_short : (unit e x m : ℕ) → 0 < e → 0 < m → e * x < unit * m → unit * m ≤ e * x + unit → x / unit ≡ (m - 1) / e
floor_short unit e x m some m_some high low =
    let t = (m - 1) / e in
    let under : t * e ≤ m - 1 = div-mul-le_self (m - 1) e in
    let over : m - 1 < t * e + e = lt-div-mul-add some in
    let under-units : unit * (t * e + 1) ≤ unit * m = mul-le-mul_left unit (omega arith) in
    let over-units : unit * m ≤ unit * (t * e + e) = mul-le-mul_left unit (omega arith) in
    div-eq_of_lt-le {k = t} unit
    (le_of_mul-le-mul_left {m = t * unit} {n = x} {k = e} (omega arith) some)
    (lt_of_mul-lt-mul_left e {m = x} {n = (t + 1) * unit} (omega arith))
