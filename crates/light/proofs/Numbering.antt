-- The numbers of a plane have room, and its start lies below what it is lifted by.
use Prim.Native.Nat.{ℕ, ◌+◌, ◌*◌, ◌/◌, ◌≤◌, ◌<◌}
use native.Mathlib.Nat.{mul-le-mul, mul-le-mul_left, mul-le-mul_right, lt_of_mul-lt-mul_left, div-mul-le_self}
use native.Mathlib.Omega.{arith}

-- a number that stays below what it was tested against
bounded : (n d k : ℕ) → k ≤ n / d → d * k ≤ n
bounded n d k h = let most = div-mul-le_self n d in let less = mul-le-mul_left d h in omega arith

pub start_below : (factor e half q start lift : ℕ) → 2 * (half * q) < factor * e → factor * start < 2 * (half * lift) → 0 < e → q * start < e * lift
start_below factor e half q start lift h k some =
    let less : 2 * (half * q) * start ≤ factor * e * start = mul-le-mul_right start (omega arith) in
    let more = mul-le-mul_left e k in
    lt_of_mul-lt-mul_left (2 * half) {m = q * start} {n = e * lift} (omega arith)

-- the sums at the start and at the end of the reach
pub record Sums (factor start reach half level lift spare : ℕ) : Type 0 where
  pub lifted : 2 * half * (level + lift) + 2 * half ≤ 9223372036854775807
  pub at_start : factor * start ≤ 4294967295 * 1073741823
  pub at_end : factor * reach ≤ 4294967295 * 1073741823
  pub below : factor * start ≤ 2 * half * (level + lift)

pub sums : (factor start reach half level lift spare : ℕ) → level + lift + 1 ≤ 9223372036854775807 / (2 * half) → factor < 4294967296 → reach < 1073741824
    → start ≤ reach → factor * start < 2 * (half * lift) → Sums factor start reach half level lift spare
sums factor start reach half level lift spare room f-in r-in s-in low =
    let b = bounded 9223372036854775807 (2 * half) (level + lift + 1) room in
    let f : factor ≤ 4294967295 = omega arith in
    let r : reach ≤ 1073741823 = omega arith in
    let s : start ≤ 1073741823 = omega arith in
    record { lifted = omega arith; at_start = mul-le-mul f s; at_end = mul-le-mul f r; below = omega arith }
