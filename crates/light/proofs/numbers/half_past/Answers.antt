-- `light::numbers::half_past` meets its contract: n is less than two to its bits, and has fewer than 63 of them.
use mathlib.Core.Path.{◌≡◌}
use Prim.Native.Nat.{ℕ, ◌+◌, ◌*◌, ◌-◌, ◌%◌, ◌^◌, ◌≤◌, ◌<◌}
use native.Mathlib.Nat.{lt_of_not-le}
use native.Mathlib.Omega.{arith}
use lib.Count.{count_leading_zeros}
use lib.Pow.{pow_mono, shl_exact}
use Rattle.std.proofs.lemmas.Nat.{leading_length, pow-add}
use Rattle.light.specs.Numbers.{Past}
use Rattle.light.proofs.numbers.half_past.Goals as goal

past : (n shift : ℕ) → shift ≡ 64 - count_leading_zeros 64 n - 31 → n < 2 ^ 62 → Past n (2147483648 * 2 ^ shift % 2 ^ 64) shift
past n shift e h =
    let l = leading_length 64 n (omega arith) in
    let bits = l.0 in
    let all : count_leading_zeros 64 n + bits ≡ 64 = l.1 in
    let inside : n < 2 ^ bits = l.2 in
    let least : 2 ^ bits ≤ 2 * n + 1 = l.3 in
    let few : bits < 63 = lt_of_not-le (λ (k : 63 ≤ bits). let p : 2 ^ 63 ≤ 2 ^ bits = pow_mono k in omega arith) in
    let exact = shl_exact {a = 2147483648} 32 shift 64 (omega arith) (omega arith) in
    let up : 2 ^ bits ≤ 2 ^ (31 + shift) = pow_mono (omega arith) in
    let parts : 2 ^ (31 + shift) ≡ 2 ^ 31 * 2 ^ shift = pow-add 2 31 shift in
    let most : 2 ^ shift ≤ 2 ^ 31 = pow_mono {j = 31} (omega arith) in
    record { above = omega arith; half_is = omega arith; half_in = omega arith; shift_in = omega arith }

pub returns : goal.returns
returns c = past c.args.n c.saturating_sub-shift.result c.saturating_sub-shift.ensures c.requires
