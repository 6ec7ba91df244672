-- `fixed::division::shift_for` meets its contract: e is at most what it is halved to, as often doubled again.
use Prim.Native.Nat.{ℕ, ◌*◌, ◌-◌, ◌/◌, ◌^◌, ◌≤◌}
use native.Mathlib.Nat.{mul-le-mul_left, mul-le-mul_right, mul-div-le}
use native.Mathlib.Omega.{arith}
use Rattle.fixed.specs.Words.{past_words}
use Rattle.fixed.proofs.Dividing.{double}
use Rattle.fixed.proofs.division.shift_for.Goals as goal

enough : (n e rest t : ℕ) → e ≤ rest * t → rest ≤ past_words / n → n * e ≤ past_words * t
enough n e rest t h l =
    let all = mul-le-mul_left n h in
    let least = mul-le-mul_right t (mul-le-mul_left n l) in
    let most = mul-le-mul_right t (mul-div-le past_words n) in
    omega arith

halved : (e rest t : ℕ) → e ≤ rest * t → e ≤ (rest - rest / 2) * (2 * t)
halved e rest t h =
    let up : rest ≤ 2 * (rest - rest / 2) = omega arith in
    let more = mul-le-mul_right t up in
    omega arith

pub returns-then-rest-most : goal.returns-then-rest-most
returns-then-rest-most c =
    let l = c.loop-k in
    let a = c.args in
    record { fine = enough a.n a.e l.rest (2 ^ l.k) l.invariant.1 (omega arith); upper_bound = omega arith }

pub loop-k-preserved : goal.loop-k-preserved
loop-k-preserved c =
    let l = c.loop-k in
    (omega arith, rw (double l.k) (halved c.args.e l.rest (2 ^ l.k) l.invariant.1))
