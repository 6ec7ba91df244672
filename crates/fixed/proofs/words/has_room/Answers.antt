-- `fixed::words::has_room` meets its contract: each term is tested before the sum is made, so the sum has room.
use Prim.Native.Nat.{ℕ, ◌+◌, ◌*◌, ◌%◌, ◌^◌, ◌≤◌, ◌<◌, max}
use native.Mathlib.Nat.{mul-le-mul}
use native.Mathlib.Omega.{arith}
use lib.Pow.{pow_mono}
use Rattle.sample.specs.Depth.{past_samples}
use Rattle.fixed.specs.Words.{past_words}
use Rattle.fixed.proofs.words.has_room.Goals as goal
use Rattle.fixed.proofs.words.has_room.Goals.{Then-high-past}

room : (most h0 h1 h2 high shift : ℕ) → shift ≤ 34 → most < past_samples → max (max h0 h1) h2 < past_words → high < past_samples * 2 ^ shift % 2 ^ 64
    → most * (h0 + h1 + h2) + high + 3 * most + 2 < 2 ^ 64
room most h0 h1 h2 high shift s m h k =
    let small : 2 ^ shift ≤ 2 ^ 34 = pow_mono s in
    let l = mul-le-mul {n₁ = most} {m₁ = h0 + h1 + h2} {n₂ = 65535} {m₂ = 12884901885} (omega arith) (omega arith) in
    omega arith

known : (c : Then-high-past) → let a = c.args in
    a.most * (a.n.first.high + a.n.second.high + a.n.third.high) + a.n.base.high + 3 * a.most + 2 < 2 ^ 64
known c =
    let a = c.args in
    let words = c.if-high-past.true.0 in
    room a.most a.n.first.high a.n.second.high a.n.third.high a.n.base.high a.shift c.requires (omega (arith, c.ranges)) (omega arith) c.if-high-past.true.1

pub overflow_add-result-then-high-past-2 : goal.overflow_add-result-then-high-past-2
overflow_add-result-then-high-past-2 c = let k = known ((goal.at.overflow_add-result-then-high-past-2 c).Then-high-past) in omega arith

pub overflow_add-result-then-high-past-3 : goal.overflow_add-result-then-high-past-3
overflow_add-result-then-high-past-3 c = let k = known ((goal.at.overflow_add-result-then-high-past-3 c).Then-high-past) in omega arith

pub overflow_add-result-then-high-past-4 : goal.overflow_add-result-then-high-past-4
overflow_add-result-then-high-past-4 c = let k = known ((goal.at.overflow_add-result-then-high-past-4 c).Then-high-past) in omega arith
