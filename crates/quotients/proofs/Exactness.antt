-- A factor that is exact gives the samples of its run: what it gives is at or past the exact number from half a step above the start on, short of it
-- below the start, and in between there is no half.
use mathlib.Core.Path.{◌≡◌, sym, ap, ◌∙◌}
use mathlib.Core.Logic.{⊎_elim}
use Prim.Native.Nat.{ℕ, ◌+◌, ◌*◌, ◌-◌, ◌/◌, ◌≤◌, ◌<◌, min}
use native.Mathlib.Nat.{mul-le-mul_left, mul-le-mul_right, lt_of_mul-lt-mul_right, le_of_mul-le-mul_left, div-eq_of_lt-le}
use native.Mathlib.Omega.{arith}
use lib.IntN.{pos, ◌+ℤ◌, ◌-ℤ◌}
use Rattle.rounding.specs.Rounding.{round, clip}
use Rattle.rounding.proofs.Floors.{floor_past, floor_short}
use Rattle.rounding.proofs.Lifted.{Lifted, upward, downward}
use Rattle.sample.proofs.Choices.{below_or_not}
use Rattle.runs.specs.declared.Run.{Run}
use Rattle.quotients.specs.Exact.{Exact}

-- what the factor gives at n, and the exact number m over e
identity : (f e half rest start n up down miss mid h m v : ℕ) → f * e ≡ 2 * half + rest → f * start + up + miss ≡ down + 2 * half * mid + half
    → v + down ≡ f * n + up → m + start ≡ n + e * mid + h → e ≡ 2 * h → e * v + rest * start + e * miss ≡ 2 * half * m + rest * n
identity f e half rest start n up down miss mid h m v a b c d even =
    let at_n = ap (λ i. i * n) a in
    let at_start = ap (λ i. i * start) a in
    let starts = ap (λ i. e * i) b in
    let values = ap (λ i. e * i) c in
    let units = ap (λ i. 2 * half * i) d in
    let halves = ap (λ i. i * half) even in
    omega arith

-- the numerator of the run
numerator : (t e h start n mid m a b : ℕ) → m + start ≡ n + e * mid + h → e ≡ 2 * h → a + t * start ≡ b + t * n
    → 2 * t * m + 2 * b ≡ 2 * a + t * e + 2 * (mid * (t * e))
numerator t e h start n mid m a b d even runs = let more = ap (λ i. t * i) d in let half = ap (λ i. t * i) even in omega arith

-- less than half a step past the start, for what is missing is less than that much of the rest
near_start : (rest miss e start n : ℕ) → 2 * miss ≤ rest → start ≤ n → rest * n < rest * start + e * miss → 2 * (n - start) < e
near_start rest miss e start n tie past less =
    let split : rest * (n - start) + rest * start ≡ rest * n = omega (arith, ap (λ i. rest * i) (n_is)) in
    let twice : 2 * miss * (n - start) ≤ rest * (n - start) = mul-le-mul_right (n - start) tie in
    lt_of_mul-lt-mul_right miss {m = 2 * (n - start)} {n = e} (omega arith)
  where
    n_is : n - start + start ≡ n
    n_is = omega arith

less_none : (n : ℕ) → n ≡ n - 0
less_none n = omega arith

module _ {r : Run} {mid scale factor half up down low high : ℕ} (x : Exact r mid scale factor half up down low high) (n : ℕ) (n-low : low ≤ n) (n-high : n ≤ high)
    (v : ℕ) (v-is : v + down ≡ factor * scale * n + up) where
  abbrev m : ℕ
  m = n + x.e * mid + x.h - r.start

  m_is : m + r.start ≡ n + x.e * mid + x.h
  m_is = let a = x.above in omega arith

  m_some : 0 < m
  m_some = let a = x.above in omega arith

  e_some : 0 < x.e
  e_some = let e = x.evenly.even in let s = x.evenly.h_some in omega arith

  is : x.e * v + x.rest * r.start + x.e * x.miss ≡ 2 * half * m + x.rest * n
  is = identity (factor * scale) x.e half x.rest r.start n up down x.miss mid x.h m v x.factor_is x.start_is v-is m_is x.evenly.even

  past : x.rest * r.start + x.e * x.miss ≤ x.rest * n → v / (2 * half) ≡ m / x.e
  past k =
      let i = is in
      let most = mul-le-mul_left x.rest n-high in
      let f = x.past_fine in
      floor_past (2 * half) x.e v m e_some (omega arith) (omega arith)

  short : x.rest * n < x.rest * r.start + x.e * x.miss → v / (2 * half) ≡ (m - 1) / x.e
  short k =
      let i = is in
      let least = mul-le-mul_left x.rest n-low in
      let f = x.short_fine in
      floor_short (2 * half) x.e v m e_some m_some (omega arith) (omega arith)

  -- close above the start both are mid
  at_start : r.start ≤ n → 2 * (n - r.start) < x.e → (m - 1) / x.e ≡ m / x.e
  at_start k less =
      let e = x.evenly.even in
      let s = x.evenly.h_some in
      let i = m_is in
      div-eq_of_lt-le {k = mid} x.e (omega arith) (omega arith) ∙ sym (div-eq_of_lt-le {k = mid} x.e (omega arith) (omega arith))

  module _ (a b top : ℕ) (runs : a + r.times * r.start ≡ b + (r.times * n + r.level * r.over)) where
    steps : a + r.times * r.start ≡ b + r.times * n
    steps = let none = ap (λ i. i * r.over) x.evenly.level_none in omega arith

    lifted : Lifted a b r.over (2 * r.times) x.e m mid
    lifted =
        let o = x.evenly.over_is in
        let s = x.evenly.times_some in
        let overs = ap (λ i. mid * i) o in
        let parts = numerator r.times x.e x.h r.start n mid m a b m_is x.evenly.even steps in
        record { g_some = omega arith; e_some = e_some; m_some = m_some; denominator = omega arith; numerator = omega arith }

    abbrev Is : Type 0
    Is = min (v / (2 * half)) top ≡ clip top (round (pos a -ℤ pos b) r.over +ℤ pos mid)

    from_start : r.start ≤ n → b ≤ a
    from_start k = let more = mul-le-mul_left r.times k in let s = steps in omega arith

    pushed_up : x.rest * r.start + x.e * x.miss ≤ x.rest * n → Is
    pushed_up k =
        let l : r.start ≤ n = le_of_mul-le-mul_left {m = r.start} {n = n} {k = x.rest} (omega arith) x.rest_some in
        ap (λ i. min i top) (past k ∙ less_none _) ∙ upward lifted mid 0 top (omega arith) (from_start l)

    pushed_down : x.rest * n < x.rest * r.start + x.e * x.miss → Is
    pushed_down k =
        ⊎_elim
        (λ (l : n < r.start).
        let more : r.times * (n + 1) ≤ r.times * r.start = mul-le-mul_left r.times (omega arith) in
        let s = steps in
        let some = x.evenly.times_some in
        ap (λ i. min i top) (short k ∙ less_none _) ∙ downward lifted mid 0 top (omega arith) (omega arith))
        (λ (l : r.start ≤ n).
        ap (λ i. min i top) (short k ∙ at_start l (near_start x.rest x.miss x.e r.start n x.tie l k) ∙ less_none _)
        ∙ upward lifted mid 0 top (omega arith) (from_start l))
        (below_or_not n r.start)

    pub exact_is : Is
    exact_is = ⊎_elim pushed_down pushed_up (below_or_not (x.rest * n) (x.rest * r.start + x.e * x.miss))
