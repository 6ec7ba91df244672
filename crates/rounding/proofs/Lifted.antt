-- THE LAW of every quick row. Where m / e is (p - q) / d + 1/2 + lift, Round is m / e rounded down from zero on, and (m - 1) / e rounded down
-- below zero, each less the lift; and (m - 1) / e is less than the lift only below zero.
use mathlib.Core.Path.{◌≡◌, sym, ap, ◌∙◌}
use mathlib.Core.Logic.{⊎_elim}
use Prim.Native.Nat.{ℕ, ◌+◌, ◌*◌, ◌-◌, ◌/◌, ◌≤◌, ◌<◌, min}
use native.Mathlib.Nat.{le_trans, add-mul, le_of_mul-le-mul_left, lt_of_mul-lt-mul_left, lt_of_mul-lt-mul_right, div-mul-le_self, lt-div-mul-add, div-eq_of_lt-le, div-lt_iff_lt-mul, le-div_iff_mul-le, mul-pos}
use native.Mathlib.Omega.{arith}
use lib.Dec.{ltb}
use lib.IntN.{pos, ◌+ℤ◌, ◌-ℤ◌}
use borrow.Author.Tests.{lt-ltb, le-ltb}
use Rattle.std.specs.Int.{from_bool}
use Rattle.sample.proofs.Choices.{below_or_not}
use Rattle.rounding.specs.Rounding.{round, clip}
use Rattle.rounding.proofs.Rounding.{gap, nearest, from_zero, below_zero}

-- quotients grow with what is divided
pub div_mono : {m n : ℕ} (e : ℕ) → 0 < e → m ≤ n → m / e ≤ n / e
div_mono {m} {n} e some h = (le-div_iff_mul-le {k = e} {x = m / e} {y = n} some).1 (le_trans (div-mul-le_self m e) h)

-- in lowest terms or not: g is any factor
pub record Lifted (p q d g e m lift : ℕ) : Type 0 where
  pub g_some : 0 < g
  pub e_some : 0 < e
  pub m_some : 0 < m
  pub denominator : g * e ≡ 2 * d
  pub numerator : g * m + 2 * q ≡ 2 * p + d + 2 * (lift * d)

module _ {p q d g e m lift : ℕ} (v : Lifted p q d g e m lift) where
  -- k whole numbers, in parts of e and in parts of d
  steps : (k : ℕ) → g * (k * e) ≡ 2 * (k * d)
  steps k = let same = ap (λ n. k * n) v.denominator in omega arith

  d_some : 0 < 2 * d
  d_some = let some = mul-pos v.g_some v.e_some in let same = v.denominator in omega arith

  -- the two bounds of the nearest whole number
  near_low : nearest p q d * (2 * d) ≤ 2 * gap p q + d
  near_low = div-mul-le_self (2 * gap p q + d) (2 * d)

  near_high : 2 * gap p q + d < nearest p q d * (2 * d) + 2 * d
  near_high = lt-div-mul-add d_some

  -- from zero on
  rounds_up : q ≤ p → m / e ≡ lift + nearest p q d
  rounds_up h =
      let n = nearest p q d in
      let low = near_low in
      let high = near_high in
      let is = v.numerator in
      let here = steps (lift + n) in
      let next = steps (lift + n + 1) in
      div-eq_of_lt-le {k = lift + n} e
      (le_of_mul-le-mul_left {m = (lift + n) * e} {n = m} {k = g} (omega arith) v.g_some)
      (lt_of_mul-lt-mul_left g {m = m} {n = (lift + n + 1) * e} (omega arith))

  above : q ≤ p → lift ≤ (m - 1) / e
  above h =
      let is = v.numerator in
      let here = steps lift in
      let some = d_some in
      let more : lift * e < m = lt_of_mul-lt-mul_left g {m = lift * e} {n = m} (omega arith) in
      (le-div_iff_mul-le {k = e} {x = lift} {y = m - 1} v.e_some).1 (omega arith)

  -- below zero
  record Below : Type 0 where
    in_lift : nearest p q d ≤ lift
    is : (m - 1) / e ≡ lift - nearest p q d

  rounds_down : p < q → Below
  rounds_down h =
      let n = nearest p q d in
      let low = near_low in
      let high = near_high in
      let is = v.numerator in
      let some = mul-pos v.g_some v.m_some in
      let inside : n ≤ lift = let l = lt_of_mul-lt-mul_right (2 * d) {m = n} {n = lift + 1} (omega arith) in omega arith in
      let rest : (lift - n) * d + n * d ≡ lift * d = sym (add-mul (lift - n) n d) ∙ ap (λ k. k * d) (omega arith) in
      let here = steps (lift - n) in
      let next = steps (lift - n + 1) in
      let least : (lift - n) * e < m = lt_of_mul-lt-mul_left g {m = (lift - n) * e} {n = m} (omega arith) in
      let most : m ≤ (lift - n + 1) * e = le_of_mul-le-mul_left {m = m} {n = (lift - n + 1) * e} {k = g} (omega arith) v.g_some in
      let m_some = v.m_some in
      record { in_lift = inside; is = div-eq_of_lt-le {k = lift - n} e (omega arith) (omega arith) }

  under : p < q → m / e < lift + 1
  under h =
      let is = v.numerator in
      let next = steps (lift + 1) in
      let some = d_some in
      let less : m < (lift + 1) * e = lt_of_mul-lt-mul_left g {m = m} {n = (lift + 1) * e} (omega arith) in
      (div-lt_iff_lt-mul {k = e} {x = m} {y = lift + 1} v.e_some).1 less

  -- the sample, where the side of zero is known
  module _ (mid low top : ℕ) (lift_is : low + mid ≡ lift) where
    pub upward : q ≤ p → min (m / e - low) top ≡ clip top (round (pos p -ℤ pos q) d +ℤ pos mid)
    upward f = let r = rounds_up f in let is = from_zero p q d mid top f in omega arith

    pub downward : p < q → min ((m - 1) / e - low) top ≡ clip top (round (pos p -ℤ pos q) d +ℤ pos mid)
    downward f = let b = rounds_down f in let is = below_zero p q d mid top f in omega arith

    -- and where the code takes the one away by a test of it
    pub by_side : {less : ℕ} → less ≡ from_bool (ltb p q) → min ((m - less) / e - low) top ≡ clip top (round (pos p -ℤ pos q) d +ℤ pos mid)
    by_side {less} is =
        ⊎_elim
        (λ (f : p < q). rw (is ∙ ap from_bool (lt-ltb p q f)) (downward f))
        (λ (f : q ≤ p). let none : m - less ≡ m = omega (arith, is ∙ ap from_bool (le-ltb p q f)) in rw none (upward f))
        (below_or_not p q)

    -- (m - 1) / e below the lift: the line is below zero
    pub low_side : (m - 1) / e < lift → min ((m - 1) / e - low) top ≡ clip top (round (pos p -ℤ pos q) d +ℤ pos mid)
    low_side h = ⊎_elim downward (λ (f : q ≤ p). let l = above f in absurd (omega arith)) (below_or_not p q)

    -- at the lift or past it: not below zero, or so little that it rounds to 0
    pub high_side : lift ≤ (m - 1) / e → min (m / e - low) top ≡ clip top (round (pos p -ℤ pos q) d +ℤ pos mid)
    high_side h =
        ⊎_elim
        (λ (f : p < q).
        let b = rounds_down f in
        let u = under f in
        let more : lift ≤ m / e = le_trans h (div_mono e v.e_some (omega arith)) in
        let is = below_zero p q d mid top f in
        omega arith)
        upward
        (below_or_not p q)

    -- with no mid, all that is below zero is clipped
    pub no_mid : mid ≡ 0 → min (m / e - low) top ≡ clip top (round (pos p -ℤ pos q) d +ℤ pos mid)
    no_mid none = ⊎_elim (λ (f : p < q). let u = under f in let is = below_zero p q d mid top f in omega arith) upward (below_or_not p q)
