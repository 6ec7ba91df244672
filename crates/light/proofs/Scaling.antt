-- Numbers that stand for a run give the samples of its line: the factor is a little too large, so that the sum is at or past the exact number
-- on one side of the start and short of it on the other, by less than the exact number can be from the next whole one.
use mathlib.Core.Path.{◌≡◌, ap, ◌∙◌}
use mathlib.Core.Logic.{⊎_elim}
use Prim.Native.Nat.{ℕ, ◌+◌, ◌*◌, ◌-◌, ◌/◌, ◌^◌, ◌≤◌, ◌<◌}
use native.Mathlib.Nat.{mul-le-mul_left, mul-le-mul, div-div-eq-div-mul, mul-pos}
use native.Mathlib.Omega.{arith}
use lib.IntN.{pos, ◌+ℤ◌, ◌-ℤ◌}
use Rattle.rounding.specs.Rounding.{round, clip}
use Rattle.rounding.proofs.Floors.{floor_past, floor_short}
use Rattle.rounding.proofs.Lifted.{Lifted, upward, downward, no_mid}
use Rattle.sample.proofs.Choices.{below_or_not}
use Rattle.light.specs.Scaled.{whole_of, scaled_sample, Scales}
use Rattle.runs.specs.declared.Run.{Run}
use Rattle.light.specs.declared.scaled.Scaled.{Scaled}

-- what is rounded, as a numerator over e that is not below zero
numerator : (g q e start level lift n m a b : ℕ) → m + 2 * (q * start) ≡ 2 * (q * n) + e * (2 * (level + lift) + 1)
    → a + g * q * start ≡ b + (g * q * n + level * (g * e)) → g * m + 2 * b ≡ 2 * a + g * e + 2 * (lift * (g * e))
numerator g q e start level lift n m a b h k = let more = ap (λ i. g * i) h in omega arith

-- and the sum, that much past it or short of it: rest is what the factor has too much
sum : (f e half q rest start n base level lift spare m : ℕ) → f * e ≡ 2 * (half * q) + rest
    → base + f * start ≡ 2 * (half * (level + lift)) + half + spare → m + 2 * (q * start) ≡ 2 * (q * n) + e * (2 * (level + lift) + 1)
    → e * (f * n + base) + rest * start ≡ half * m + rest * n + e * spare
sum f e half q rest start n base level lift spare m h k l =
    let at_n = ap (λ i. i * n) h in
    let at_start = ap (λ i. i * start) h in
    let all = ap (λ i. e * i) k in
    let most = ap (λ i. half * i) l in
    omega arith

module _ {r : Run} {mid top reach : ℕ} {s : Scaled} (h : Scales r mid top reach s) (n : ℕ) (n-in : n ≤ reach) where
  abbrev m : ℕ
  m = 2 * (h.q * n) + h.e * (2 * (r.level + h.lift) + 1) - 2 * (h.q * r.start)

  abbrev rest : ℕ
  rest = s.factor * h.e - 2 * (h.half * h.q)

  m_is : m + 2 * (h.q * r.start) ≡ 2 * (h.q * n) + h.e * (2 * (r.level + h.lift) + 1)
  m_is = let a = h.above in omega arith

  m_some : 0 < m
  m_some = let a = h.above in omega arith

  sum_is : h.e * (s.factor * n + s.base) + rest * r.start ≡ h.half * m + rest * n + h.e * h.spare
  sum_is =
      sum s.factor h.e h.half h.q rest r.start n s.base r.level h.lift h.spare m
      (let o = h.factor_over in omega arith) h.base_is m_is

  -- the shift in two steps is one division
  whole_is : whole_of s n ≡ (s.factor * n + s.base) / (2 * h.half)
  whole_is = div-div-eq-div-mul (s.factor * n + s.base) 4294967296 (2 ^ s.shift) ∙ ap (λ u. (s.factor * n + s.base) / u) h.unit_is

  past : rest * r.start ≤ rest * n + h.e * h.spare → whole_of s n ≡ m / (2 * h.e)
  past k =
      let is = sum_is in
      let u : rest ≤ h.e = let f = h.factor_under in omega arith in
      let v : rest * n ≤ h.e * reach = mul-le-mul u n-in in
      let f = h.fine in
      whole_is ∙ floor_past (2 * h.half) (2 * h.e) (s.factor * n + s.base) m (let e = h.e_some in omega arith) (omega arith) (omega arith)

  short : h.spare ≡ 0 → n < r.start → whole_of s n ≡ (m - 1) / (2 * h.e)
  short z k =
      let is = sum_is in
      let u : rest ≤ h.e = let f = h.factor_under in omega arith in
      let some : 0 < rest = let o = h.factor_over in omega arith in
      let w : rest * (n + 1) ≤ rest * r.start = mul-le-mul_left rest (omega arith) in
      let v : rest * r.start ≤ h.e * reach = mul-le-mul u h.start_in in
      let f = h.fine in
      let none = ap (λ i. h.e * i) z in
      whole_is ∙ floor_short (2 * h.half) (2 * h.e) (s.factor * n + s.base) m (let e = h.e_some in omega arith) m_some (omega arith) (omega arith)

  module _ (a b : ℕ) (runs : a + r.times * r.start ≡ b + (r.times * n + r.level * r.over)) where
    lifted : Lifted a b r.over h.g (2 * h.e) m h.lift
    lifted =
        let is : a + h.g * h.q * r.start ≡ b + (h.g * h.q * n + r.level * (h.g * h.e)) =
        rw (h.times_is, h.over_is) at runs in
        let parts = numerator h.g h.q h.e r.start r.level h.lift n m a b m_is is in
        let o = h.over_is in
        let lifts = ap (λ i. h.lift * i) o in
        record {
          g_some = h.g_some;
          e_some = let e = h.e_some in omega arith;
          m_some = m_some;
          denominator = omega arith;
          numerator = omega arith;
        }

    abbrev Is : Type 0
    Is = scaled_sample s n ≡ clip top (round (pos a -ℤ pos b) r.over +ℤ pos mid)

    -- with no mid: never short, and below zero Clip gives 0
    raised : mid ≡ 0 → r.start ≤ h.spare → Is
    raised z k =
        let u : rest ≤ h.e = let f = h.factor_under in omega arith in
        let v : rest * r.start ≤ h.e * h.spare = mul-le-mul u k in
        rw (past (omega arith), h.top_is) (no_mid lifted mid s.under top h.under_is z)

    -- with a mid: past from the start on, and short before it
    pushed : r.level ≡ 0 → h.spare ≡ 0 → Is
    pushed z k =
        let none = ap (λ i. i * r.over) z in
        ⊎_elim
        (λ (l : n < r.start).
        let some : 0 < r.times = rw h.times_is (mul-pos h.g_some h.q_some) in
        let more : r.times * (n + 1) ≤ r.times * r.start = mul-le-mul_left r.times (omega arith) in
        rw (short k l, h.top_is) (downward lifted mid s.under top h.under_is (omega arith)))
        (λ (l : r.start ≤ n).
        let more : r.times * r.start ≤ r.times * n = mul-le-mul_left r.times l in
        let rests : rest * r.start ≤ rest * n = mul-le-mul_left rest l in
        rw (past (omega arith), h.top_is) (upward lifted mid s.under top h.under_is (omega arith)))
        (below_or_not n r.start)

    pub scaled_is : Is
    scaled_is = ⊎_elim (λ k. raised k.0 k.1) (λ k. pushed k.0 k.1) h.sides
