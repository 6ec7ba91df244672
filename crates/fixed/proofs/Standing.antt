-- Numbers that stand for a line give its samples: the sum is near the line's lifted value, and the law reads Round off it.
use mathlib.Core.Path.{◌≡◌, sym, ap, ◌∙◌}
use Prim.Native.Nat.{ℕ, ◌+◌, ◌*◌, ◌-◌, ◌/◌, ◌≤◌, ◌<◌, min}
use native.Mathlib.Nat.{add_assoc, mul-le-mul_left, mul-le-mul_right, div-mul-le_self, lt-div-mul-add}
use native.Mathlib.Omega.{arith}
use Rattle.rounding.proofs.Lifted.{Lifted, low_side, high_side, no_mid}
use Rattle.sample.specs.declared.Pixel.{Pixel}
use Rattle.levels.specs.declared.lines.Line.{Line}
use Rattle.levels.specs.Lines.{added, taken, line_sample}
use Rattle.levels.proofs.Numerators.{sample_in_parts}
use Rattle.sample.specs.Depth.{UpTo}
use Rattle.fixed.specs.Numbers.{distance, Numbers, sum_of, Stands}
use Rattle.fixed.proofs.Floors.{Near, floor, floor_before}

-- a number in parts of the unit is short by less than one part
record Short (unit e a w : ℕ) : Type 0 where
  below : w * e ≤ unit * a
  above : unit * a < w * e + e

short : (unit e a w : ℕ) → 0 < e → w ≡ unit * a / e → Short unit e a w
short unit e a w some is =
    let same = ap (λ n. n * e) is in
    let low = div-mul-le_self (unit * a) e in
    let high = lt-div-mul-add {a = unit * a} some in
    record { below = omega arith; above = omega arith }

-- and its product with a distance by at most `most` parts
record Product (unit e a w most u : ℕ) : Type 0 where
  below : w * u * e ≤ unit * (a * u)
  above : unit * (a * u) ≤ w * u * e + most * e

product : {unit e a w : ℕ} (most u : ℕ) → Short unit e a w → u ≤ most → Product unit e a w most u
product {unit} {e} {a} {w} most u s h =
    let low = mul-le-mul_left u s.below in
    let high : u * (unit * a) ≤ u * (w * e + e) = mul-le-mul_left u (let l = s.above in omega arith) in
    let loss = mul-le-mul_right e h in
    record { below = omega arith; above = omega arith }

sum_above : (unit e p0 p1 p2 c q0 q1 q2 base most : ℕ)
    → unit * p0 ≤ q0 * e + most * e → unit * p1 ≤ q1 * e + most * e → unit * p2 ≤ q2 * e + most * e → unit * c < (base + 1) * e + e
    → unit * (p0 + p1 + p2 + c) < (q0 + q1 + q2 + base + 1 + (3 * most + 1)) * e
sum_above unit e p0 p1 p2 c q0 q1 q2 base most h0 h1 h2 h = omega arith

-- the products at their distances and at their marks, and the constant
lifted_sum : (g t0 t1 t2 c m0 m1 m2 x0 x1 x2 y0 y1 y2 up down rest : ℕ)
    → g * t0 + 2 * y0 ≡ 2 * x0 + g * m0 → g * t1 + 2 * y1 ≡ 2 * x1 + g * m1 → g * t2 + 2 * y2 ≡ 2 * x2 + g * m2
    → g * (m0 + m1 + m2 + c) + 2 * down ≡ 2 * up + rest → g * (t0 + t1 + t2 + c) + 2 * (y0 + y1 + y2 + down) ≡ 2 * (x0 + x1 + x2 + up) + rest
lifted_sum g t0 t1 t2 c m0 m1 m2 x0 x1 x2 y0 y1 y2 up down rest e0 e1 e2 e = omega arith

pub distance_in : {v mark most : ℕ} → v ≤ most → mark ≤ most → distance v mark ≤ most
distance_in h k = omega arith

-- with the distances u0, u1, u2
module _ {l : Line} {n : Numbers} (h : Stands l n) (u0 u1 u2 : ℕ) where
  near_sum : u0 ≤ n.most → u1 ≤ n.most → u2 ≤ n.most
      → Near n.unit h.e (h.a0 * u0 + h.a1 * u1 + h.a2 * u2 + h.c) (3 * n.most + 1) (n.w0 * u0 + n.w1 * u1 + n.w2 * u2 + n.base + 1)
  near_sum k0 k1 k2 =
      let p0 = product n.most u0 (short n.unit h.e h.a0 n.w0 h.e_some h.scaled0) k0 in
      let p1 = product n.most u1 (short n.unit h.e h.a1 n.w1 h.e_some h.scaled1) k1 in
      let p2 = product n.most u2 (short n.unit h.e h.a2 n.w2 h.e_some h.scaled2) k2 in
      let base = short n.unit h.e h.c (n.base + 1) h.e_some h.scaled in
      record {
        e_some = h.e_some;
        m_some = let some = h.c_some in omega arith;
        below = omega arith;
        above =
            sum_above n.unit h.e (h.a0 * u0) (h.a1 * u1) (h.a2 * u2) h.c (n.w0 * u0) (n.w1 * u1) (n.w2 * u2) n.base n.most
            p0.above p1.above p2.above base.above;
        fine = let some = h.e_some in let same = ap (λ k. k * h.e) h.add_is in let f = h.fine in omega arith;
      }

module _ {l : Line} {n : Numbers} (h : Stands l n) (p : Pixel) (inside : UpTo n.most p) where
  abbrev m : ℕ
  m = h.a0 * distance p.p0 n.mark0 + h.a1 * distance p.p1 n.mark1 + h.a2 * distance p.p2 n.mark2 + h.c

  near : Near n.unit h.e m (3 * n.most + 1) (sum_of n p + 1)
  near =
      near_sum h (distance p.p0 n.mark0) (distance p.p1 n.mark1) (distance p.p2 n.mark2)
      (distance_in inside.p0_in h.weight0.mark_in)
      (distance_in inside.p1_in h.weight1.mark_in)
      (distance_in inside.p2_in h.weight2.mark_in)

  lifted : Lifted (added l p) (taken l p) l.equation.over h.g h.e m n.lift
  lifted =
      record {
        g_some = h.g_some;
        e_some = h.e_some;
        m_some = near.m_some;
        denominator = h.denominator;
        numerator =
            let e0 = h.weight0.each p.p0 inside.p0_in in
            let e1 = h.weight1.each p.p1 inside.p1_in in
            let e2 = h.weight2.each p.p2 inside.p2_in in
            let w = l.equation in
            let rest = l.equation.over + 2 * (n.lift * l.equation.over) in
            let t0 = h.a0 * distance p.p0 n.mark0 in
            let t1 = h.a1 * distance p.p1 n.mark1 in
            let t2 = h.a2 * distance p.p2 n.mark2 in
            let is = lifted_sum h.g t0 t1 t2 h.c
            (h.a0 * n.mark0) (h.a1 * n.mark1) (h.a2 * n.mark2)
            (w.up0 * p.p0) (w.up1 * p.p1) (w.up2 * p.p2) (w.down0 * p.p0) (w.down1 * p.p1) (w.down2 * p.p2) l.up l.down rest
            e0 e1 e2 (h.constant ∙ add_assoc (2 * l.up) w.over (2 * (n.lift * w.over))) in
            is ∙ sym (add_assoc (2 * added l p) w.over (2 * (n.lift * w.over)));
      }

  -- the whole units of the sum, and of the sum with what makes up for the loss
  down_is : sum_of n p / n.unit ≡ (m - 1) / h.e
  down_is = let same : sum_of n p ≡ sum_of n p + 1 - 1 = omega arith in ap (λ k. k / n.unit) same ∙ floor_before near

  up_is : (sum_of n p + n.add) / n.unit ≡ m / h.e
  up_is =
      let is = h.add_is in
      let same : sum_of n p + n.add ≡ sum_of n p + 1 + (3 * n.most + 1) = omega arith in
      ap (λ k. k / n.unit) same ∙ floor near

  -- the line's sample, of those two numbers
  pub sample_below : sum_of n p / n.unit < n.lift → min (sum_of n p / n.unit - n.under) n.top ≡ line_sample l p
  sample_below k = rw (down_is, h.top_is) (low_side lifted l.mid n.under l.top h.lift_is (rw down_is at k) ∙ sample_in_parts l p)

  pub sample_above : n.lift ≤ sum_of n p / n.unit → min ((sum_of n p + n.add) / n.unit - n.under) n.top ≡ line_sample l p
  sample_above k = rw (up_is, h.top_is) (high_side lifted l.mid n.under l.top h.lift_is (rw down_is at k) ∙ sample_in_parts l p)

  pub sample_alone : l.mid ≡ 0 → min ((sum_of n p + n.add) / n.unit - n.under) n.top ≡ line_sample l p
  sample_alone k = rw (up_is, h.top_is) (no_mid lifted l.mid n.under l.top h.lift_is k ∙ sample_in_parts l p)
