-- A weight of either sign, and a constant of either, over what divides it: a weight that takes away d v takes d most, and gives back
-- d (most - v).
use mathlib.Core.Path.{◌≡◌, ap, subst, ◌∙◌}
use Prim.Native.Nat.{ℕ, zero, suc, ◌+◌, ◌*◌, ◌-◌, ◌/◌, ◌≤◌, ◌<◌, ◌∣◌}
use native.Mathlib.Nat.{add-mul, mul-div_cancel', div-le_self, mul-le-mul_right}
use native.Mathlib.Omega.{arith}
use Rattle.levels.specs.Conversion.{most_sample}
use Rattle.levels.specs.Room.{most_numerator, Room}
use Rattle.levels.specs.declared.lines.Line.{Line}
use Rattle.fixed.specs.Numbers.{distance, Weight}

-- a distance, divided by what divides it and multiplied again
pub whole_below : (g p q : ℕ) → p < q → g ∣ distance p q → g * ((q - p) / g) ≡ q - p
whole_below g p q l h = let is : distance p q ≡ q - p = omega arith in mul-div_cancel' g (subst (λ n. g ∣ n) is h)

pub whole_from : (g p q : ℕ) → q ≤ p → g ∣ distance p q → g * ((p - q) / g) ≡ p - q
whole_from g p q l h = let is : distance p q ≡ p - q = omega arith in mul-div_cancel' g (subst (λ n. g ∣ n) is h)

-- and twice as much
pub twice_below : (g p q : ℕ) → p < q → g ∣ 2 * distance p q → g * (2 * (q - p) / g) ≡ 2 * (q - p)
twice_below g p q l h = let is : distance p q ≡ q - p = omega arith in mul-div_cancel' g (subst (λ n. g ∣ 2 * n) is h)

pub twice_from : (g p q : ℕ) → q ≤ p → g ∣ 2 * distance p q → g * (2 * (p - q) / g) ≡ 2 * (p - q)
twice_from g p q l h = let is : distance p q ≡ p - q = omega arith in mul-div_cancel' g (subst (λ n. g ∣ 2 * n) is h)

-- a weight that takes away, with t from a sample v to the largest
takes : (g a up d v t : ℕ) → g * a ≡ 2 * d → g * (a * t) + 2 * ((up + d) * v) ≡ 2 * (up * v) + g * (a * (v + t))
takes g a up d v t h = let low = ap (λ n. n * v) h in let high = ap (λ n. n * t) h in omega arith

pub weight_takes : (g a up down most : ℕ) → up < down → g * a ≡ 2 * (down - up) → Weight g a up down most most
weight_takes g a up down most l h =
    record {
      mark_in = omega arith;
      each = λ v k.
          let turned : distance v most ≡ most - v = omega arith in
          let whole : up + (down - up) ≡ down = omega arith in
          let all : v + (most - v) ≡ most = omega arith in
          rw turned (rw (whole, all) at (takes g a up (down - up) v (most - v) h));
    }

-- and one that adds
pub weight_adds : (g a up down most : ℕ) → down ≤ up → g * a ≡ 2 * (up - down) → Weight g a up down 0 most
weight_adds g a up down most l h =
    record {
      mark_in = omega arith;
      each = λ v k.
          let turned : distance v 0 ≡ v = omega arith in
          let part = ap (λ n. n * v) h in
          let split : up ≡ up - down + down = omega arith in
          let whole : up * v ≡ (up - down) * v + down * v = ap (λ n. n * v) split ∙ add-mul (up - down) down v in
          rw turned (omega arith);
    }

pub moved_in : (g d down most : ℕ) → d ≤ down → 2 * d / g * most ≤ 2 * (most * down)
moved_in g d down most h =
    let a = mul-le-mul_right most (div-le_self (2 * d) g) in
    let b = mul-le-mul_right most h in
    omega arith

pub quotient_some : (g q n : ℕ) → g * q ≡ n → 0 < n → 0 < q
quotient_some g zero n e h = absurd (omega arith)
quotient_some g (suc q) n e h = omega arith

-- the constant, with what the marks have added
pub balance : (g n0 n1 n2 m0 m1 m2 plus minus up down over : ℕ) → m0 ≡ n0 → m1 ≡ n1 → m2 ≡ n2
    → g * plus + 2 * down ≡ g * minus + (2 * up + over)
    → g * (n0 + n1 + n2 + plus) + 2 * down ≡ g * (m0 + m1 + m2 + minus) + 2 * up + over
balance g n0 n1 n2 m0 m1 m2 plus minus up down over e0 e1 e2 e = rw (e0, e1, e2) (omega arith)

-- what is taken away at the largest sample has room
pub taken_in : {l : Line} {most : ℕ} → Room l → most ≤ most_sample
    → most * l.equation.down0 + most * l.equation.down1 + most * l.equation.down2 + l.down ≤ most_numerator
taken_in {l} {most} room h =
    let t0 = mul-le-mul_right l.equation.down0 h in
    let t1 = mul-le-mul_right l.equation.down1 h in
    let t2 = mul-le-mul_right l.equation.down2 h in
    let all = room.down_fits in
    omega arith
