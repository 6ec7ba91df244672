-- A line in fixed point: its weights and its constant in parts of one unit, rounded down, with nothing below zero.
use Rattle.std.specs.Prelude.{◌≡◌, ℕ, ◌+◌, ◌*◌, ◌-◌, ◌/◌, ◌≤◌, ◌<◌}
use Rattle.sample.specs.declared.Pixel.{Pixel}
use Rattle.levels.specs.declared.lines.Line.{Line}

-- how far v is from a mark. The mark of a weight that takes away is the largest sample, and what lies below that is added.
abbrev pub distance : ℕ → ℕ → ℕ
distance v mark = v - mark + (mark - v)

-- w0 .. base and `add` are in parts of the unit, `lift`, `under` and `top` are whole; no sample is above `most`
pub record Numbers : Type 0 where
  pub w0 : ℕ
  pub w1 : ℕ
  pub w2 : ℕ
  pub base : ℕ
  pub mark0 : ℕ
  pub mark1 : ℕ
  pub mark2 : ℕ
  pub most : ℕ
  pub unit : ℕ
  pub add : ℕ
  pub lift : ℕ
  pub under : ℕ
  pub top : ℕ

abbrev pub sum_of : Numbers → Pixel → ℕ
sum_of n p = n.w0 * distance p.p0 n.mark0 + n.w1 * distance p.p1 n.mark1 + n.w2 * distance p.p2 n.mark2 + n.base

-- g a is twice the size of the weight up - down. With its mark at `most` it gives g a mark too much, at every sample alike.
pub record Weight (g a up down mark most : ℕ) : Type 0 where
  pub mark_in : mark ≤ most
  pub each : (v : ℕ) → v ≤ most → g * (a * distance v mark) + 2 * (down * v) ≡ 2 * (up * v) + g * (a * mark)

-- The numbers stand for the line. With u0, u1, u2 for the distances, (a0 u0 + a1 u1 + a2 u2 + c) / e is the line's numerator over its
-- denominator, and 1/2, and the lift, which makes c more than 0. g was divided out of all numbers: any factor will do. A number in parts
-- of the unit is short by less than one part, so the sum is short by less than 3 most + 1, and an e-th of the unit is more than that.
-- The base is one part less than the constant: the sum itself then serves where a half goes down, and with `add` where it goes up.
pub record Stands (l : Line) (n : Numbers) : Type 0 where
  pub g : ℕ
  pub e : ℕ
  pub a0 : ℕ
  pub a1 : ℕ
  pub a2 : ℕ
  pub c : ℕ
  pub g_some : 0 < g
  pub e_some : 0 < e
  pub c_some : 0 < c
  pub denominator : g * e ≡ 2 * l.equation.over
  pub weight0 : Weight g a0 l.equation.up0 l.equation.down0 n.mark0 n.most
  pub weight1 : Weight g a1 l.equation.up1 l.equation.down1 n.mark1 n.most
  pub weight2 : Weight g a2 l.equation.up2 l.equation.down2 n.mark2 n.most
  pub constant : g * (a0 * n.mark0 + a1 * n.mark1 + a2 * n.mark2 + c) + 2 * l.down
      ≡ 2 * l.up + l.equation.over + 2 * (n.lift * l.equation.over)
  pub scaled0 : n.w0 ≡ n.unit * a0 / e
  pub scaled1 : n.w1 ≡ n.unit * a1 / e
  pub scaled2 : n.w2 ≡ n.unit * a2 / e
  pub scaled : n.base + 1 ≡ n.unit * c / e
  pub add_is : n.add ≡ 3 * n.most + 2
  pub fine : n.add * e ≤ n.unit
  pub lift_is : n.under + l.mid ≡ n.lift
  pub top_is : n.top ≡ l.top
