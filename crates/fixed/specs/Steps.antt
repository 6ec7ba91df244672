-- What each step has found on the way from a line to its words.
use Rattle.std.specs.Prelude.{◌≡◌, ℕ, ◌+◌, ◌*◌, ◌-◌, ◌/◌, ◌^◌, ◌≤◌, ◌<◌}
use Rattle.std.specs.Int.{◌∣◌}
use Rattle.sample.specs.Depth.{past_samples}
use Rattle.levels.specs.declared.lines.Line.{Line}
use Rattle.fixed.specs.Numbers.{distance, Weight, Stands}
use Rattle.fixed.specs.Words.{past_words, word, numbers_of, WordsFit}
use Rattle.fixed.specs.declared.division.Part.{Part}
use Rattle.fixed.specs.declared.division.Wide.{Wide}
use Rattle.fixed.specs.declared.words.Scaling.{Scaling}
use Rattle.fixed.specs.declared.reduce.Size.{Size}
use Rattle.fixed.specs.declared.reduce.Difference.{Difference}
use Rattle.fixed.specs.declared.reduce.Reduced.{Reduced}
use Rattle.fixed.specs.declared.lift.Lift.{Lift}
use Rattle.fixed.specs.declared.words.Weight as words
use Rattle.fixed.specs.declared.words.Words.{Words}

-- Reducing: g divides twice a line's numbers, with the half that Round adds among them.
pub record Factor (l : Line) (g : ℕ) : Type 0 where
  pub some : 0 < g
  pub over : g ∣ 2 * l.equation.over
  pub weight0 : g ∣ 2 * distance l.equation.up0 l.equation.down0
  pub weight1 : g ∣ 2 * distance l.equation.up1 l.equation.down1
  pub weight2 : g ∣ 2 * distance l.equation.up2 l.equation.down2
  pub constant : g ∣ distance (2 * l.up + l.equation.over) (2 * l.down)

-- a weight that can be turned: what divides it, and that its products have room
pub record Turns (up down g most : ℕ) : Type 0 where
  pub some : 0 < g
  pub divides : g ∣ 2 * distance up down
  pub up_in : 2 * up < 2 ^ 64
  pub down_in : 2 * down < 2 ^ 64
  pub taken_in : 2 * (most * down) < 2 ^ 64

pub record Turned (up down g most : ℕ) (s : Size) : Type 0 where
  pub weight : Weight g s.a up down s.mark most
  pub moved_is : s.moved ≡ s.a * s.mark
  pub moved_in : s.moved ≤ 2 * (most * down)

pub record Parted (p q g : ℕ) (d : Difference) : Type 0 where
  pub is : g * d.plus + q ≡ g * d.minus + p
  pub minus_in : d.minus ≤ q

-- a line in lowest terms: all of `Stands` that knows of no unit and no lift
pub record Reduces (l : Line) (most : ℕ) (r : Reduced) : Type 0 where
  pub g : ℕ
  pub g_some : 0 < g
  pub e_some : 0 < r.e
  pub e_in : r.e ≤ 2 * l.equation.over
  pub denominator : g * r.e ≡ 2 * l.equation.over
  pub weight0 : Weight g r.first.a l.equation.up0 l.equation.down0 r.first.mark most
  pub weight1 : Weight g r.second.a l.equation.up1 l.equation.down1 r.second.mark most
  pub weight2 : Weight g r.third.a l.equation.up2 l.equation.down2 r.third.mark most
  pub constant : g * (r.first.a * r.first.mark + r.second.a * r.second.mark + r.third.a * r.third.mark + r.plus) + 2 * l.down
      ≡ g * r.minus + 2 * l.up + l.equation.over

-- Lifting: the constant, and the lift in parts of e, is above 0, and the lift is no less than mid.
pub record Lifts (r : Reduced) (mid : ℕ) (v : Lift) : Type 0 where
  pub some : 0 < v.c
  pub is : v.c + r.minus ≡ v.by * r.e + r.plus
  pub mid_in : mid ≤ v.by
  pub by_in : v.by < past_samples

-- Dividing: q is p times the unit, again in parts of e, with less than e left over.
pub record Parts (p : Part) (e unit : ℕ) (q : Part) : Type 0 where
  pub exact : q.whole * e + q.rest ≡ unit * (p.whole * e + p.rest)
  pub rest_in : q.rest < e
  pub whole_in : q.whole < unit * (p.whole + 1)

-- n bits more have room
pub record BitsFit (p : Part) (e n : ℕ) : Type 0 where
  pub rest_in : p.rest < e
  pub e_in : e ≤ 2 ^ 63
  pub room : 2 ^ n * (p.whole + 1) ≤ 2 ^ 64

-- a number in two words
pub record InWords (n : ℕ) (w : Wide) : Type 0 where
  pub is : word w.high w.low ≡ n
  pub low_in : w.low < past_words

abbrev pub weight_of : Wide → ℕ → words.Weight
weight_of w mark = record { high = w.high; low = w.low; mark = mark }

-- the numbers of a reduced line with the constant c, in parts of the unit, and the last of them one part less
pub record Scaled (r : Reduced) (c unit : ℕ) (n : Scaling) : Type 0 where
  pub first : InWords (unit * r.first.a / r.e) n.first
  pub second : InWords (unit * r.second.a / r.e) n.second
  pub third : InWords (unit * r.third.a / r.e) n.third
  pub base : InWords (unit * c / r.e - 1) n.base

-- Choosing: no number of a line is past all samples, and the unit is large enough to make up for what is lost.
pub record Small (r : Reduced) (c : ℕ) : Type 0 where
  pub first : r.first.a / r.e < past_samples
  pub second : r.second.a / r.e < past_samples
  pub third : r.third.a / r.e < past_samples
  pub constant : c / r.e < past_samples

-- what a line needs so that its numbers can be scaled
pub record Scales (r : Reduced) (c shift : ℕ) : Type 0 where
  pub e_some : 0 < r.e
  pub e_in : r.e ≤ 2 ^ 63
  pub c_some : 0 < c
  pub shift_in : shift ≤ 34
  pub enough : r.e ≤ past_words * 2 ^ shift

pub record HighFits (most shift : ℕ) (n : Scaling) : Type 0 where
  pub first : n.first.high < past_words
  pub second : n.second.high < past_words
  pub third : n.third.high < past_words
  pub sum : most * (n.first.high + n.second.high + n.third.high) + n.base.high + 3 * most + 2 < past_samples * 2 ^ shift

-- all that is known before the words are put together
pub record Finished (l : Line) (most : ℕ) (r : Reduced) (v : Lift) (shift : ℕ) (n : Scaling) : Type 0 where
  pub reduces : Reduces l most r
  pub lifts : Lifts r l.mid v
  pub shift_in : shift ≤ 34
  pub fine : (3 * most + 2) * r.e ≤ past_words * 2 ^ shift
  pub scaled : Scaled r v.c (past_words * 2 ^ shift) n
  pub high_in : HighFits most shift n

-- What is made stands for the line and has room.
pub record Good (l : Line) (most : ℕ) (w : Words) : Type 0 where
  pub fits : WordsFit w
  pub stands : Stands l (numbers_of w)
  pub most_is : w.most ≡ most
