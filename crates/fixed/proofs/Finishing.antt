-- A line that is reduced and lifted, with its numbers in parts of the unit: all of `Stands` and all of the words' room is there.
use mathlib.Core.Path.{◌≡◌, refl, ap}
use Prim.Native.Nat.{ℕ, ◌+◌, ◌*◌, ◌-◌, ◌/◌, ◌^◌, ◌≤◌, ◌<◌}
use native.Mathlib.Nat.{le-div_iff_mul-le, le-mul_of_pos_right}
use native.Mathlib.Omega.{arith}
use Rattle.sample.specs.Depth.{past_samples}
use Rattle.levels.specs.declared.lines.Line.{Line}
use Rattle.fixed.specs.Numbers.{Stands}
use Rattle.fixed.specs.Words.{past_words, numbers_of, WordsFit}
use Rattle.fixed.specs.Steps.{weight_of, Finished, Good}
use Rattle.fixed.specs.declared.words.Scaling.{Scaling}
use Rattle.fixed.specs.declared.words.Weight.{Weight}
use Rattle.fixed.specs.declared.words.Words.{Words}
use Rattle.fixed.specs.declared.reduce.Reduced.{Reduced}
use Rattle.fixed.specs.declared.lift.Lift.{Lift}

-- lifting c over e lifts the line over its denominator
lifted_constant : (g e c plus minus by moved up down over : ℕ) → g * e ≡ 2 * over → c + minus ≡ by * e + plus
    → g * (moved + plus) + 2 * down ≡ g * minus + 2 * up + over → g * (moved + c) + 2 * down ≡ 2 * up + over + 2 * (by * over)
lifted_constant g e c plus minus by moved up down over d l k =
    let one = ap (λ n. g * n) l in
    let two = ap (λ n. by * n) d in
    omega arith

-- a unit of so many parts of e is at least e, and then what is above 0 is above 0 in parts of it
pub e_within : (most e unit : ℕ) → (3 * most + 2) * e ≤ unit → e ≤ unit
e_within most e unit h = omega arith

pub some_parts : (unit e c : ℕ) → 0 < e → e ≤ unit → 0 < c → 0 < unit * c / e
some_parts unit e c some fine c_some =
    let l = le-mul_of_pos_right {m = c} unit c_some in
    (le-div_iff_mul-le {k = e} {x = 1} {y = unit * c} some).1 (omega arith)

module _ {l : Line} {most : ℕ} {r : Reduced} {v : Lift} {shift : ℕ} {n : Scaling} (k : Finished l most r v shift n) where
  abbrev the_words : Words
  the_words =
      record {
        first = weight_of n.first r.first.mark;
        second = weight_of n.second r.second.mark;
        third = weight_of n.third r.third.mark;
        high = n.base.high;
        low = n.base.low;
        most = most;
        shift = shift;
        add = 3 * most + 2;
        lift = v.by;
        under = v.by - l.mid;
        top = l.top;
      }

  stands : Stands l (numbers_of the_words)
  stands =
      let red = k.reduces in
      let unit = past_words * 2 ^ shift in
      record {
        g = red.g;
        e = r.e;
        a0 = r.first.a;
        a1 = r.second.a;
        a2 = r.third.a;
        c = v.c;
        g_some = red.g_some;
        e_some = red.e_some;
        c_some = k.lifts.some;
        denominator = red.denominator;
        weight0 = red.weight0;
        weight1 = red.weight1;
        weight2 = red.weight2;
        constant =
            lifted_constant red.g r.e v.c r.plus r.minus v.by
            (r.first.a * r.first.mark + r.second.a * r.second.mark + r.third.a * r.third.mark)
            l.up l.down l.equation.over red.denominator k.lifts.is red.constant;
        scaled0 = k.scaled.first.is;
        scaled1 = k.scaled.second.is;
        scaled2 = k.scaled.third.is;
        scaled =
            let some = some_parts unit r.e v.c red.e_some (e_within most r.e unit k.fine) k.lifts.some in
            let is = k.scaled.base.is in
            omega arith;
        add_is = refl;
        fine = k.fine;
        lift_is = let m = k.lifts.mid_in in omega arith;
        top_is = refl;
      }

  fits : most < past_samples → WordsFit the_words
  fits most_in =
      record {
        first = record { low_in = k.scaled.first.low_in; mark_in = k.reduces.weight0.mark_in };
        second = record { low_in = k.scaled.second.low_in; mark_in = k.reduces.weight1.mark_in };
        third = record { low_in = k.scaled.third.low_in; mark_in = k.reduces.weight2.mark_in };
        low_in = k.scaled.base.low_in;
        most_in = most_in;
        add_in = omega arith;
        shift_in = k.shift_in;
        high_in = k.high_in.sum;
      }

  -- with weights that are those, however they were made
  pub good : most < past_samples → {w0 w1 w2 : Weight}
      → w0 ≡ weight_of n.first r.first.mark → w1 ≡ weight_of n.second r.second.mark
      → w2 ≡ weight_of n.third r.third.mark
      → Good l most (record {
        first = w0;
        second = w1;
        third = w2;
        high = n.base.high;
        low = n.base.low;
        most = most;
        shift = shift;
        add = 3 * most + 2;
        lift = v.by;
        under = v.by - l.mid;
        top = l.top;
      })
  good most_in e0 e1 e2 = rw (e0, e1, e2) (record { fits = fits most_in; stands = stands; most_is = refl })
