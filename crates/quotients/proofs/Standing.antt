-- Quotients of runs whose factors are exact stand for their lines: the weights are taken `scale` times, and so is each number that a sample is made of.
use mathlib.Core.Path.{◌≡◌, sym, ap, subst, ◌∙◌}
use Prim.Native.Nat.{ℕ, ◌+◌, ◌*◌, ◌-◌, ◌/◌, ◌≤◌, ◌<◌}
use native.Mathlib.Nat.{mul-le-mul_right, mul_assoc, div-mul-le_self, div-le_self}
use native.Mathlib.Omega.{arith}
use Rattle.sample.specs.Depth.{UpTo}
use Rattle.sample.specs.declared.Pixel.{Pixel}
use Rattle.levels.specs.Lines.{line_sample, lines_pixel}
use Rattle.levels.specs.Room.{Room}
use Rattle.levels.specs.declared.lines.Line.{Line}
use Rattle.levels.specs.declared.lines.Lines.{Lines}
use Rattle.runs.specs.Found.{RunsFound, PlaneRuns, Mixes}
use Rattle.runs.specs.Light.{light_by, blue_by, red_by, mix_of, Weighs}
use Rattle.runs.specs.declared.Run.{Run}
use Rattle.runs.specs.declared.Runs.{Runs}
use Rattle.runs.specs.declared.mix.Mix.{Mix}
use Rattle.runs.proofs.Following.{in_bias}
use Rattle.runs.proofs.Mixing.{bias_in, taken, weighs}
use Rattle.quotients.specs.Parts.{parts}
use Rattle.quotients.specs.Exact.{LumaExact, Testable, Shares}
use Rattle.quotients.specs.Quotients.{nearest_sample, lowered_sample}
use Rattle.quotients.specs.Standing.{OneTop, Stands}
use Rattle.quotients.specs.declared.factors.Quotients.{Quotients}
use Rattle.quotients.specs.declared.factors.Share.{Share}
use Rattle.quotients.proofs.Preparing.{luma_sample, share_sample}
use Rattle.quotients.proofs.Reaching.{blue_least, blue_most, red_least, red_most}

-- a difference, taken `scale` times
times_away : (scale kr kg kb r g b v bias away : ℕ) → away + (kr * r + kg * g + kb * b) ≡ (kr + kg + kb) * v + bias
    → (scale * kr + scale * kg + scale * kb) * v + scale * bias - (scale * kr * r + scale * kg * g + scale * kb * b) ≡ scale * away
times_away scale kr kg kb r g b v bias away e = let more = ap (λ n. scale * n) e in omega arith

module _ {lines : Lines} {r : Runs} (f : RunsFound lines r) where
  -- as often as 16 bits have room for
  abbrev scale : ℕ
  scale = 65535 / r.all

  pub scale_in : scale ≤ 65535
  scale_in = div-le_self 65535 r.all

  pub mixes : Mixes r scale
  mixes = record { sum = f.sum; bias_is = f.bias_is; all_in = div-mul-le_self 65535 r.all; most_in = f.most_in }

  pub bias_few : r.bias ≤ 65535 * 4095
  bias_few = let b = bias_in r.all r.most f.all_in f.most_in in let is = f.bias_is in omega arith

  pub light_few : scale * r.bias ≤ 65535 * 4095
  light_few = let t = taken mixes in let b = t.bias_in in let e = t.bias in omega arith

  -- a weight at the largest sample is no more than the largest light
  pub weight_in : (k : ℕ) → k ≤ r.all → k * r.most ≤ r.bias
  weight_in k h = let m = mul-le-mul_right r.most h in let is = f.bias_is in omega arith

  pub testable : {l : Line} {run : Run} {n : Pixel → ℕ} (k : ℕ) → PlaneRuns l r.most n run → run.start ≡ r.bias → k ≤ r.all → Room l
      → Testable run scale r.bias (k * r.most) l.mid
  testable k runs start h room =
      record {
        times_some = runs.times_some;
        start_is = start;
        scale_in = scale_in;
        bias_in = bias_few;
        light_in = light_few;
        low_in = weight_in k h;
        mid_in = let m = room.mid_in in let t = room.top_in in omega arith;
      }

  module _ {luma top : ℕ} {blue red : Share} (one : OneTop lines top) (first : LumaExact r.luma scale r.bias luma)
      (second : Shares r.blue lines.second.line.mid scale r.bias (r.kb * r.most) blue)
      (third : Shares r.red lines.third.line.mid scale r.bias (r.kr * r.most) red) where
    -- they have room
    abbrev pub made : (m : Mix) → m ≡ mix_of r scale → Quotients
    made m e =
        let l = light_few in
        let b : blue.take ≤ parts blue.factor (scale * r.kb * r.most) = rw (mul_assoc scale r.kb r.most) second.there in
        let c : red.take ≤ parts red.factor (scale * r.kr * r.most) = rw (mul_assoc scale r.kr r.most) third.there in
        let back = sym e in
        record {
          mix = m;
          luma = luma;
          blue = blue;
          red = red;
          top = top;
          weighs = subst Weighs back (weighs mixes);
          bias_in = subst (λ m. 2 * m.bias < 1073741824) back (omega arith);
          top_in = let t = one.top_in in omega arith;
          blue_there = subst (λ m. blue.take ≤ parts blue.factor (m.kb * m.most)) back b;
          red_there = subst (λ m. red.take ≤ parts red.factor (m.kr * m.most)) back c;
        }

    abbrev pixel_by : Mix → Pixel → Pixel
    pixel_by m p =
        record {
          p0 = nearest_sample luma top (light_by m.kr m.kg m.kb p);
          p1 = lowered_sample blue top (blue_by m.kr m.kg m.kb m.bias p);
          p2 = lowered_sample red top (red_by m.kr m.kg m.kb m.bias p);
        }

    module _ (p : Pixel) (w : UpTo r.most p) where
      bias_is : r.bias ≡ (r.kr + r.kg + r.kb) * r.most
      bias_is = f.bias_is ∙ ap (λ n. n * r.most) (sym f.sum)

      light_in : light_by r.kr r.kg r.kb p ≤ r.bias
      light_in = let b = bias_is in let l = in_bias r.kr r.kg r.kb r.most p.p0 p.p1 p.p2 w.p0_in w.p1_in w.p2_in in omega arith

      light_times : light_by (scale * r.kr) (scale * r.kg) (scale * r.kb) p ≡ scale * light_by r.kr r.kg r.kb p
      light_times = omega arith

      blue_times : blue_by (scale * r.kr) (scale * r.kg) (scale * r.kb) (scale * r.bias) p ≡ scale * blue_by r.kr r.kg r.kb r.bias p
      blue_times = let l = light_in in times_away scale r.kr r.kg r.kb p.p0 p.p1 p.p2 p.p2 r.bias _ (omega arith)

      red_times : red_by (scale * r.kr) (scale * r.kg) (scale * r.kb) (scale * r.bias) p ≡ scale * red_by r.kr r.kg r.kb r.bias p
      red_times = let l = light_in in times_away scale r.kr r.kg r.kb p.p0 p.p1 p.p2 p.p0 r.bias _ (omega arith)

      y_is : nearest_sample luma top (light_by (scale * r.kr) (scale * r.kg) (scale * r.kb) p) ≡ line_sample lines.first.line p
      y_is = ap (nearest_sample luma top) light_times ∙ luma_sample f.luma.follows scale r.bias top one.first p w luma first one.mid_none light_in

      cb_is : lowered_sample blue top (blue_by (scale * r.kr) (scale * r.kg) (scale * r.kb) (scale * r.bias) p) ≡ line_sample lines.second.line p
      cb_is =
          ap (lowered_sample blue top) blue_times
          ∙ share_sample f.blue.follows scale r.bias top one.second p w blue second
          (blue_least r.kr r.kg r.kb r.most r.bias bias_is p w) (blue_most r.kr r.kg r.kb r.most r.bias bias_is p w)

      cr_is : lowered_sample red top (red_by (scale * r.kr) (scale * r.kg) (scale * r.kb) (scale * r.bias) p) ≡ line_sample lines.third.line p
      cr_is =
          ap (lowered_sample red top) red_times
          ∙ share_sample f.red.follows scale r.bias top one.third p w red third
          (red_least r.kr r.kg r.kb r.most r.bias bias_is p w) (red_most r.kr r.kg r.kb r.most r.bias bias_is p w)

    once : (p : Pixel) → UpTo r.most p → pixel_by (mix_of r scale) p ≡ lines_pixel lines p
    once p w i = record { p0 = y_is p w i; p1 = cb_is p w i; p2 = cr_is p w i }

  -- so whatever has those weights and such factors stands for the lines
  pub any_stands : (k : Quotients) → k.mix ≡ mix_of r scale → OneTop lines k.top → LumaExact r.luma scale r.bias k.luma
      → Shares r.blue lines.second.line.mid scale r.bias (r.kb * r.most) k.blue
      → Shares r.red lines.third.line.mid scale r.bias (r.kr * r.most) k.red
      → Stands lines k × (k.mix.most ≡ r.most)
  any_stands k e one first second third = (
    record {
      fits = record { weighs = k.weighs; bias_in = k.bias_in; top_in = k.top_in; blue = k.blue_there; red = k.red_there };
      is = subst (λ m. (p : Pixel) → UpTo m.most p → pixel_by one first second third m p ≡ lines_pixel lines p) (sym e) (once one first second third);
    },
    ap (λ m. m.most) e,
  )

  module _ {luma top : ℕ} {blue red : Share} (one : OneTop lines top) (first : LumaExact r.luma scale r.bias luma)
      (second : Shares r.blue lines.second.line.mid scale r.bias (r.kb * r.most) blue)
      (third : Shares r.red lines.third.line.mid scale r.bias (r.kr * r.most) red) where
    -- and so do those that are made of exact factors, which have room by that alone
    pub stand : (m : Mix) (e : m ≡ mix_of r scale)
        → Stands lines (made one first second third m e) × (m.most ≡ r.most)
    stand m e = any_stands (made one first second third m e) e one first second third
