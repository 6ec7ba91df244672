-- The lines of every setting have room in 64 bits. Of the luma matrices the green equation of the reverse is the largest: its weights
-- are at most 5/4 of the square of the whole, whatever KR and KB are.
use mathlib.Core.Path.{◌≡◌, ap}
use mathlib.Core.Bool.{Bool, true, false}
use Prim.Native.Nat.{ℕ, zero, suc, ◌+◌, ◌*◌, ◌^◌, ◌≤◌, ◌<◌}
use native.Mathlib.Nat.{mul-pos, mul-le-mul, mul-le-mul_left, le_refl}
use native.Mathlib.Omega.{arith}
use Rattle.sample.specs.Depth.{most_level_depth, M, Inside}
use Rattle.sample.specs.declared.ChromaDepth.{ChromaDepth}
use Rattle.sample.specs.declared.Pixel.{Pixel}
use Rattle.sample.proofs.DepthLaws.{Powers, powers}
use Rattle.scale.specs.Scale.{light_scale, chroma_scale}
use Rattle.levels.specs.Conversion.{Shares, EquationFits, MatrixFits, LevelDepth, most_sample, SamplesFit}
use Rattle.levels.specs.Equations.{all_parts, weights, equation_y, equation_pb, equation_pr, equation_r, equation_g, equation_b, luma_matrix}
use Rattle.levels.specs.Lines.{writer_of, readers_of_rgb, readers_of_ycc, spread, line_of}
use Rattle.levels.specs.Room.{light_added, chroma_added, ScaleFits, SpreadFits, LineFits, Room}
use Rattle.scale.specs.declared.Scale.{Scale}
use Rattle.levels.specs.declared.equations.Weights.{Weights}
use Rattle.levels.specs.declared.equations.Equation.{Equation}
use Rattle.levels.specs.declared.lines.Readers.{Readers}
use Rattle.levels.specs.declared.lines.Writer.{Writer}

-- the powers of two of a depth that is served
depth_powers : {d : ℕ} → LevelDepth d → Powers d most_level_depth
depth_powers {d} h = powers d most_level_depth h.least h.most

-- Samples within such depths.
sample_fits : {d v : ℕ} → LevelDepth d → v < 2 ^ d → v ≤ most_sample
sample_fits h l = let p = depth_powers h in omega arith

pub samples_fit : {a b c : ℕ} {p : Pixel} → LevelDepth a → LevelDepth b → LevelDepth c → Inside a b c p → SamplesFit p
samples_fit a b c h = record { p0_in = sample_fits a h.in0; p1_in = sample_fits b h.in1; p2_in = sample_fits c h.in2 }

-- Scales and writers of the depths served.
pub record WriterFits (most : ℕ) (t : Writer) : Type 0 where
  pub times_in : t.times ≤ most_sample
  pub plus_in : t.plus ≤ most
  pub mid_in : t.mid ≤ t.top
  pub top_in : t.top ≤ most_sample

module _ (d : ℕ) (h : LevelDepth d) where
  pub light_scale_fits : (f : Bool) → ScaleFits (light_scale f d)
  light_scale_fits true = let p = depth_powers h in omega arith
  light_scale_fits false = let p = depth_powers h in omega arith

  pub light_writer_fits : (f : Bool) → WriterFits light_added (writer_of f (light_scale f d) (M d))
  light_writer_fits true = let p = depth_powers h in omega arith
  light_writer_fits false = let p = depth_powers h in omega arith

module _ (d : ChromaDepth) (h : LevelDepth d.0) where
  pub chroma_scale_fits : (f : Bool) → ScaleFits (chroma_scale f d)
  chroma_scale_fits true = let p = depth_powers h in omega arith
  chroma_scale_fits false = let p = depth_powers h in omega arith

  pub chroma_writer_fits : (f : Bool) → WriterFits chroma_added (writer_of f (chroma_scale f d) (M d.0))
  chroma_writer_fits true = let p = depth_powers h in omega arith
  chroma_writer_fits false = let p = depth_powers h in omega arith

pub wider : {t : Writer} → WriterFits light_added t → WriterFits chroma_added t
wider h = omega arith

-- Weights in ten-thousandths.
pub shares : (kr kb : ℕ) → kr + kb < all_parts → Shares (weights kr kb)
shares kr kb h = omega arith

-- The six equations of a luma matrix.
twice_product : (a b : ℕ) → 2 * (a * b) ≤ a * a + b * b
twice_product zero b = omega arith
twice_product (suc a) zero = omega arith
twice_product (suc a) (suc b) = let h = twice_product a b in omega arith

-- 5 n² - 4 (..) is (g - (r + b))² + 4 (r - b)²
green_bound : (n r g b : ℕ) → r + g + b ≡ n → 4 * (n * g + 2 * b * (r + g) + 2 * r * (g + b)) ≤ 5 * (n * n)
green_bound n r g b e = let p = twice_product g (r + b) in let q = twice_product r b in rw (← e) (omega arith)

module _ (k : Weights) (h : Shares k) where
  pub y_fits : EquationFits (equation_y k)
  y_fits = omega arith

  pub pb_fits : EquationFits (equation_pb k)
  pb_fits = omega arith

  pub pr_fits : EquationFits (equation_pr k)
  pr_fits = omega arith

  pub r_fits : EquationFits (equation_r k)
  r_fits = omega arith

  pub b_fits : EquationFits (equation_b k)
  b_fits = omega arith

  pub g_fits : EquationFits (equation_g k)
  g_fits =
      let e = ap (λ n. n * k.kg) h.all_is in
      let f = ap (λ n. n * n) h.all_is in
      let b = green_bound k.all k.kr k.kg k.kb h.sum in
      record { some = omega arith; over_in = omega arith; total_in = omega arith }

  pub luma_fits : MatrixFits (luma_matrix k)
  unfolding luma_matrix
  luma_fits =
      record {
        forward = record { first = y_fits; second = pb_fits; third = pr_fits };
        reverse = record { first = r_fits; second = g_fits; third = b_fits };
      }

-- A line of them.
module _ (w : Equation) (r : EquationFits w) (to : Writer) where
  pub forward_fits : (s : Scale) → ScaleFits s → WriterFits chroma_added to → LineFits w (readers_of_rgb s) to
  forward_fits s h t =
      let p = mul-le-mul r.over_in h.times_in in
      let q = mul-le-mul t.plus_in p in
      record {
        spreads = omega arith;
        first_plus = h.plus_in;
        rest_plus = h.plus_in;
        mid_in = t.mid_in;
        top_in = t.top_in;
        over_some = mul-pos r.some h.some;
        added_in = omega arith;
      }

  pub reverse_fits : (y c : Scale) → ScaleFits y → ScaleFits c → WriterFits light_added to → LineFits w (readers_of_ycc y c) to
  reverse_fits y c h g t =
      let p = mul-le-mul r.over_in (mul-le-mul g.times_in h.times_in) in
      let q = mul-le-mul t.plus_in p in
      record {
        spreads = omega arith;
        first_plus = h.plus_in;
        rest_plus = g.plus_in;
        mid_in = t.mid_in;
        top_in = t.top_in;
        over_some = mul-pos r.some (mul-pos g.some h.some);
        added_in = omega arith;
      }

-- A weight u, read and written.
pub record Carried (t m u : ℕ) : Type 0 where
  pub read : m * u ≤ most_sample * u
  pub written : t * (m * u) ≤ most_sample * most_sample * u

pub carried : (t m u : ℕ) → t ≤ most_sample → m ≤ most_sample → Carried t m u
carried t m u ht hm =
    let a = mul-le-mul hm (le_refl u) in
    record { read = a; written = omega (arith, mul-le-mul ht a) }

pub record Spread (w : Equation) (from : Readers) (t : ℕ) : Type 0 where
  pub up0 : Carried t from.first.mul w.up0
  pub up1 : Carried t from.rest.mul w.up1
  pub up2 : Carried t from.rest.mul w.up2
  pub down0 : Carried t from.first.mul w.down0
  pub down1 : Carried t from.rest.mul w.down1
  pub down2 : Carried t from.rest.mul w.down2

pub spread_bounds : {w : Equation} {from : Readers} {t : ℕ} → SpreadFits w from t → Spread w from t
spread_bounds h =
    record {
      up0 = carried _ _ _ h.times_in h.first_in;
      up1 = carried _ _ _ h.times_in h.rest_in;
      up2 = carried _ _ _ h.times_in h.rest_in;
      down0 = carried _ _ _ h.times_in h.first_in;
      down1 = carried _ _ _ h.times_in h.rest_in;
      down2 = carried _ _ _ h.times_in h.rest_in;
    }

-- An equation's weights, each times a number no larger than the largest sample.
pub record Terms (w : Equation) (x y z : ℕ) : Type 0 where
  pub up0 : w.up0 * x ≤ w.up0 * most_sample
  pub up1 : w.up1 * y ≤ w.up1 * most_sample
  pub up2 : w.up2 * z ≤ w.up2 * most_sample
  pub down0 : w.down0 * x ≤ w.down0 * most_sample
  pub down1 : w.down1 * y ≤ w.down1 * most_sample
  pub down2 : w.down2 * z ≤ w.down2 * most_sample

pub terms : (w : Equation) {x y z : ℕ} → x ≤ most_sample → y ≤ most_sample → z ≤ most_sample → Terms w x y z
terms w hx hy hz =
    record {
      up0 = mul-le-mul_left _ hx;
      up1 = mul-le-mul_left _ hy;
      up2 = mul-le-mul_left _ hz;
      down0 = mul-le-mul_left _ hx;
      down1 = mul-le-mul_left _ hy;
      down2 = mul-le-mul_left _ hz;
    }

-- What a line is made of, and that it has room.
pub record LineBounds (w : Equation) (from : Readers) (to : Writer) : Type 0 where
  pub served : LineFits w from to
  pub weights : Spread w from to.times
  pub taken : Terms (spread w from to.times) from.first.plus from.rest.plus from.rest.plus

pub line_bounds : {w : Equation} {from : Readers} {to : Writer} → LineFits w from to → LineBounds w from to
line_bounds h = record { served = h; weights = spread_bounds h.spreads; taken = terms _ h.first_plus h.rest_plus h.rest_plus }

pub room : {w : Equation} {from : Readers} {to : Writer} → LineFits w from to → Room (line_of w from to)
room h =
    let b = line_bounds h in
    record {
      up_fits = omega arith;
      down_fits = omega arith;
      over_fits = h.spreads.over_in;
      over_some = h.over_some;
      mid_in = h.mid_in;
      top_in = h.top_in;
    }
