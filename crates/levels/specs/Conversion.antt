-- A pixel by a level matrix: the levels of its samples, an equation for each plane, one Round and one Clip at the end.
use Rattle.std.specs.Prelude.{◌≡◌, ℕ, ◌+◌, ◌*◌, ◌/◌, ◌≤◌, ◌<◌}
use Rattle.fraction.specs.Fraction.{Frac}
use Rattle.sample.specs.Depth.{least_depth, most_level_depth, M, UpTo}
use Rattle.sample.specs.declared.Pixel.{Pixel}
use Rattle.scale.specs.Scale.{rgb_scale, luma_scale, chroma_scale, level, written_rgb, written_luma, written_chroma}
use Rattle.scale.specs.declared.Scale.{Scale}
use Rattle.levels.specs.Equations.{level_by, all_parts}
use Rattle.levels.specs.Paper.{EY, EPB, EPR, ER, EG, EB}
use Rattle.levels.specs.declared.LevelSetting.{LevelSetting}
use Rattle.levels.specs.declared.equations.Equation.{Equation}
use Rattle.levels.specs.declared.equations.Equations.{Equations}
use Rattle.levels.specs.declared.equations.LevelMatrix.{LevelMatrix}
use Rattle.levels.specs.declared.equations.Weights.{Weights}

-- a formula that gives one level by three
abbrev pub Formula : Type 0
Formula = Frac → Frac → Frac → Frac

-- the scale of each kind of sample
abbrev pub rgb_of : LevelSetting → Scale
rgb_of s = rgb_scale s.rgb_full s.depths.rgb

abbrev pub luma_of : LevelSetting → Scale
luma_of s = luma_scale s.ycc_full s.depths.luma

abbrev pub chroma_of : LevelSetting → Scale
chroma_of s = chroma_scale s.ycc_full s.depths.chroma

-- a formula of the levels of R, G, B, and one of the levels of Y, Cb, Cr
abbrev pub of_rgb : LevelSetting → Formula → Pixel → Frac
of_rgb s f p = f (level (rgb_of s) p.p0) (level (rgb_of s) p.p1) (level (rgb_of s) p.p2)

abbrev pub of_ycc : LevelSetting → Formula → Pixel → Frac
of_ycc s f p = f (level (luma_of s) p.p0) (level (chroma_of s) p.p1) (level (chroma_of s) p.p2)

-- R, G, B to Y, Cb, Cr by three formulas
abbrev pub to_ycc : LevelSetting → Formula → Formula → Formula → Pixel → Pixel
to_ycc s f g h p =
    record {
      p0 = written_luma s.ycc_full s.depths.luma (of_rgb s f p);
      p1 = written_chroma s.ycc_full s.depths.chroma (of_rgb s g p);
      p2 = written_chroma s.ycc_full s.depths.chroma (of_rgb s h p);
    }

-- Y, Cb, Cr to R, G, B by three formulas
abbrev pub to_rgb : LevelSetting → Formula → Formula → Formula → Pixel → Pixel
to_rgb s f g h p =
    record {
      p0 = written_rgb s.rgb_full s.depths.rgb (of_ycc s f p);
      p1 = written_rgb s.rgb_full s.depths.rgb (of_ycc s g p);
      p2 = written_rgb s.rgb_full s.depths.rgb (of_ycc s h p);
    }

-- by the equations of a matrix
unfoldable pub levels_forward : LevelMatrix → LevelSetting → Pixel → Pixel
levels_forward m s p =
    to_ycc s (level_by m.forward.first) (level_by m.forward.second) (level_by m.forward.third) p

unfoldable pub levels_reverse : LevelMatrix → LevelSetting → Pixel → Pixel
levels_reverse m s p =
    to_rgb s (level_by m.reverse.first) (level_by m.reverse.second) (level_by m.reverse.third) p

-- by a luma matrix as printed: (42), (43), (44)
unfoldable pub luma_forward : Weights → LevelSetting → Pixel → Pixel
luma_forward k s p = to_ycc s (EY k) (EPB k) (EPR k) p

-- and (42), (43), (44) solved
unfoldable pub luma_reverse : Weights → LevelSetting → Pixel → Pixel
luma_reverse k s p = to_rgb s (ER k) (EG k) (EB k) p

-- weights that make up the whole, with some green among them
pub record Shares (k : Weights) : Type 0 where
  pub sum : k.kr + k.kg + k.kb ≡ k.all
  pub all_is : k.all ≡ all_parts
  pub green : 0 < k.kg

-- all that an equation adds and takes away, and the most that the code has room for: 5/4 of the square of the whole
abbrev pub total : Equation → ℕ
total w = w.up0 + w.up1 + w.up2 + w.down0 + w.down1 + w.down2

abbrev pub most_total : ℕ
most_total = 5 * (all_parts * all_parts) / 4

-- an equation that the code has room for, and a matrix of such
pub record EquationFits (w : Equation) : Type 0 where
  pub some : 0 < w.over
  pub over_in : w.over ≤ all_parts * all_parts
  pub total_in : total w ≤ most_total

pub record EquationsFit (e : Equations) : Type 0 where
  pub first : EquationFits e.first
  pub second : EquationFits e.second
  pub third : EquationFits e.third

pub record MatrixFits (m : LevelMatrix) : Type 0 where
  pub forward : EquationsFit m.forward
  pub reverse : EquationsFit m.reverse

-- a depth that a level matrix serves
pub record LevelDepth (d : ℕ) : Type 0 where
  pub least : least_depth ≤ d
  pub most : d ≤ most_level_depth

-- depths that the code serves
pub record LevelDepths (s : LevelSetting) : Type 0 where
  pub rgb : LevelDepth s.depths.rgb.0
  pub luma : LevelDepth s.depths.luma.0
  pub chroma : LevelDepth s.depths.chroma.0

-- the largest sample of such a depth, and a pixel with none above it
abbrev pub most_sample : ℕ
most_sample = M most_level_depth

abbrev pub SamplesFit : Pixel → Type 0
SamplesFit p = UpTo most_sample p
