-- A plan for many pixels: what it does to a pixel, which pixels it takes, and that it is a plan of a conversion.
use Rattle.std.specs.Prelude.{◌≡◌, ℕ}
use Rattle.sample.specs.Depth.{InsideOf, UpTo}
use Rattle.sample.specs.declared.Depths.{Depths}
use Rattle.sample.specs.declared.Pixel.{Pixel}
use Rattle.sample.specs.declared.Side.{Side}
use Rattle.levels.specs.Conversion.{SamplesFit}
use Rattle.levels.specs.Lines.{lines_pixel}
use Rattle.levels.specs.declared.lines.Lines.{Lines}
use Rattle.fixed.specs.Words.{word_sample, WordsFit}
use Rattle.light.specs.Light.{light_pixel, LightFits}
use Rattle.quotients.specs.Quotients.{quotients_pixel, QuotientsFit}
use Rattle.plan.specs.Plan.{planned, Roomy, Takes}
use Rattle.row_plan.specs.declared.RowPlan.{RowPlan}
use Rattle.row_plan.specs.declared.RowPlan.TheVariants.{Plan, Quotients, Light, Words}
use Rattle.row_plan.specs.declared.WordPlanes.{WordPlanes}

abbrev pub words_pixel : WordPlanes → Pixel → Pixel
words_pixel w p = record { p0 = word_sample w.first p; p1 = word_sample w.second p; p2 = word_sample w.third p }

pub record AllWordsFit (w : WordPlanes) : Type 0 where
  pub first : WordsFit w.first
  pub second : WordsFit w.second
  pub third : WordsFit w.third

-- a pixel that the words of every plane are for
pub record UpToWords (w : WordPlanes) (p : Pixel) : Type 0 where
  pub first : UpTo w.first.most p
  pub second : UpTo w.second.most p
  pub third : UpTo w.third.most p

-- what it does to a pixel
abbrev pub row_planned : RowPlan → Pixel → Pixel
row_planned (Plan x) p = planned x p
row_planned (Quotients k) p = quotients_pixel k p
row_planned (Light k) p = light_pixel k p
row_planned (Words w) p = words_pixel w p

-- numbers that the code has room for
abbrev pub RowRoomy : RowPlan → Type 0
RowRoomy (Plan x) = Roomy x
RowRoomy (Quotients k) = QuotientsFit k
RowRoomy (Light k) = LightFits k
RowRoomy (Words w) = AllWordsFit w

-- a pixel that the code takes
abbrev pub RowTakes : RowPlan → Pixel → Type 0
RowTakes (Plan x) p = Takes x p
RowTakes (Quotients k) p = UpTo k.mix.most p
RowTakes (Light k) p = UpTo k.mix.most p
RowTakes (Words w) p = UpToWords w p

-- a plan of a conversion f that reads samples of one side within depth: what it does to other pixels is nobody's concern
pub record RowPlans (f : Pixel → Pixel) (side : Side) (d : Depths) (x : RowPlan) : Type 0 where
  pub roomy : RowRoomy x
  pub takes : (p : Pixel) → InsideOf side d p → RowTakes x p
  pub is : (p : Pixel) → InsideOf side d p → row_planned x p ≡ f p

-- no sample within depth is above `most`
pub record MostRead (side : Side) (d : Depths) (most : ℕ) : Type 0 where
  pub each : (p : Pixel) → InsideOf side d p → UpTo most p

-- a plan that does what three lines do, to every pixel that they take with no sample above `most`
pub record RowsOf (l : Lines) (most : ℕ) (x : RowPlan) : Type 0 where
  pub roomy : RowRoomy x
  pub takes : (p : Pixel) → SamplesFit p → UpTo most p → RowTakes x p
  pub is : (p : Pixel) → UpTo most p → row_planned x p ≡ lines_pixel l p
