-- Quotients that stand for the lines of a luma matrix: they give the same pixels.
use Rattle.std.specs.Prelude.{◌≡◌, ℕ, ◌≤◌}
use Rattle.sample.specs.Depth.{UpTo}
use Rattle.sample.specs.declared.Pixel.{Pixel}
use Rattle.levels.specs.Conversion.{most_sample}
use Rattle.levels.specs.Lines.{lines_pixel}
use Rattle.levels.specs.declared.lines.Lines.{Lines}
use Rattle.quotients.specs.Quotients.{quotients_pixel, QuotientsFit}
use Rattle.quotients.specs.declared.factors.Quotients.{Quotients}

-- three planes with one largest sample, of which the first has no middle
pub record OneTop (l : Lines) (top : ℕ) : Type 0 where
  pub mid_none : l.first.line.mid ≡ 0
  pub first : l.first.line.top ≡ top
  pub second : l.second.line.top ≡ top
  pub third : l.third.line.top ≡ top
  pub top_in : top ≤ most_sample

pub record Stands (l : Lines) (k : Quotients) : Type 0 where
  pub fits : QuotientsFit k
  pub is : (p : Pixel) → UpTo k.mix.most p → quotients_pixel k p ≡ lines_pixel l p
