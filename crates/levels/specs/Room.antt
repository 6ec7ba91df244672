-- What the code has room for in 64 bits. Round works with twice a numerator and once a denominator.
use Rattle.std.specs.Prelude.{◌≡◌, ℕ, ◌+◌, ◌*◌, ◌≤◌, ◌<◌}
use Rattle.rounding.specs.Quotient.{Divides}
use Rattle.sample.specs.Depth.{most_level_depth, S}
use Rattle.scale.specs.Scale.{black, grey}
use Rattle.scale.specs.declared.Scale.{Scale}
use Rattle.levels.specs.Conversion.{total, most_total, most_sample}
use Rattle.levels.specs.Equations.{all_parts}
use Rattle.levels.specs.declared.equations.Equation.{Equation}
use Rattle.levels.specs.declared.lines.Line.{Line}
use Rattle.levels.specs.declared.lines.Lines.{Lines}
use Rattle.levels.specs.declared.lines.ReadyLine.{ReadyLine}
use Rattle.levels.specs.declared.lines.Readers.{Readers}
use Rattle.levels.specs.declared.lines.Writer.{Writer}

-- an equation's denominator over those of two scales
abbrev pub most_denominator : ℕ
most_denominator = all_parts * all_parts * (most_sample * most_sample)

-- what narrow range adds to a level of light and to one of chroma at most, and the former over such a denominator
abbrev pub light_added : ℕ
light_added = black * S most_level_depth

abbrev pub chroma_added : ℕ
chroma_added = grey * S most_level_depth

abbrev pub most_added : ℕ
most_added = light_added * most_denominator

-- an equation's weights, read and written, each at the largest sample
abbrev pub most_numerator : ℕ
most_numerator = most_sample * most_sample * most_sample * most_total + most_added

-- a scale of a depth that a level matrix serves
pub record ScaleFits (s : Scale) : Type 0 where
  pub some : 0 < s.times
  pub times_in : s.times ≤ most_sample
  pub plus_in : s.plus ≤ most_sample

-- an equation and samples that have room when the equation is spread
pub record SpreadFits (w : Equation) (from : Readers) (times : ℕ) : Type 0 where
  pub first_in : from.first.mul ≤ most_sample
  pub rest_in : from.rest.mul ≤ most_sample
  pub times_in : times ≤ most_sample
  pub total_in : total w ≤ most_total
  pub over_in : w.over * from.common ≤ most_denominator

-- an equation, samples and a plane that have room as a line
pub record LineFits (w : Equation) (from : Readers) (to : Writer) : Type 0 where
  pub spreads : SpreadFits w from to.times
  pub first_plus : from.first.plus ≤ most_sample
  pub rest_plus : from.rest.plus ≤ most_sample
  pub mid_in : to.mid ≤ to.top
  pub top_in : to.top ≤ most_sample
  pub over_some : 0 < w.over * from.common
  pub added_in : to.plus * (w.over * from.common) ≤ most_added

-- a line that has room at every pixel
pub record Room (l : Line) : Type 0 where
  pub up_fits : most_sample * (l.equation.up0 + l.equation.up1 + l.equation.up2) + l.up ≤ most_numerator
  pub down_fits : most_sample * (l.equation.down0 + l.equation.down1 + l.equation.down2) + l.down ≤ most_numerator
  pub over_fits : l.equation.over ≤ most_denominator
  pub over_some : 0 < l.equation.over
  pub mid_in : l.mid ≤ l.top
  pub top_in : l.top ≤ most_sample

-- with what stands for its divisor, which is twice its denominator; and three such lines
pub record LineReady (l : ReadyLine) : Type 0 where
  pub room : Room l.line
  pub divides : Divides l.by
  pub twice : l.by.over ≡ 2 * l.line.equation.over

pub record AllReady (l : Lines) : Type 0 where
  pub first : LineReady l.first
  pub second : LineReady l.second
  pub third : LineReady l.third
