-- What is found of a luma matrix's lines.
use Rattle.std.specs.Prelude.{◌≡◌, ℕ, ◌+◌, ◌*◌, ◌^◌, ◌≤◌, ◌<◌}
use Rattle.sample.specs.declared.Pixel.{Pixel}
use Rattle.levels.specs.Conversion.{most_sample}
use Rattle.levels.specs.declared.equations.Equation.{Equation}
use Rattle.levels.specs.declared.lines.Line.{Line}
use Rattle.levels.specs.declared.lines.Lines.{Lines}
use Rattle.runs.specs.Light.{light_by, blue_by, red_by, Follows}
use Rattle.runs.specs.declared.Run.{Run}
use Rattle.runs.specs.declared.Runs.{Runs}
use Rattle.runs.specs.declared.line.Colour.{Colour}
use Rattle.runs.specs.declared.weights.Weights.{Weights}

-- an equation whose weights have room in a sum, those that add and those that take away
pub record SumsFit (w : Equation) : Type 0 where
  pub up_in : w.up0 + w.up1 + w.up2 < 2 ^ 62
  pub down_in : w.down0 + w.down1 + w.down2 < 2 ^ 62

-- an equation that only adds, by weights that sum to `all`
pub record Weighed (w : Equation) (k : Weights) : Type 0 where
  pub up0_is : w.up0 ≡ k.times * k.kr
  pub up1_is : w.up1 ≡ k.times * k.kg
  pub up2_is : w.up2 ≡ k.times * k.kb
  pub downs_none : w.down0 + w.down1 + w.down2 ≡ 0
  pub sum : k.kr + k.kg + k.kb ≡ k.all
  pub kr_some : 0 < k.kr
  pub all_in : k.all ≤ 65535

-- its line runs with the light: from where it takes away, to the level that it adds
pub record LumaRun (l : Line) (times : ℕ) (r : Run) : Type 0 where
  pub times_is : r.times ≡ times
  pub over_is : r.over ≡ l.equation.over
  pub start_is : l.down ≡ r.times * r.start
  pub level_is : l.up ≡ r.level * l.equation.over

-- the weights of a line by colour: Cb adds blue and takes away red and green, and Cr adds red and takes away green and blue
abbrev pub blue_in : Equation → Colour
blue_in w = record { own = w.up2; first = w.down0; second = w.down1; others = w.up0 + w.up1 + w.down2 }

abbrev pub red_in : Equation → Colour
red_in w = record { own = w.up0; first = w.down1; second = w.down2; others = w.up1 + w.up2 + w.down0 }

-- a line of one colour runs with how far that is from the light: two weights are taken away, and their sum is added
pub record ColourRun (c : Colour) (a b start : ℕ) (l : Line) (r : Run) : Type 0 where
  pub over_is : r.over ≡ l.equation.over
  pub own_is : c.own ≡ r.times * (a + b)
  pub first_is : c.first ≡ r.times * a
  pub second_is : c.second ≡ r.times * b
  pub others_none : c.others ≡ 0
  pub level_is : l.up ≡ l.down + r.level * l.equation.over
  pub start_is : r.start ≡ start

-- one plane: its line runs with n, and its numbers have room
pub record PlaneRuns (l : Line) (most : ℕ) (n : Pixel → ℕ) (r : Run) : Type 0 where
  pub follows : Follows l most n r
  pub times_some : 0 < r.times
  pub level_in : r.level < 2 ^ 63

-- weights that have room when they are taken `scale` times
pub record Mixes (r : Runs) (scale : ℕ) : Type 0 where
  pub sum : r.kr + r.kg + r.kb ≡ r.all
  pub bias_is : r.bias ≡ r.all * r.most
  pub all_in : scale * r.all ≤ 65535
  pub most_in : r.most ≤ most_sample

-- the three planes of a luma matrix
pub record RunsFound (l : Lines) (r : Runs) : Type 0 where
  pub sum : r.kr + r.kg + r.kb ≡ r.all
  pub all_some : 0 < r.all
  pub all_in : r.all ≤ 65535
  pub bias_is : r.bias ≡ r.all * r.most
  pub most_in : r.most ≤ most_sample
  pub luma : PlaneRuns l.first.line r.most (light_by r.kr r.kg r.kb) r.luma
  pub blue : PlaneRuns l.second.line r.most (blue_by r.kr r.kg r.kb r.bias) r.blue
  pub red : PlaneRuns l.third.line r.most (red_by r.kr r.kg r.kb r.bias) r.red
  pub blue_start : r.blue.start ≡ r.bias
  pub red_start : r.red.start ≡ r.bias
