-- The light of a pixel, R, G and B in one weighted sum, and how far B and R are from it: Y, Cb and Cr run evenly with those three.
use Rattle.std.specs.Prelude.{◌≡◌, ℕ, ◌+◌, ◌*◌, ◌-◌, ◌^◌, ◌<◌}
use Rattle.sample.specs.Depth.{UpTo}
use Rattle.sample.specs.declared.Pixel.{Pixel}
use Rattle.levels.specs.Lines.{added, taken}
use Rattle.levels.specs.declared.lines.Line.{Line}
use Rattle.runs.specs.declared.Run.{Run}
use Rattle.runs.specs.declared.Runs.{Runs}
use Rattle.runs.specs.declared.mix.Mix.{Mix}

abbrev pub light_by : ℕ → ℕ → ℕ → Pixel → ℕ
light_by kr kg kb p = kr * p.p0 + kg * p.p1 + kb * p.p2

-- how far a colour is from it, with the largest light added
abbrev pub blue_by : ℕ → ℕ → ℕ → ℕ → Pixel → ℕ
blue_by kr kg kb bias p = (kr + kg + kb) * p.p2 + bias - light_by kr kg kb p

abbrev pub red_by : ℕ → ℕ → ℕ → ℕ → Pixel → ℕ
red_by kr kg kb bias p = (kr + kg + kb) * p.p0 + bias - light_by kr kg kb p

-- the weights have the sum that is named, and so has the largest light
pub record Weighs (k : Mix) : Type 0 where
  pub sum : k.kr + k.kg + k.kb ≡ k.all
  pub bias_is : k.bias ≡ k.all * k.most
  pub bias_in : 2 * k.bias < 2 ^ 32

-- the weights that were found, each taken `scale` times
abbrev pub mix_of : Runs → ℕ → Mix
mix_of r scale = record { kr = scale * r.kr; kg = scale * r.kg; kb = scale * r.kb; all = scale * r.all; most = r.most; bias = scale * r.bias }

-- a line's sum runs evenly with n
pub record Follows (l : Line) (most : ℕ) (n : Pixel → ℕ) (r : Run) : Type 0 where
  pub over_is : r.over ≡ l.equation.over
  pub each : (p : Pixel) → UpTo most p → added l p + r.times * r.start ≡ taken l p + (r.times * n p + r.level * r.over)
