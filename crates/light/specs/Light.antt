-- The samples of a pixel from its light, and when numbers stand for the lines of a luma matrix.
use Rattle.std.specs.Prelude.{ℕ, ◌*◌}
use Rattle.sample.specs.declared.Pixel.{Pixel}
use Rattle.levels.specs.declared.lines.Line.{Line}
use Rattle.levels.specs.declared.lines.Lines.{Lines}
use Rattle.runs.specs.Light.{light_by, blue_by, red_by, Weighs, Follows}
use Rattle.runs.specs.declared.Run.{Run}
use Rattle.light.specs.Scaled.{scaled_sample, Fits, Scales}
use Rattle.light.specs.declared.scaled.Light.{Light}
use Rattle.light.specs.declared.scaled.Scaled.{Scaled}

-- what the three planes' numbers make of a pixel
abbrev pub light_pixel : Light → Pixel → Pixel
light_pixel k p =
    record {
      p0 = scaled_sample k.luma (light_by k.mix.kr k.mix.kg k.mix.kb p);
      p1 = scaled_sample k.blue (blue_by k.mix.kr k.mix.kg k.mix.kb k.mix.bias p);
      p2 = scaled_sample k.red (red_by k.mix.kr k.mix.kg k.mix.kb k.mix.bias p);
    }

-- they have room
pub record LightFits (k : Light) : Type 0 where
  pub weighs : Weighs k.mix
  pub luma : Fits k.luma k.mix.bias
  pub blue : Fits k.blue (2 * k.mix.bias)
  pub red : Fits k.red (2 * k.mix.bias)

-- one plane: its line runs with n, and its numbers stand for that
pub record Plane (l : Line) (most : ℕ) (n : Pixel → ℕ) (reach : ℕ) (s : Scaled) : Type 0 where
  pub run : Run
  pub follows : Follows l most n run
  pub scales : Scales run l.mid l.top reach s

-- the three planes of a pixel
pub record Stands (l : Lines) (k : Light) : Type 0 where
  pub fits : LightFits k
  pub luma : Plane l.first.line k.mix.most (light_by k.mix.kr k.mix.kg k.mix.kb) k.mix.bias k.luma
  pub blue : Plane l.second.line k.mix.most (blue_by k.mix.kr k.mix.kg k.mix.kb k.mix.bias) (2 * k.mix.bias) k.blue
  pub red : Plane l.third.line k.mix.most (red_by k.mix.kr k.mix.kg k.mix.kb k.mix.bias) (2 * k.mix.bias) k.red
