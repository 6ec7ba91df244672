-- A line's numerator at a pixel is what it adds less what it takes away.
use mathlib.Core.Path.{◌≡◌, ap}
use native.Mathlib.Omega.{arith}
use lib.IntN.{pos, ◌+ℤ◌, ◌-ℤ◌}
use Rattle.rounding.specs.Rounding.{round, clip}
use Rattle.rounding.proofs.Difference.{parts, parts_sub}
use Rattle.rounding.proofs.FromParts.{same}
use Rattle.sample.specs.declared.Pixel.{Pixel}
use Rattle.levels.specs.Lines.{line_at, added, taken, line_sample}
use Rattle.levels.specs.declared.lines.Line.{Line}

in_parts : (l : Line) (p : Pixel) → pos (added l p) -ℤ pos (taken l p) ≡ line_at l p
in_parts l p = same {y = line_at l p} (parts_sub (added l p) (taken l p)) (search parts depth 20) (omega arith)

-- so its sample is that of the difference
pub sample_in_parts : (l : Line) (p : Pixel)
    → clip l.top (round (pos (added l p) -ℤ pos (taken l p)) l.equation.over +ℤ pos l.mid) ≡ line_sample l p
sample_in_parts l p = ap (λ n. clip l.top (round n l.equation.over +ℤ pos l.mid)) (in_parts l p)
