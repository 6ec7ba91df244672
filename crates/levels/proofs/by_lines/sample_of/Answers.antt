-- `levels::by_lines::sample_of` meets its contract: what it adds and what it takes away are the two parts of the line at the pixel.
use mathlib.Core.Path.{◌∙◌}
use lib.IntN.{pos, ◌+ℤ◌, ◌-ℤ◌}
use Rattle.rounding.specs.Rounding.{round, clip}
use Rattle.levels.proofs.Numerators.{sample_in_parts}
use Rattle.levels.proofs.by_lines.sample_of.Goals as goal

pub returns : goal.returns
returns c =
    let l = c.args.l.line in
    c.round_clip_by.ensures
    ∙ (λ i. clip l.top (round (pos (c.weighted_sum-plus.ensures i) -ℤ pos (c.weighted_sum-minus.ensures i)) l.equation.over +ℤ pos l.mid))
    ∙ sample_in_parts l c.args.p
