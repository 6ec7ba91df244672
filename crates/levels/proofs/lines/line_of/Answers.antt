-- `levels::lines::line_of` meets its contract: the spread weights, times what the scales take away, have room.
use native.Mathlib.Omega.{arith}
use Rattle.levels.proofs.Bounds.{line_bounds}
use Rattle.levels.proofs.lines.line_of.Goals as goal

pub weighted_sum-up-requires : goal.weighted_sum-up-requires
weighted_sum-up-requires c = rw c.spread-equation.ensures (let k = line_bounds c.requires in omega arith)

pub weighted_sum-down-requires : goal.weighted_sum-down-requires
weighted_sum-down-requires c = rw c.spread-equation.ensures (let k = line_bounds c.requires in omega arith)
