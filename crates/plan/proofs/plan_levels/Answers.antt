-- `plan::plan_levels` meets its contract, way by way.
use mathlib.Core.Path.{ap}
use Rattle.plan.specs.declared.Plan.TheVariants.{Lines}
use Rattle.plan.proofs.plan_levels.Goals as goal

pub returns-in-Forward : goal.returns-in-Forward
returns-in-Forward c = rw c.in-Forward.is (ap Lines c.forward_lines.ensures)

pub returns-in-Reverse : goal.returns-in-Reverse
returns-in-Reverse c = rw c.in-Reverse.is (ap Lines c.reverse_lines.ensures)

pub forward_lines-requires : goal.forward_lines-requires
forward_lines-requires c = record {
  equations_fit = c.requires.matrix_fits.forward;
  level_depths = c.requires.level_depths;
}

pub reverse_lines-requires : goal.reverse_lines-requires
reverse_lines-requires c = record {
  equations_fit = c.requires.matrix_fits.reverse;
  level_depths = c.requires.level_depths;
}
