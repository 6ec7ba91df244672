-- `plan::plan_of` meets its contract, formulas by formulas.
use mathlib.Core.Path.{subst}
use Rattle.setting.specs.Ready.{Agreed}
use Rattle.plan.specs.Plan.{plan_of}
use Rattle.plan.proofs.plan_of.Goals as goal

-- a level matrix of a setting that is not refused fits, and so do its depths
pub plan_levels-requires : goal.plan_levels-requires
plan_levels-requires c = let k = subst (λ f. Agreed f c.args.s) c.in-Levels.is c.requires.agreed in record {
  matrix_fits = k.0;
  level_depths = k.1;
}

pub returns-in-ChangePlaces : goal.returns-in-ChangePlaces
unfolding plan_of
returns-in-ChangePlaces c = rw c.in-ChangePlaces.is c.plan_places.ensures

pub returns-in-YCgCo : goal.returns-in-YCgCo
unfolding plan_of
returns-in-YCgCo c = rw c.in-YCgCo.is c.plan_ycgco.ensures

pub returns-in-Levels : goal.returns-in-Levels
unfolding plan_of
returns-in-Levels c = rw c.in-Levels.is c.plan_levels.ensures
