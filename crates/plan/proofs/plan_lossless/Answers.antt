-- `plan::plan_lossless` meets its contract, way by way.
use Rattle.plan.proofs.plan_lossless.Goals as goal

pub returns-in-Forward : goal.returns-in-Forward
returns-in-Forward c = rw c.in-Forward.is

pub returns-in-Reverse : goal.returns-in-Reverse
returns-in-Reverse c = rw c.in-Reverse.is
