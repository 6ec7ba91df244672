-- `plan::plan_ycgco` meets its contract, by its two cases.
use borrow.Author.Tests.{lt-ltb, le-ltb}
use Rattle.plan.proofs.plan_ycgco.Goals as goal

pub returns-then-d : goal.returns-then-d
returns-then-d c = rw (lt-ltb _ _ c.if-d.true) c.plan_lossless.ensures

pub returns : goal.returns
returns c = rw (le-ltb _ _ c.if-d.false) c.plan_lossy.ensures
