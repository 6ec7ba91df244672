-- `convert::each::each_sample` meets its contract: with each turn the row holds what the step gives of one pixel more.
use Rattle.std.proofs.Common.{◌≡◌, length}
use Rattle.planes.specs.Three.{held}
use Rattle.convert.proofs.RowLaws.{StoredPlane}
use Rattle.convert.proofs.each.each_sample.Given as goal

abbrev pub invariant-loop-i : goal.invariant-loop-i
invariant-loop-i g l = (l.i-end ≡ length l.a.p0.now) × StoredPlane (goal.F-post g l.step) (held l.a) l.b l.i
