-- `convert::each::each_pixel` meets its contract: with each turn the rows hold what the step gives of one pixel more.
use Rattle.std.proofs.Common.{◌≡◌, length}
use Rattle.planes.specs.Three.{three, held}
use Rattle.convert.proofs.RowLaws.{Stored}
use Rattle.convert.proofs.each.each_pixel.Given as goal

abbrev pub invariant-loop-i : goal.invariant-loop-i
invariant-loop-i g l = (l.i-end ≡ length l.a.p0.now) × Stored (goal.F-post g l.step) (held l.a) (three l.b0 l.b1 l.b2) l.i
