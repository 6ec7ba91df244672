-- `image_check::first_sourceless` meets its contract: it walks over the picture, and passes all of it or a row over where every pixel
-- there comes back.
use Prim.Native.Nat.{◌-◌}
use Rattle.planes.specs.Shown.{shown}
use Rattle.scan.proofs.Walks.{Walked}
use Rattle.plan.specs.Plan.{planned}
use Rattle.plan.specs.Source.{comes_back}
use Rattle.image_check.specs.Image.{fails}
use Rattle.image_check.proofs.first_sourceless.Given as goal

abbrev pub invariant-loop-i : goal.invariant-loop-i
invariant-loop-i l =
    Walked (fails (comes_back (planned l.back) (planned l.forth)) (shown l.a)) l.a.width l.a.height l.found l.j l.i

abbrev pub decreases-loop-i : goal.decreases-loop-i
decreases-loop-i l = l.a.width - l.i

abbrev pub invariant-rows : goal.invariant-rows
invariant-rows l =
    Walked (fails (comes_back (planned l.back) (planned l.forth)) (shown l.a)) l.a.width l.a.height l.found l.j 0

abbrev pub decreases-rows : goal.decreases-rows
decreases-rows l = l.a.height - l.j
