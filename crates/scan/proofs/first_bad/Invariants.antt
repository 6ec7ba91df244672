-- `scan::first_bad` meets its contract: it walks over the picture, and passes all of it or a row over where the
-- largest sample there is fine.
use Prim.Native.Nat.{◌-◌}
use Rattle.scan.specs.First.{is_above}
use Rattle.scan.proofs.Walks.{Walked}
use Rattle.scan.proofs.first_bad.Given as goal

abbrev pub invariant-loop-i : goal.invariant-loop-i
invariant-loop-i l = Walked (is_above l.p l.stride l.top) l.width l.height l.found l.j l.i

abbrev pub decreases-loop-i : goal.decreases-loop-i
decreases-loop-i l = l.width - l.i

abbrev pub invariant-rows : goal.invariant-rows
invariant-rows l = Walked (is_above l.p l.stride l.top) l.width l.height l.found l.j 0

abbrev pub decreases-rows : goal.decreases-rows
decreases-rows l = l.height - l.j
