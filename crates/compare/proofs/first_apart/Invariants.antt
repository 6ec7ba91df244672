-- `compare::first_apart` meets its contract: none before index i differs.
use Rattle.std.proofs.Common.{◌≡◌, length}
use Rattle.planes.specs.Three.{held}
use Rattle.compare.specs.Count.{FirstAt}
use Rattle.compare.specs.Compare.{rows_differ}
use Rattle.compare.proofs.first_apart.Given as goal

abbrev pub invariant-loop-i : goal.invariant-loop-i
invariant-loop-i l = (l.i-end ≡ length l.c.p0.now) × FirstAt (rows_differ (held l.c) (held l.b)) l.i l.i
