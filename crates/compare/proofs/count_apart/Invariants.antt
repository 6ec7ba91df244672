-- `compare::count_apart` meets its contract: as many are counted as differ so far.
use Rattle.std.proofs.Common.{◌≡◌, length}
use Rattle.planes.specs.Three.{held}
use Rattle.compare.specs.Count.{count_of}
use Rattle.compare.specs.Compare.{rows_differ}
use Rattle.compare.proofs.count_apart.Given as goal

abbrev pub invariant-loop-i : goal.invariant-loop-i
invariant-loop-i l = (l.i-end ≡ length l.c.p0.now) × (l.wrong ≡ count_of l.i (rows_differ (held l.c) (held l.b)))
