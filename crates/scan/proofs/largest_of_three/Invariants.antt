-- `scan::largest_of_three` meets its contract: of each list the largest of the elements passed so far is at hand.
use mathlib.Core.Path.{◌≡◌}
use Prim.Native.Nat.{◌≤◌, ◌-◌}
use lib.ListN.{length}
use Rattle.scan.specs.First.{largest_of}
use Rattle.scan.proofs.largest_of_three.Given as goal

abbrev pub invariant-loop-i : goal.invariant-loop-i
invariant-loop-i l =
    (l.i ≤ l.i-end) × ((l.i-end ≡ length l.a.p0.now) × ((l.m0 ≡ largest_of l.i l.a.p0.now) × ((l.m1 ≡ largest_of l.i l.a.p1.now) × (l.m2 ≡ largest_of l.i l.a.p2.now))))

abbrev pub decreases-loop-i : goal.decreases-loop-i
decreases-loop-i l = l.i-end - l.i
