-- `fixed::division::shift_for` meets its contract: e is at most what it is halved to, as often doubled again.
use Prim.Native.Nat.{◌*◌, ◌-◌, ◌^◌, ◌≤◌}
use Rattle.fixed.proofs.division.shift_for.Given as goal

abbrev pub invariant-loop-k : goal.invariant-loop-k
invariant-loop-k l = (l.k ≤ 35) × (l.e ≤ l.rest * 2 ^ l.k)

abbrev pub decreases-loop-k : goal.decreases-loop-k
decreases-loop-k l = 35 - l.k
