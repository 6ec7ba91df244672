-- `fixed::division::bits` meets its contract: with each turn the quotient has one bit more.
use Prim.Native.Nat.{◌^◌, ◌-◌, ◌≤◌}
use Rattle.fixed.specs.Steps.{Parts}
use Rattle.fixed.proofs.division.bits.Given as goal

abbrev pub invariant-loop-i : goal.invariant-loop-i
invariant-loop-i l = (l.i ≤ l.n) × Parts l.initial.at l.e (2 ^ l.i) l.at

abbrev pub decreases-loop-i : goal.decreases-loop-i
decreases-loop-i l = l.n - l.i
