-- `rounding::quotient::quotient` meets its contract: what was found times the divisor, and the rest, are n at every turn.
use mathlib.Core.Path.{◌≡◌}
use Prim.Native.Nat.{◌+◌, ◌*◌}
use Rattle.rounding.proofs.quotient.quotient.Given as goal

abbrev pub invariant-loop-rest : goal.invariant-loop-rest
invariant-loop-rest l = l.found * l.by.over + l.rest ≡ l.n

abbrev pub decreases-loop-rest : goal.decreases-loop-rest
decreases-loop-rest l = l.rest
