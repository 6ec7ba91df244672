-- `rounding::common::common` meets its contract: what divides both numbers at any turn divides the two that it began with.
use Prim.Native.Nat.{ℕ, ◌<◌, ◌∣◌}
use Rattle.rounding.proofs.common.common.Given as goal

abbrev pub invariant-loop-y : goal.invariant-loop-y
invariant-loop-y l = (0 < l.x) × ((d : ℕ) → d ∣ l.x → d ∣ l.y → (d ∣ l.a) × (d ∣ l.b))

abbrev pub decreases-loop-y : goal.decreases-loop-y
decreases-loop-y l = l.y
