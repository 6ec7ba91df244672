-- `judge::run::tally_run` meets its contract: with each part the run is told further.
use mathlib.Core.Path.{◌≡◌}
use mathlib.Core.List.{List}
use Prim.Native.Nat.{ℕ, ◌-◌}
use lib.ListN.{length}
use Rattle.planes.specs.Three.{held}
use Rattle.row_plan.specs.RowPlan.{row_planned}
use Rattle.compare.specs.Compare.{most_part}
use Rattle.judge.proofs.RunLaws.{Running}
use Rattle.judge.proofs.run.tally_run.Given as goal

-- three rows with room for a part
abbrev pub Wide : List ℕ → List ℕ → List ℕ → Type 0
Wide c0 c1 c2 = (length c0 ≡ most_part) × ((length c1 ≡ most_part) × (length c2 ≡ most_part))

abbrev pub invariant-loop-done : goal.invariant-loop-done
invariant-loop-done l =
    Running l.tops (row_planned l.plan) l.from l.to l.n (held l.a) (held l.b) l.first l.wrong l.done × Wide l.c0 l.c1 l.c2

abbrev pub decreases-loop-done : goal.decreases-loop-done
decreases-loop-done l = l.n - l.done
