-- `judge::picture::tell_rows` meets its contract: with each turn one row more is told.
use Prim.Native.Nat.{◌-◌}
use Rattle.planes.specs.Shown.{shown}
use Rattle.row_plan.specs.RowPlan.{row_planned}
use Rattle.judge.proofs.PictureLaws.{Rows}
use Rattle.judge.proofs.picture.tell_rows.Given as goal

abbrev pub invariant-loop-j : goal.invariant-loop-j
invariant-loop-j l =
    Rows l.tops (row_planned l.plan) (shown l.a) (shown l.b) l.first l.wrong l.j

abbrev pub decreases-loop-j : goal.decreases-loop-j
decreases-loop-j l = l.a.height - l.j
