-- `frame::picture::paint_rows` meets its contract: with each turn the planes are painted one row further, and one row more was seen to be within its
-- tops; in the end the rest is zeros.
use Prim.Native.Nat.{◌-◌}
use lib.ListN.{length}
use Rattle.scan.specs.First.{NotAbove}
use Rattle.planes.specs.Shown.{shown}
use Rattle.planes.specs.Sizes.{layout}
use Rattle.row_plan.specs.RowPlan.{row_planned}
use Rattle.rows.proofs.RowLaws.{Seen}
use Rattle.frame.proofs.PaintLaws.{Painting}
use Rattle.frame.proofs.picture.paint_rows.Given as goal

abbrev pub invariant-loop-j : goal.invariant-loop-j
invariant-loop-j l =
    Painting (row_planned l.plan) (shown l.a) (layout l.output_stride (length l.initial.b0) (length l.initial.b1) (length l.initial.b2)) l.b0 l.b1 l.b2 l.j l.done
    × Seen (NotAbove l.tops) (shown l.a) l.j

abbrev pub decreases-loop-j : goal.decreases-loop-j
decreases-loop-j l = l.a.height - l.j
