-- `judge::picture::tell_rows` meets its contract: with each turn one row more is told.
use native.Mathlib.Omega.{arith}
use Rattle.row_plan.specs.RowPlan.{row_planned}
use Rattle.planes.specs.Shown.{shown}
use Rattle.judge.proofs.PictureLaws.{rows_none, row_told, rows_most}
use Rattle.judge.proofs.picture.tell_rows.Goals as goal
use Rattle.judge.proofs.picture.tell_rows.Goals.{In_ok-row}

pub loop-j-init : goal.loop-j-init
loop-j-init c = rows_none

pub overflow_add-wrong : goal.overflow_add-wrong
overflow_add-wrong c =
    let x = c.args in
    let sized = c.requires.fits.sized in
    let told = row_told x.tops (row_planned x.plan) (shown x.a) (shown x.b) c.loop-j.j
    c.row_start-from.ensures.is c.row_start-to.ensures.is c.in_ok-row.ensures c.loop-j.invariant (omega arith) in
    omega (arith, rows_most told sized.width_within.to_most sized.height_within.to_most)

pub loop-j-preserved : goal.loop-j-preserved
loop-j-preserved c =
    let x = c.args in
    rw c.or_row-first.ensures
    (row_told x.tops (row_planned x.plan) (shown x.a) (shown x.b) c.loop-j.j
    c.row_start-from.ensures.is c.row_start-to.ensures.is c.in_ok-row.ensures c.loop-j.invariant (omega arith))
