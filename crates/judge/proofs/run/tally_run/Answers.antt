-- `judge::run::tally_run` meets its contract: with each part the run is told further.
use mathlib.Core.Path.{sym, ◌∙◌}
use Prim.Native.Nat.{◌+◌, ◌≤◌}
use native.Mathlib.Omega.{arith}
use Rattle.std.proofs.Common.{Some, None}
use Rattle.row_plan.specs.RowPlan.{row_planned}
use Rattle.planes.specs.Three.{held}
use Rattle.compare.proofs.CountLaws.{count_most}
use Rattle.judge.specs.Judge.{run_wrong}
use Rattle.judge.proofs.RunLaws.{running_none, running_more, running_all, part_of_fine}
use Rattle.judge.proofs.run.tally_run.Goals as goal
use Rattle.judge.proofs.run.tally_run.Goals.{After-min-m, in-Some, in_default}

pub loop-done-init : goal.loop-done-init
loop-done-init c = (running_none, (c.room-c0.ensures, (c.room-c1.ensures, c.room-c2.ensures)))

-- a part is at most what is left
part_fits : (c : After-min-m) → c.loop-done.done + c.min-m.result ≤ c.args.n
part_fits c = omega (arith, c.min-m.ensures, c.loop-done.invariant.0.until)

pub returns-in_err-part : goal.returns-in_err-part
returns-in_err-part c =
    let x = c.args in
    let fits = part_fits ((goal.at.returns-in_err-part c).After-min-m) in
    rw c.from_residual.ensures (λ h. c.in_err-part.ensures (part_of_fine x.tops x.from c.loop-done.done c.min-m.result x.n (held x.a) fits h))

pub overflow_add-wrong : goal.overflow_add-wrong
overflow_add-wrong c =
    let l = c.loop-done in
    let x = c.args in
    let test = run_wrong (row_planned x.plan) in
    omega (
      arith,
      c.in_ok-part.ensures.1.counted,
      l.invariant.0.counted,
      c.min-m.ensures,
      l.invariant.0.until,
      c.requires.n_le_most_run,
      count_most c.min-m.result (test (x.from + l.done) (x.to + l.done) (held x.a) (held x.b)),
      count_most l.done (test x.from x.to (held x.a) (held x.b)),
    )

pub loop-done-preserved : goal.loop-done-preserved
loop-done-preserved c =
    let l = c.loop-done in
    let kept = c.tally_part.auto in
    let wide = l.invariant.1 in
    let t = c.in_ok-part.ensures in
    let fits = part_fits ((goal.at.loop-done-preserved c).After-min-m) in (
      elim c.match-part.branch [
        | in-Some w ↦ rw w.first-is (running_more {part = c.in_ok-part.part} (Some w.in-Some.i) (sym w.in-Some.is) c.is_none-sought.ensures l.invariant.0 fits t.0 t.1)
        | in_default w ↦ rw w.first-is (running_more {part = c.in_ok-part.part} None (sym w.in_default.is) c.is_none-sought.ensures l.invariant.0 fits t.0 t.1)
      ],
      (kept.c0 ∙ wide.0, (kept.c1 ∙ wide.1.0, kept.c2 ∙ wide.1.1)),
    )

pub returns : goal.returns
returns c = running_all c.loop-done.invariant.0 (omega (arith, c.loop-done.invariant.0.until))
