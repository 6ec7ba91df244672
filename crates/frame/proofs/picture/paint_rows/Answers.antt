-- `frame::picture::paint_rows` meets its contract: with each turn the planes are painted one row further, and one row more was seen to be within its
-- tops; in the end the rest is zeros.
use mathlib.Core.Path.{sym}
use mathlib.Core.Bool.{true≢false}
use native.Mathlib.Omega.{arith}
use lib.ListN.{length}
use Rattle.scan.specs.First.{NotAbove}
use Rattle.scan.proofs.Searches.{yes, no}
use Rattle.row_plan.specs.RowPlan.{row_planned}
use Rattle.planes.specs.Shown.{shown}
use Rattle.planes.specs.Sizes.{layout}
use Rattle.rows.proofs.RowLaws.{seen_none, seen_all}
use Rattle.frame.proofs.PaintLaws.{painting_none, seen_more, Turn, output_long, row_room, row_of_every, painting_more, rest_long, painting_end}
use Rattle.frame.proofs.picture.paint_rows.Goals as goal
use Rattle.frame.proofs.picture.paint_rows.Goals.{After-row_start-to}

-- a turn, once both starts of its row are known
turn : (c : After-row_start-to)
    → let x = c.args in
    let l = c.loop-j in
    Turn (row_planned x.plan) (shown x.a)
    (layout x.output_stride (length x.b0.now) (length x.b1.now) (length x.b2.now))
    l.b0 l.b1 l.b2 l.j l.done c.row_start-from.result c.row_start-to.result
turn c =
    let fits = c.requires.fits in
    record {
      input_fits = fits;
      so_far = c.loop-j.invariant.0;
      row_inside = omega (arith, c.loop-j-test.true, fits.sized.height_within.from_least);
      starts_from = c.row_start-from.ensures;
      starts_to = c.row_start-to.ensures;
    }

pub loop-j-init : goal.loop-j-init
loop-j-init c = (painting_none c.requires.room, seen_none _ _)

pub zero_gap-requires : goal.zero_gap-requires
zero_gap-requires c = let k = output_long (turn ((goal.at.zero_gap-requires c).After-row_start-to)) in omega arith

pub paint_row-requires : goal.paint_row-requires
paint_row-requires c =
    let kept = c.zero_gap.auto in
    let room = row_room (turn ((goal.at.paint_row-requires c).After-row_start-to)) kept.p0 kept.p1 kept.p2 in
    record {
      row_roomy = c.requires.row_roomy;
      takes_up_to = c.requires.takes_up_to;
      long = room.0;
      long_2 = room.1;
    }

pub returns-then-not-paint_row : goal.returns-then-not-paint_row
returns-then-not-paint_row c = (
  no (λ h. c.paint_row.ensures.0.1 c.if-not-paint_row.true (row_of_every (turn ((goal.at.returns-then-not-paint_row c).After-row_start-to)) (NotAbove c.args.tops) h)),
  λ t. absurd (true≢false (sym t)),
)

pub loop-j-preserved : goal.loop-j-preserved
loop-j-preserved c =
    let put = c.paint_row.ensures in
    let z = c.zero_gap.ensures in
    let e = c.if-not-paint_row.false in (
      painting_more (turn ((goal.at.loop-j-preserved c).After-row_start-to)) (z.p0_after, (z.p1_after, z.p2_after)) (put.1 e),
      seen_more (turn ((goal.at.loop-j-preserved c).After-row_start-to)) (NotAbove c.args.tops) c.loop-j.invariant.1 (put.0.0 e),
    )

pub zero_rest-requires : goal.zero_rest-requires
zero_rest-requires c = let k = rest_long c.loop-j.invariant.0 in omega arith

pub returns : goal.returns
returns c =
    let z = c.zero_rest.ensures in (
      yes (seen_all c.loop-j.invariant.1 (omega (arith, c.loop-j-test.false))),
      λ t. painting_end c.loop-j.invariant.0 (omega (arith, c.loop-j-test.false)) (z.p0_after, (z.p1_after, z.p2_after)),
    )

pub overflow_add-done : goal.overflow_add-done
overflow_add-done c = omega (arith, turn ((goal.at.overflow_add-done c).After-row_start-to))

pub overflow_step-j : goal.overflow_step-j
overflow_step-j c = omega (arith, turn ((goal.at.overflow_step-j c).After-row_start-to))

pub loop-j-smaller : goal.loop-j-smaller
loop-j-smaller c = omega (arith, turn ((goal.at.loop-j-smaller c).After-row_start-to))
