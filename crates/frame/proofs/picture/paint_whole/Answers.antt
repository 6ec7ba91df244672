-- `frame::picture::paint_whole` meets its contract: the picture is one run on either side, and once it is painted the rest is zeros.
use mathlib.Core.Path.{refl, sym, ap, ◌∙◌}
use mathlib.Core.Bool.{true≢false}
use native.Mathlib.Omega.{arith}
use lib.ListN.{length}
use Rattle.scan.specs.First.{NotAbove}
use Rattle.planes.specs.Shown.{shown}
use Rattle.planes.specs.Sizes.{layout, needed}
use Rattle.scan.proofs.Searches.{yes, no}
use Rattle.row_plan.specs.RowPlan.{row_planned}
use Rattle.frame.proofs.PaintLaws.{Whole, whole_room, whole_of_every, every_of_whole, painting_whole, rest_long, painting_end}
use Rattle.frame.proofs.picture.paint_whole.Goals as goal
use Rattle.frame.proofs.picture.paint_whole.Goals.{After-needed-n}

-- the picture that is read, and the layout of what is written
whole : (c : After-needed-n)
    → let x = c.args in
    Whole (shown x.a) (layout x.output_stride (length x.b0.now) (length x.b1.now) (length x.b2.now)) c.needed-n.result
whole c =
    record {
      input_fits = c.requires.fits;
      output_fits = c.requires.room;
      input_close = c.requires.a_close;
      output_close = c.requires.b_close;
      long_as = c.needed-n.ensures ∙ ap (needed c.args.a.width c.args.a.height) c.requires.a_close;
    }

pub paint_row-requires : goal.paint_row-requires
paint_row-requires c =
    let r = whole_room (whole ((goal.at.paint_row-requires c).After-needed-n)) in
    record {
      row_roomy = c.requires.row_roomy;
      takes_up_to = c.requires.takes_up_to;
      long = r.0;
      long_2 = r.1;
    }

pub returns-then-not-paint_row : goal.returns-then-not-paint_row
returns-then-not-paint_row c = (
  no (λ h. c.paint_row.ensures.0.1 c.if-not-paint_row.true (whole_of_every (whole ((goal.at.returns-then-not-paint_row c).After-needed-n)) (NotAbove c.args.tops) h)),
  λ t. absurd (true≢false (sym t)),
)

pub zero_rest-requires : goal.zero_rest-requires
zero_rest-requires c =
    let put = c.paint_row.ensures.1 c.if-not-paint_row.false in
    rest_long (painting_whole (whole ((goal.at.zero_rest-requires c).After-needed-n)) {f = row_planned c.args.plan} c.args.b0.now c.args.b1.now c.args.b2.now refl refl refl put)

pub returns : goal.returns
returns c =
    let w = whole ((goal.at.returns c).After-needed-n) in
    let put = c.paint_row.ensures in
    let e = c.if-not-paint_row.false in
    let z = c.zero_rest.ensures in (
      yes (every_of_whole w (NotAbove c.args.tops) (put.0.0 e)),
      λ t. painting_end (painting_whole w {f = row_planned c.args.plan} c.args.b0.now c.args.b1.now c.args.b2.now refl refl refl (put.1 e)) (omega arith)
          (z.p0_after, (z.p1_after, z.p2_after)),
    )
