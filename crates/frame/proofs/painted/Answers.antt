-- `frame::painted` meets its contract: the tops are those of the side that is read, so what is not above them is within depth, and the plan does the
-- conversion to that.
use mathlib.Core.Path.{◌≡◌, ap, ◌∙◌}
use lib.ListN.{length}
use Rattle.sample.specs.Depth.{tops}
use Rattle.setting.specs.Call.{input_of}
use Rattle.planes.specs.Shown.{shown}
use Rattle.planes.specs.Sizes.{layout}
use Rattle.rows.proofs.TopLaws.{takes_up_to}
use Rattle.frame.proofs.FrameLaws.{converted_if}
use Rattle.frame.proofs.painted.Goals as goal
use Rattle.frame.proofs.painted.Goals.{After-tops-tops}

top_is : (c : After-tops-tops) → let x = c.args in c.tops-tops.result ≡ tops (input_of x.way) x.served.depths
top_is c =
    let x = c.args in
    c.tops-tops.ensures ∙ ap (λ side. tops side x.served.depths) c.reads.ensures

pub paint-requires : goal.paint-requires
paint-requires c =
    let plan = c.plan_rows-plan.ensures in
    record {
      row_roomy = plan.roomy;
      takes_up_to = takes_up_to c.args.way c.args.served plan _ (top_is ((goal.at.paint-requires c).After-tops-tops));
      fits = c.requires.fits;
      room = c.requires.room;
    }

pub returns : goal.returns
returns c =
    let x = c.args in
    converted_if x.way x.served c.plan_rows-plan.ensures _ (top_is ((goal.at.returns c).After-tops-tops)) (shown x.a)
    (layout x.output_stride (length x.b0.now) (length x.b1.now) (length x.b2.now)) _ c.paint.ensures
