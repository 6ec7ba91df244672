-- `judge::judged` meets its contract: the tops are those of the side that is read, so what is not above them is within depth, and the plan does the
-- conversion to that.
use mathlib.Core.Path.{◌≡◌, ap, ◌∙◌}
use Rattle.sample.specs.Depth.{tops}
use Rattle.setting.specs.Call.{input_of}
use Rattle.planes.specs.Shown.{shown}
use Rattle.rows.proofs.TopLaws.{takes_up_to}
use Rattle.judge.proofs.JudgeLaws.{judged_if}
use Rattle.judge.proofs.judged.Goals as goal
use Rattle.judge.proofs.judged.Goals.{After-tops-tops}

top_is : (c : After-tops-tops) → let x = c.args in c.tops-tops.result ≡ tops (input_of x.way) x.served.depths
top_is c =
    let x = c.args in
    c.tops-tops.ensures ∙ ap (λ side. tops side x.served.depths) c.reads.ensures

pub tell-requires : goal.tell-requires
tell-requires c =
    let plan = c.plan_rows-plan.ensures in
    record {
      row_roomy = plan.roomy;
      takes_up_to = takes_up_to c.args.way c.args.served plan _ (top_is ((goal.at.tell-requires c).After-tops-tops));
      fits = c.requires.fits;
      room = c.requires.room;
    }

pub returns : goal.returns
returns c =
    let x = c.args in
    judged_if x.way x.served c.plan_rows-plan.ensures _ (top_is ((goal.at.returns c).After-tops-tops)) (shown x.a) (shown x.b) _ c.tell.ensures
