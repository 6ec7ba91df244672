-- `row_plan::plan_rows` meets its contract: the plan of the conversion does it, and what does the same to the same pixels does it too.
use mathlib.Core.Path.{subst}
use Rattle.setting.specs.Call.{input_of}
use Rattle.plan.specs.Conversion.{convert}
use Rattle.plan.specs.Plan.{Plans}
use Rattle.plan.proofs.PlanLaws.{plans_as}
use Rattle.row_plan.proofs.RowPlanLaws.{by_pixel, quickened}
use Rattle.row_plan.proofs.plan_rows.Goals as goal

pub returns-in_default : goal.returns-in_default
returns-in_default c =
    by_pixel (plans_as c.args.way c.args.s c.plan_of-plan.ensures c.requires)

pub quick_lines-requires : goal.quick_lines-requires
quick_lines-requires c =
    let k = plans_as c.args.way c.args.s c.plan_of-plan.ensures c.requires in
    (subst (Plans (convert c.args.way c.args.s) (input_of c.args.way) c.args.s.depths) c.in-Lines.is k).roomy

pub returns : goal.returns
returns c =
    let k = plans_as c.args.way c.args.s c.plan_of-plan.ensures c.requires in
    let lines = subst (Plans (convert c.args.way c.args.s) (input_of c.args.way) c.args.s.depths) c.in-Lines.is k in
    quickened lines c.most_read.ensures c.quick_lines.ensures
