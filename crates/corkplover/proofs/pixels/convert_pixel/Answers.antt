-- `corkplover::pixels::convert_pixel` meets its contract: a call that was let in has all that its plan asks.
use Rattle.std.specs.Prelude.{Ok}
use Rattle.refusal.proofs.Passed.{passed_on}
use mathlib.Core.Path.{sym, ap, ◌∙◌}
use Rattle.setting.specs.declared.Call.TheVariants.{Convert}
use Rattle.setting.specs.Call.{reads}
use Rattle.plan.proofs.PlanLaws.{plans_as}
use Rattle.admit.proofs.Accepted.{PixelAdmitted, pixel_admitted}
use Rattle.corkplover.specs.Answers.{converted_by, pixel_answer}
use Rattle.corkplover.proofs.pixels.convert_pixel.Goals as goal
use Rattle.corkplover.proofs.pixels.convert_pixel.Goals.{In_ok-served}

known : (c : In_ok-served) → let a = c.args in PixelAdmitted (reads (Convert a.way)) a.p c.in_ok-served.served
known c = let a = c.args in pixel_admitted (Convert a.way) a.s a.p _ (sym c.admit_pixel.ensures ∙ c.in_ok-served.was)

pub pixel-requires : goal.pixel-requires
pixel-requires c =
    let h = known ((goal.at.pixel-requires c).In_ok-served) in
    let k = plans_as _ _ c.plan_of-plan.ensures h.is_ready in
    record { roomy = k.roomy; takes = k.takes _ h.inside }

pub returns-in_err-served : goal.returns-in_err-served
unfolding pixel_answer
returns-in_err-served c =
    let a = c.args in
    rw (passed_on _ c.from_residual.ensures.1) (ap (converted_by a.way a.p) (sym c.in_err-served.was ∙ c.admit_pixel.ensures))

pub returns : goal.returns
unfolding pixel_answer
returns c =
    let a = c.args in
    ap Ok (c.pixel.ensures ∙ (plans_as _ _ c.plan_of-plan.ensures (known ((goal.at.returns c).In_ok-served)).is_ready).is a.p)
    ∙ ap (converted_by a.way a.p) (sym c.in_ok-served.was ∙ c.admit_pixel.ensures)

pub plan_of-plan-requires : goal.plan_of-plan-requires
plan_of-plan-requires c = (known ((goal.at.plan_of-plan-requires c).In_ok-served)).is_ready
