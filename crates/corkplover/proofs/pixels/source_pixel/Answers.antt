-- `corkplover::pixels::source_pixel` meets its contract: a call that was let in has all that the test asks.
use Rattle.std.specs.Prelude.{Ok}
use Rattle.refusal.proofs.Passed.{passed_on}
use mathlib.Core.Path.{sym, ap, ◌∙◌}
use Rattle.sample.specs.declared.Side.TheVariants.{Ycc}
use Rattle.setting.specs.declared.Call.TheVariants.{ImageCheck}
use Rattle.plan.proofs.PlanLaws.{plans_as}
use Rattle.plan.proofs.SourceLaws.{takes_back, takes_forth, comes_back_as}
use Rattle.admit.proofs.Accepted.{PixelAdmitted, pixel_admitted}
use Rattle.corkplover.specs.Answers.{source_by, source_answer}
use Rattle.corkplover.proofs.pixels.source_pixel.Goals as goal
use Rattle.corkplover.proofs.pixels.source_pixel.Goals.{In_ok-served}

known : (c : In_ok-served) → let a = c.args in PixelAdmitted Ycc a.p c.in_ok-served.served
known c = let a = c.args in pixel_admitted ImageCheck a.s a.p _ (sym c.admit_pixel.ensures ∙ c.in_ok-served.was)

pub comes_back-requires : goal.comes_back-requires
comes_back-requires c =
    let h = known ((goal.at.comes_back-requires c).In_ok-served) in
    let k = plans_as _ _ c.plan_of-back.ensures h.is_ready in
    let l = plans_as _ _ c.plan_of-forth.ensures h.is_ready in
    record {
      roomy = k.roomy;
      roomy_2 = l.roomy;
      takes = takes_back _ k l _ h.inside;
      takes_2 = takes_forth _ k l _ h.is_ready h.inside;
    }

pub returns-in_err-served : goal.returns-in_err-served
unfolding source_answer
returns-in_err-served c =
    rw (passed_on _ c.from_residual.ensures.1, ← c.admit_pixel.ensures, c.in_err-served.was)

pub returns : goal.returns
unfolding source_answer
returns c =
    let r = (known ((goal.at.returns c).In_ok-served)).is_ready in
    ap Ok (c.comes_back.ensures ∙ comes_back_as _ (plans_as _ _ c.plan_of-back.ensures r) (plans_as _ _ c.plan_of-forth.ensures r) _)
    ∙ ap (source_by c.args.p) (sym c.in_ok-served.was ∙ c.admit_pixel.ensures)

pub plan_of-back-requires : goal.plan_of-back-requires
plan_of-back-requires c = (known ((goal.at.plan_of-back-requires c).In_ok-served)).is_ready

pub plan_of-forth-requires : goal.plan_of-forth-requires
plan_of-forth-requires c = (known ((goal.at.plan_of-forth-requires c).In_ok-served)).is_ready
