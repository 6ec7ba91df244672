-- `corkplover::meters::meter_pixel` meets its contract: a setting that was let in has depths.
use Rattle.std.specs.Prelude.{Ok}
use Rattle.refusal.proofs.Passed.{passed_on}
use mathlib.Core.Path.{sym, ap, ◌∙◌}
use Rattle.setting.specs.declared.Call.TheVariants.{Meter}
use Rattle.admit.proofs.Accepted.{pixel_admitted}
use Rattle.corkplover.specs.Answers.{levels_answer}
use Rattle.corkplover.proofs.meters.meter_pixel.Goals as goal

pub levels_of-requires : goal.levels_of-requires
levels_of-requires c =
    let a = c.args in
    let k = (pixel_admitted Meter a.s a.p _ (sym c.admit_pixel.ensures ∙ c.in_ok-served.was)).is_ready in
    record { depth = k.three.luma; depth_2 = k.three.chroma }

pub returns-in_err-served : goal.returns-in_err-served
unfolding levels_answer
returns-in_err-served c =
    rw (passed_on _ c.from_residual.ensures.1, ← c.admit_pixel.ensures, c.in_err-served.was)

pub returns : goal.returns
unfolding levels_answer
returns c = rw (← c.admit_pixel.ensures, c.in_ok-served.was) (ap Ok c.levels_of.ensures)
