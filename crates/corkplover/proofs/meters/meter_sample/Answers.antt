-- `corkplover::meters::meter_sample` meets its contract: a setting that was let in has depths.
use Rattle.std.specs.Prelude.{Ok}
use Rattle.refusal.proofs.Passed.{passed_on}
use mathlib.Core.Path.{sym, ap, ◌∙◌}
use Rattle.admit.proofs.Accepted.{one_ready}
use Rattle.corkplover.specs.Answers.{reading}
use Rattle.corkplover.proofs.meters.meter_sample.Goals as goal

pub level_of-requires : goal.level_of-requires
level_of-requires c =
    let a = c.args in
    let k = one_ready a.kind a.s a.v _ (sym c.admit_sample.ensures ∙ c.in_ok-served.was) in
    record { depth = k.three.luma; depth_2 = k.three.chroma }

pub returns-in_err-served : goal.returns-in_err-served
unfolding reading
returns-in_err-served c =
    rw (passed_on _ c.from_residual.ensures.1, ← c.admit_sample.ensures, c.in_err-served.was)

pub returns : goal.returns
unfolding reading
returns c = rw (← c.admit_sample.ensures, c.in_ok-served.was) (ap Ok c.level_of.ensures)
