-- `light::prepare::prepare` meets its contract: three planes with numbers have room and stand together.
use native.Mathlib.Omega.{arith}
use Rattle.light.proofs.Preparing.{bias_few, weighs_once, bias_once, stand}
use Rattle.light.proofs.prepare.prepare.Goals as goal

pub plane-requires-3 : goal.plane-requires-3
plane-requires-3 c =
    let r = c.requires.runs_found.red in
    let b = bias_few c.requires.runs_found in
    record { room = c.requires.all_ready.third.room; times_nonzero = r.times_some; level_bound = r.level_in; reach_bound = omega arith }

pub invariant_of-result : goal.invariant_of-result
invariant_of-result c =
    let f = c.requires.runs_found in
    let bias = bias_once f c.mix_of.ensures in
    record {
      weighs = weighs_once f c.mix_of.ensures;
      luma_fits = rw bias c.in_ok-luma.ensures.1;
      blue_fits = rw bias c.in_ok-blue.ensures.1;
      red_fits = rw bias c.in_ok-red.ensures.1;
    }

pub returns : goal.returns
returns c =
    stand c.requires.runs_found _ c.mix_of.ensures c.in_ok-luma.ensures.0 c.in_ok-blue.ensures.0 c.in_ok-red.ensures.0
