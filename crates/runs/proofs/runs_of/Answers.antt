-- `runs::runs_of` meets its contract: lines that have room leave room for their weights, and each plane whose run was found runs with its number.
use mathlib.Core.Path.{◌≡◌, refl, sym, ap}
use Prim.Native.Nat.{◌+◌, ◌*◌, ◌<◌}
use native.Mathlib.Omega.{arith}
use Rattle.runs.specs.Found.{blue_in, red_in, ColourRun}
use Rattle.runs.proofs.Finding.{luma_runs, blue_runs, red_runs}
use Rattle.runs.proofs.runs_of.Goals as goal

pub returns : goal.returns
returns c =
    let w = c.in_ok-k.k in
    let some = c.in_ok-k.ensures.times_nonzero in
    let k = c.in_ok-k.ensures.weighed in
    let most = c.args.most in
    let l = c.args.lines in
    let ready = c.requires.all_ready in
    let bias : w.all * most ≡ (w.kr + w.kg + w.kb) * most = ap (λ n. n * most) (sym k.sum) in
    let luma = c.in_ok-luma.ensures in
    let luma_some : 0 < c.in_ok-luma.luma.times = let same = luma.times_is in omega arith in
    let blue : ColourRun (blue_in l.second.line.equation) w.kr w.kg (w.all * most) l.second.line c.in_ok-blue.blue =
    rw (← c.blue_of.ensures) c.in_ok-blue.ensures.runs in
    let red : ColourRun (red_in l.third.line.equation) w.kg w.kb (w.all * most) l.third.line c.in_ok-red.red =
    rw (← c.red_of.ensures) c.in_ok-red.ensures.runs in (
      record {
        sum = k.sum;
        all_some = let some = k.kr_some in let sum = k.sum in omega arith;
        all_in = k.all_in;
        bias_is = refl;
        most_in = c.requires.most_le_most_sample;
        luma = luma_runs ready.first.room luma_some most k luma;
        blue = blue_runs ready.second.room c.in_ok-blue.ensures.times_nonzero most _ _ _ _ bias blue;
        red = red_runs ready.third.room c.in_ok-red.ensures.times_nonzero most _ _ _ _ bias red;
        blue_start = blue.start_is;
        red_start = red.start_is;
      },
      refl,
    )
