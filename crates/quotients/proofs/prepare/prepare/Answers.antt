-- `quotients::prepare::prepare` meets its contract: each factor that was found is exact, and together they have room and stand for the lines.
use native.Mathlib.Omega.{arith}
use Rattle.quotients.proofs.Standing.{testable, made, any_stands}
use Rattle.quotients.proofs.prepare.prepare.Goals as goal

pub share_of-requires : goal.share_of-requires
share_of-requires c =
    let f = c.requires.runs_found in
    testable f c.args.r.kb f.blue f.blue_start (let e = f.sum in omega arith) c.requires.all_ready.second.room

pub share_of-requires-2 : goal.share_of-requires-2
share_of-requires-2 c =
    let f = c.requires.runs_found in
    testable f c.args.r.kr f.red f.red_start (let e = f.sum in omega arith) c.requires.all_ready.third.room

pub invariant_of-result : goal.invariant_of-result
invariant_of-result c =
    let k = made c.requires.runs_found c.in_ok-top.ensures c.in_ok-luma.ensures.luma_exact c.in_ok-blue.ensures c.in_ok-red.ensures _ c.mix_of.ensures in
    record { weighs = k.weighs; bias_in = k.bias_in; top_in = k.top_in; blue_there = k.blue_there; red_there = k.red_there }

pub returns : goal.returns
returns c =
    any_stands c.requires.runs_found _ c.mix_of.ensures c.in_ok-top.ensures c.in_ok-luma.ensures.luma_exact c.in_ok-blue.ensures c.in_ok-red.ensures
