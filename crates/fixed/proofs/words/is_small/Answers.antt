-- `fixed::words::is_small` meets its contract: none is larger than the largest, and quotients keep that order.
use Prim.Native.Nat.{◌/◌, ◌<◌}
use native.Mathlib.Omega.{arith}
use borrow.Author.Tests.{ltb-true}
use Rattle.sample.specs.Depth.{past_samples}
use Rattle.rounding.proofs.Lifted.{div_mono}
use Rattle.fixed.proofs.words.is_small.Goals as goal

pub returns : goal.returns
returns c = λ small.
    let r = c.args.r in
    let most = c.max-largest.result in
    let l : most / r.e < past_samples = ltb-true (most / r.e) past_samples small in
    let m0 = div_mono {m = r.first.a} {n = most} r.e c.requires (omega arith) in
    let m1 = div_mono {m = r.second.a} {n = most} r.e c.requires (omega arith) in
    let m2 = div_mono {m = r.third.a} {n = most} r.e c.requires (omega arith) in
    let m = div_mono {m = c.args.c} {n = most} r.e c.requires (omega arith) in
    record { first = omega arith; second = omega arith; third = omega arith; constant = omega arith }
