-- `ycgco::lossless_forward` meets its contract: H is above every sample, so each difference is taken from something larger.
use native.Mathlib.Omega.{arith}
use Rattle.sample.specs.Depth.{H}
use Rattle.ycgco.specs.YCgCo.{lossless_forward}
use Rattle.ycgco.proofs.Arithmetic.{made_of, lossless_y, lossless_cb, lossless_cr}
use Rattle.ycgco.proofs.Middle.{wide}
use Rattle.ycgco.proofs.lossless_forward.Goals as goal

pub returns : goal.returns
unfolding lossless_forward
returns c =
    let a = c.args in
    let h = H a.d.chroma.0 in
    let w = wide c.requires.lossless_depths in
    rw c.middle-h.ensures
    (made_of (lossless_y h a.p.p0 a.p.p1 a.p.p2 (omega arith)) (lossless_cb h a.p.p0 a.p.p1 a.p.p2 (omega arith) (omega arith))
    (lossless_cr h a.p.p0 a.p.p1 a.p.p2 (omega arith) (omega arith)))

pub overflow_sub-cr : goal.overflow_sub-cr
overflow_sub-cr c = omega (arith, wide c.requires.lossless_depths)

pub overflow_sub-cb : goal.overflow_sub-cb
overflow_sub-cb c = omega (arith, wide c.requires.lossless_depths)
