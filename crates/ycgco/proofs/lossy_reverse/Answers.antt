-- `ycgco::lossy_reverse` meets its contract: each sample is a clipped difference.
use mathlib.Core.Path.{◌∙◌}
use Rattle.sample.specs.Depth.{H}
use Rattle.rounding.proofs.FromParts.{clip_same}
use Rattle.ycgco.specs.YCgCo.{lossy_reverse}
use Rattle.ycgco.proofs.Arithmetic.{lossy_r, lossy_g, lossy_b}
use Rattle.ycgco.proofs.lossy_reverse.Goals as goal

pub returns : goal.returns
unfolding lossy_reverse
returns c =
    let a = c.args in
    let m = H a.d.chroma.0 in
    let h = c.middle-h.ensures in
    let top = c.largest-top.ensures in
    let r = c.clip_difference-p0.ensures ∙ clip_same top (lossy_r m a.p.p0 a.p.p1 a.p.p2) in
    let g = (rw h at c.clip_difference-p1.ensures) ∙ clip_same top (lossy_g m a.p.p0 a.p.p1 a.p.p2) in
    let b = (rw h at c.clip_difference-p2.ensures) ∙ clip_same top (lossy_b m a.p.p0 a.p.p1 a.p.p2) in
    λ i. record { p0 = r i; p1 = g i; p2 = b i }
