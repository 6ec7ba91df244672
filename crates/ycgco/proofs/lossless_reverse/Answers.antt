-- `ycgco::lossless_reverse` meets its contract: each sample is clipped once, and red is made of the clipped blue. No RGB sample is as large
-- as H, so what is clipped has room.
use mathlib.Core.Path.{ap, ◌∙◌}
use native.Mathlib.Omega.{arith}
use lib.IntN.{pos, ◌+ℤ◌, ◌-ℤ◌}
use Rattle.sample.specs.Depth.{H}
use Rattle.rounding.proofs.FromParts.{clip_same}
use Rattle.ycgco.specs.YCgCo.{lossless_reverse}
use Rattle.ycgco.proofs.Arithmetic.{made_of, lossless_g, lossless_b, lossless_r}
use Rattle.ycgco.proofs.Middle.{wide}
use Rattle.ycgco.proofs.lossless_reverse.Goals as goal

pub clip_moved-p0-requires : goal.clip_moved-p0-requires
clip_moved-p0-requires c = let w = wide c.requires in omega arith

pub returns : goal.returns
unfolding lossless_reverse
returns c =
    let a = c.args in
    let m = H a.d.chroma.0 in
    let even = (wide c.requires).even in
    let h = c.middle-h.ensures in
    let top = c.largest-top.ensures in
    let g = (rw h at c.clip_moved-p1.ensures) ∙ clip_same top (lossless_g m a.p.p0 a.p.p1 a.p.p2 even) in
    let b = (rw h at c.clip_moved-p2.ensures) ∙ clip_same top (lossless_b m a.p.p0 a.p.p1 a.p.p2 even) in
    let r = (rw h at c.clip_moved-p0.ensures) ∙ clip_same top (lossless_r m a.p.p0 a.p.p1 a.p.p2 _ ∙ ap (λ n. pos n +ℤ (pos a.p.p2 -ℤ pos m)) b) in
    made_of r g b
