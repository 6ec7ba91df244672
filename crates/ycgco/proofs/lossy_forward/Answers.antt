-- `ycgco::lossy_forward` meets its contract: luma is a sum rounded up from a half on, and chroma is Round of a difference, clipped.
use mathlib.Core.Path.{refl, ◌∙◌}
use lib.IntN.{pos, ◌+ℤ◌, ◌-ℤ◌}
use Rattle.rounding.specs.Rounding.{round}
use Rattle.rounding.proofs.FromParts.{clip_same}
use Rattle.ycgco.specs.YCgCo.{lossy_forward}
use Rattle.ycgco.proofs.Arithmetic.{lossy_y_lem, lossy_cb_lem}
use Rattle.ycgco.proofs.lossy_forward.Goals as goal

pub returns : goal.returns
unfolding lossy_forward
returns c =
    let a = c.args in
    let h = c.middle-h.ensures in
    let top = c.largest-top.ensures in
    let y = lossy_y_lem a.p.p0 a.p.p1 a.p.p2 refl in
    let cb = c.round_clip-p1.ensures ∙ clip_same top (λ i. round (lossy_cb_lem a.p.p0 a.p.p1 a.p.p2 i) 4 +ℤ pos (h i)) in
    let cr = c.round_clip-p2.ensures ∙ clip_same top (λ i. round (pos a.p.p0 -ℤ pos a.p.p2) 2 +ℤ pos (h i)) in
    λ i. record { p0 = y i; p1 = cb i; p2 = cr i }
