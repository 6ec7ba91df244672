-- Every sample that a formula gives lies within the depth of its plane.
use mathlib.Core.Path.{subst, sym}
use Prim.Native.Nat.{◌+◌, ◌*◌, ◌/◌, ◌^◌, ◌≤◌, ◌<◌}
use native.Mathlib.Omega.{arith}
use lib.IntN.{pos}
use lib.Pow.{pow_mono}
use Rattle.rounding.specs.Rounding.{sample}
use Rattle.rounding.proofs.FromParts.{clipped}
use Rattle.sample.specs.Depth.{InsideRGB, InsideYCC}
use Rattle.sample.specs.declared.Depths.{Depths}
use Rattle.sample.specs.declared.Pixel.{Pixel}
use Rattle.ycgco.specs.YCgCo.{lossless_reverse, lossy_forward, lossy_reverse}
use Rattle.ycgco.proofs.Arithmetic.{sum_round}

module _ (d : Depths) (p : Pixel) where
  -- whatever a reverse is handed
  pub lossless_reverse_inside : InsideRGB d (lossless_reverse d p)
  unfolding lossless_reverse
  lossless_reverse_inside = record { in0 = clipped d.rgb.0 _; in1 = clipped d.rgb.0 _; in2 = clipped d.rgb.0 _ }

  pub lossy_reverse_inside : InsideRGB d (lossy_reverse d p)
  unfolding lossy_reverse
  lossy_reverse_inside = record { in0 = clipped d.rgb.0 _; in1 = clipped d.rgb.0 _; in2 = clipped d.rgb.0 _ }

  -- luma is a mean of samples, and so no larger than the largest
  mean : InsideRGB d p → d.rgb.0 ≤ d.luma.0 → sample (pos ((2 * (2 * p.p1 + p.p0 + p.p2) + 4) / 8)) < 2 ^ d.luma.0
  unfolding sample
  mean h l = let w = pow_mono {j = d.luma.0} l in omega arith

  pub lossy_inside : InsideRGB d p → d.rgb.0 ≤ d.luma.0 → InsideYCC d (lossy_forward d p)
  unfolding lossy_forward
  lossy_inside h l =
      record {
        in0 = subst (λ z. sample z < 2 ^ d.luma.0) (sym (sum_round p.p0 p.p1 p.p2)) (mean h l);
        in1 = clipped d.chroma.0 _;
        in2 = clipped d.chroma.0 _;
      }
