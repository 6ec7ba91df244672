-- The middle H of the chroma planes, where the depths are those of the lossless formulas: chroma has a bit more than RGB, and so two at least.
use mathlib.Core.Path.{◌≡◌}
use Prim.Native.Nat.{◌-◌, ◌*◌, ◌/◌, ◌^◌, ◌≤◌}
use native.Mathlib.Omega.{arith}
use lib.Pow.{pow_mono}
use Rattle.sample.specs.Depth.{most_depth, H}
use Rattle.sample.specs.declared.Depths.{Depths}
use Rattle.sample.proofs.DepthLaws.{doubles}
use Rattle.ycgco.specs.YCgCo.{LosslessDepths}

-- above every RGB sample, at most the middle of the deepest plane, and even
pub record WideMiddle (d : Depths) : Type 0 where
  pub above : 2 ^ d.rgb.0 ≤ H d.chroma.0
  pub most : H d.chroma.0 ≤ H most_depth
  pub even : H d.chroma.0 ≡ H d.chroma.0 / 2 * 2

pub wide : {d : Depths} → LosslessDepths d → WideMiddle d
wide {d} k =
    record {
      above = pow_mono {j = d.chroma.0 - 1} (omega (arith, k.chroma_room));
      most = pow_mono {j = most_depth - 1} (omega (arith, k.chroma_most));
      even = omega (arith, doubles (d.chroma.0 - 1) (omega (arith, k.rgb_some, k.chroma_room)));
    }
