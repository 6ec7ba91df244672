-- The scale of every kind of sample, at every depth, is one that the meter takes: so a level is rounded once, and is no NaN.
use mathlib.Core.Path.{◌≡◌}
use mathlib.Core.Bool.{Bool, true, false}
use Prim.Native.Nat.{ℕ, ◌≤◌}
use native.Mathlib.Omega.{arith}
use lib.IntN.{pos, ◌-ℤ◌}
use Rattle.sample.specs.Depth.{Depth, most_depth, M}
use Rattle.sample.specs.declared.LumaDepth.{LumaDepth}
use Rattle.sample.specs.declared.ChromaDepth.{ChromaDepth}
use Rattle.sample.proofs.DepthLaws.{powers}
use Rattle.scale.specs.Scale.{luma_scale, chroma_scale}
use Rattle.meter.specs.Level.{scale_of, level_of, nearest_to, IsNumber, Measurable}
use Rattle.meter.specs.declared.SampleKind.{SampleKind}
use Rattle.meter.specs.declared.SampleKind.TheVariants.{Y, Cb, Cr}
use Rattle.meter.proofs.Exact.{one_rounding, is_number}

luma_measurable : (full : Bool) (d : LumaDepth) → Depth d.0 → Measurable (luma_scale full d)
luma_measurable true d h = let p = powers d.0 most_depth h.least h.most in omega arith
luma_measurable false d h = let p = powers d.0 most_depth h.least h.most in omega arith

chroma_measurable : (full : Bool) (d : ChromaDepth) → Depth d.0 → Measurable (chroma_scale full d)
chroma_measurable true d h = let p = powers d.0 most_depth h.least h.most in omega arith
chroma_measurable false d h = let p = powers d.0 most_depth h.least h.most in omega arith

pub measurable : (kind : SampleKind) (full : Bool) (luma : LumaDepth) (chroma : ChromaDepth) → Depth luma.0 → Depth chroma.0
    → Measurable (scale_of kind full luma chroma)
measurable Y full luma chroma h k = luma_measurable full luma h
measurable Cb full luma chroma h k = chroma_measurable full chroma k
measurable Cr full luma chroma h k = chroma_measurable full chroma k

module _ (kind : SampleKind) (full : Bool) (luma : LumaDepth) (chroma : ChromaDepth) (h : Depth luma.0) (k : Depth chroma.0) (v : ℕ) (l : v ≤ M most_depth) where
  -- the float nearest to the level's fraction
  pub level_rounded_once : level_of kind full luma chroma v ≡ nearest_to (pos v -ℤ pos (scale_of kind full luma chroma).plus) (scale_of kind full luma chroma).times
  unfolding level_of
  level_rounded_once = one_rounding v (scale_of kind full luma chroma) l (measurable kind full luma chroma h k)

  -- what `f32::to_bits` asks of it
  pub level_is_number : IsNumber (level_of kind full luma chroma v)
  unfolding level_of
  level_is_number = is_number v (scale_of kind full luma chroma) l (measurable kind full luma chroma h k)
