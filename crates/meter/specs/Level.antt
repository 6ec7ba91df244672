-- A level: a sample's numerator over its denominator, both as floats, divided once.
use Rattle.std.specs.Prelude.{Bool, true, false, not, ℕ, suc, ◌≤◌, ◌<◌, T, ℤ, pos, negsuc, ◌-ℤ◌, Float}
use Rattle.std.specs.Float.{binary32}
use Rattle.std.specs.Float.Ieee.{round, of_int, div, is_nan}
use Rattle.std.specs.Float.Ieee.Exact.{HasValue}
use Rattle.sample.specs.Depth.{most_depth, M}
use Rattle.sample.specs.declared.LumaDepth.{LumaDepth}
use Rattle.sample.specs.declared.ChromaDepth.{ChromaDepth}
use Rattle.sample.specs.declared.Pixel.{Pixel}
use Rattle.scale.specs.Scale.{luma_scale, chroma_scale}
use Rattle.scale.specs.declared.Scale.{Scale}
use Rattle.meter.specs.declared.PixelLevels.{PixelLevels}
use Rattle.meter.specs.declared.SampleKind.{SampleKind}
use Rattle.meter.specs.declared.SampleKind.TheVariants.{Y, Cb, Cr}

-- (v - plus) / times, each made a float and then divided once
abbrev pub float_quotient : ℕ → Scale → Float
float_quotient v s = div binary32 (of_int binary32 (pos v -ℤ pos s.plus)) (of_int binary32 (pos s.times))

-- the plane of a kind of sample
abbrev pub plane_number : SampleKind → ℕ
plane_number Y = 0
plane_number Cb = 1
plane_number Cr = 2

-- the scale of a kind of sample
abbrev pub scale_of : SampleKind → Bool → LumaDepth → ChromaDepth → Scale
scale_of Y full luma chroma = luma_scale full luma
scale_of Cb full luma chroma = chroma_scale full chroma
scale_of Cr full luma chroma = chroma_scale full chroma

-- the level of a sample of a kind
unfoldable pub level_of : SampleKind → Bool → LumaDepth → ChromaDepth → ℕ → Float
level_of kind full luma chroma v = float_quotient v (scale_of kind full luma chroma)

-- the levels of a pixel, by plane
unfoldable pub levels_of : Bool → LumaDepth → ChromaDepth → Pixel → PixelLevels
levels_of full luma chroma p =
    record {
      y = level_of Y full luma chroma p.p0;
      cb = level_of Cb full luma chroma p.p1;
      cr = level_of Cr full luma chroma p.p2;
    }

-- a float that is exactly the whole number z
abbrev pub IsExactly : Float → ℤ → Type 0
IsExactly x (pos n) = HasValue x false n 1
IsExactly x (negsuc n) = HasValue x true (suc n) 1

-- the float nearest to the fraction z / n: the one rounding of a level
abbrev pub nearest_to : ℤ → ℕ → Float
nearest_to (pos m) n = round binary32 false m n
nearest_to (negsuc m) n = round binary32 true (suc m) n

-- a float that is a number, and so has bits of its own; three levels that are
abbrev pub IsNumber : Float → Type 0
IsNumber x = T (not (is_nan x))

abbrev pub AreNumbers : PixelLevels → Type 0
AreNumbers l = IsNumber l.y × (IsNumber l.cb × IsNumber l.cr)

-- a scale of any depth
pub record Measurable (s : Scale) : Type 0 where
  pub some : 0 < s.times
  pub times_in : s.times ≤ M most_depth
  pub plus_in : s.plus ≤ M most_depth
