-- Depths: their two ends, and the upper end for a level matrix. No other definition has these three numbers.
use Rattle.std.specs.Prelude.{Bool, ◌&&◌, cond, Option, Some, None, ℕ, zero, suc, ◌-◌, ◌^◌, ◌≤◌, ◌<◌, leb}
use Rattle.sample.specs.declared.RgbDepth.{RgbDepth}
use Rattle.sample.specs.declared.LumaDepth.{LumaDepth}
use Rattle.sample.specs.declared.ChromaDepth.{ChromaDepth}
use Rattle.sample.specs.declared.Depths.{Depths}
use Rattle.sample.specs.declared.Pixel.{Pixel}
use Rattle.sample.specs.declared.Side.{Side}
use Rattle.sample.specs.declared.Side.TheVariants as side

abbrev pub least_depth : ℕ
least_depth = 8

abbrev pub most_depth : ℕ
most_depth = 16

abbrev pub most_level_depth : ℕ
most_level_depth = 12

-- whether n is a depth
unfoldable pub is_depth : ℕ → Bool
is_depth n = leb least_depth n && leb n most_depth

-- n is a depth
pub record Depth (n : ℕ) : Type 0 where
  pub least : least_depth ≤ n
  pub most : n ≤ most_depth

-- a number as a depth of each kind
abbrev pub rgb_depth : ℕ → RgbDepth
rgb_depth n = record { 0 = n }

abbrev pub luma_depth : ℕ → LumaDepth
luma_depth n = record { 0 = n }

abbrev pub chroma_depth : ℕ → ChromaDepth
chroma_depth n = record { 0 = n }

abbrev pub depths_of : ℕ → ℕ → ℕ → Depths
depths_of r y c = record { rgb = rgb_depth r; luma = luma_depth y; chroma = chroma_depth c }

-- the answers of the checks
unfoldable pub rgb_checked : ℕ → Option RgbDepth
rgb_checked n = cond (is_depth n) (Some (rgb_depth n)) None

unfoldable pub luma_checked : ℕ → Option LumaDepth
luma_checked n = cond (is_depth n) (Some (luma_depth n)) None

unfoldable pub chroma_checked : ℕ → Option ChromaDepth
chroma_checked n = cond (is_depth n) (Some (chroma_depth n)) None

-- whether all three are depths
unfoldable pub are_depths : ℕ → ℕ → ℕ → Bool
are_depths r y c = is_depth r && (is_depth y && is_depth c)

-- and that they are
pub record ThreeDepths (d : Depths) : Type 0 where
  pub rgb : Depth d.rgb.0
  pub luma : Depth d.luma.0
  pub chroma : Depth d.chroma.0

unfoldable pub depths_checked : ℕ → ℕ → ℕ → Option Depths
depths_checked r y c = cond (are_depths r y c) (Some (depths_of r y c)) None

-- whether no depth is above n
unfoldable pub at_most : ℕ → Depths → Bool
at_most n d = leb d.rgb.0 n && (leb d.luma.0 n && leb d.chroma.0 n)

-- M, the largest sample of a depth
abbrev pub M : ℕ → ℕ
M depth = 2 ^ depth - 1

-- the first number past the samples of every depth: 65,536
abbrev pub past_samples : ℕ
past_samples = 2 ^ most_depth

-- H, the middle of a plane of a chroma depth
abbrev pub H : ℕ → ℕ
H depth = 2 ^ (depth - 1)

abbrev pub middle_of : ChromaDepth → ℕ
middle_of d = H d.0

-- S, the step of narrow range: 2^s, where s is the depth less 8. H.273's 8, whatever the least depth of the box is.
abbrev pub S : ℕ → ℕ
S depth = 2 ^ (depth - 8)

-- a pixel whose samples lie within the depths of their planes
pub record Inside (d0 d1 d2 : ℕ) (p : Pixel) : Type 0 where
  pub in0 : p.p0 < 2 ^ d0
  pub in1 : p.p1 < 2 ^ d1
  pub in2 : p.p2 < 2 ^ d2

abbrev pub InsideRGB : Depths → Pixel → Type 0
InsideRGB d p = Inside d.rgb.0 d.rgb.0 d.rgb.0 p

abbrev pub InsideYCC : Depths → Pixel → Type 0
InsideYCC d p = Inside d.luma.0 d.chroma.0 d.chroma.0 p

-- the depth of plane k of a side of a setting
abbrev pub plane_depth : Side → Depths → ℕ → ℕ
plane_depth side.Rgb d k = d.rgb.0
plane_depth side.Ycc d zero = d.luma.0
plane_depth side.Ycc d (suc k) = d.chroma.0

-- a pixel of a side, within the depths of its planes
abbrev pub InsideOf : Side → Depths → Pixel → Type 0
InsideOf side d p = Inside (plane_depth side d 0) (plane_depth side d 1) (plane_depth side d 2) p

-- a pixel with no sample above `most`
pub record UpTo (most : ℕ) (p : Pixel) : Type 0 where
  pub p0_in : p.p0 ≤ most
  pub p1_in : p.p1 ≤ most
  pub p2_in : p.p2 ≤ most

-- the largest sample of each plane of a side
abbrev pub tops : Side → Depths → Pixel
tops side d = record { p0 = M (plane_depth side d 0); p1 = M (plane_depth side d 1); p2 = M (plane_depth side d 2) }
