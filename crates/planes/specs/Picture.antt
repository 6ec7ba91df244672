-- A picture: three planes of one stride, with a width and a height.
use Rattle.std.specs.Prelude.{List, [], ◌∷◌, ℕ, ◌<◌, length, get_or}
use Rattle.sample.specs.declared.Pixel.{Pixel}
use Rattle.planes.specs.Plane.{sample_at}
use Rattle.planes.specs.Three.{Three, three}
use Rattle.planes.specs.Sizes.{layout, Fits}
use Rattle.planes.specs.declared.size.Layout.{Layout}

pub record Picture : Type 0 where
  pub width : ℕ
  pub height : ℕ
  pub stride : ℕ
  pub p0 : List ℕ
  pub p1 : List ℕ
  pub p2 : List ℕ

abbrev pub picture : ℕ → ℕ → ℕ → List ℕ → List ℕ → List ℕ → Picture
picture width height stride p0 p1 p2 =
    record { width = width; height = height; stride = stride; p0 = p0; p1 = p1; p2 = p2 }

-- what its planes hold
abbrev pub rows_of : Picture → Three
rows_of a = three a.p0 a.p1 a.p2

-- its planes, in their order
abbrev pub planes : Picture → List (List ℕ)
planes a = a.p0 ∷ a.p1 ∷ a.p2 ∷ []

-- plane k of a picture, and the sample of a pixel that plane k holds
abbrev pub plane_at : ℕ → Picture → List ℕ
plane_at k a = get_or (planes a) k []

abbrev pub sample_of : ℕ → Pixel → ℕ
sample_of k p = get_or (p.p0 ∷ p.p1 ∷ p.p2 ∷ []) k 0

-- its stride, and how many elements its planes have
abbrev pub layout_of : Picture → Layout
layout_of a = layout a.stride (length a.p0) (length a.p1) (length a.p2)

-- planes of layout b have room for it: no rule on sizes refuses its width and height with them
abbrev pub RoomFor : Picture → Layout → Type 0
RoomFor a b = Fits a.width a.height b

-- its own planes have
abbrev pub PictureFits : Picture → Type 0
PictureFits a = RoomFor a (layout_of a)

-- its pixel at row j and column i
abbrev pub pixel_of : Picture → ℕ → ℕ → Pixel
pixel_of a j i =
    record { p0 = sample_at a.p0 a.stride j i; p1 = sample_at a.p1 a.stride j i; p2 = sample_at a.p2 a.stride j i }

-- a fact of every pixel of a picture
abbrev pub EveryPixel : (Pixel → Type 0) → Picture → Type 0
EveryPixel fact a = (j i : ℕ) → j < a.height → i < a.width → fact (pixel_of a j i)
