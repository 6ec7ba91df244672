-- Three lists that lie side by side, one for each plane: what three planes hold, and the pixels and parts of it.
use Rattle.std.specs.Prelude.{List, ℕ, ◌+◌, ◌-◌, length, get_or, take, drop}
use Rattle.sample.specs.declared.Pixel.{Pixel}
use Rattle.planes.specs.Sizes.{Long}
use Rattle.planes.specs.declared.three.Planes.{Planes}

pub record Three : Type 0 where
  pub p0 : List ℕ
  pub p1 : List ℕ
  pub p2 : List ℕ

abbrev pub three : List ℕ → List ℕ → List ℕ → Three
three p0 p1 p2 = record { p0 = p0; p1 = p1; p2 = p2 }

-- what three planes hold
abbrev pub held : Planes → Three
held a = three a.p0.now a.p1.now a.p2.now

-- the pixel at index i
abbrev pub pixel_in : Three → ℕ → Pixel
pixel_in a i = record { p0 = get_or a.p0 i 0; p1 = get_or a.p1 i 0; p2 = get_or a.p2 i 0 }

-- the part of a plane, and of each of three, that has n samples from index a on
abbrev pub row_part : List ℕ → ℕ → ℕ → List ℕ
row_part p a n = take (a + n - a) (drop a p)

abbrev pub row_parts : Three → ℕ → ℕ → Three
row_parts p a n = three (row_part p.p0 a n) (row_part p.p1 a n) (row_part p.p2 a n)

-- each of the three has at least n samples
abbrev pub LongThree : ℕ → Three → Type 0
LongThree n a = Long n (length a.p0) (length a.p1) (length a.p2)
