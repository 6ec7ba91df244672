-- Two rows of pixels, held against each other: at which indices they differ, how often, and where first.
use Rattle.std.specs.Prelude.{◌≡◌, Bool, true, false, not, None, ℕ}
use Rattle.sample.specs.declared.Pixel.{Pixel}
use Rattle.planes.specs.Three.{Three, pixel_in}
use Rattle.plan.specs.Source.{same_pixel}
use Rattle.compare.specs.Count.{count_of, FirstFound}
use Rattle.compare.specs.declared.Tally.{Tally}

-- whether two pixels differ, in one sample or in more
abbrev pub differ : Pixel → Pixel → Bool
differ p q = not (same_pixel p q)

-- whether two rows differ at index i
abbrev pub rows_differ : Three → Three → ℕ → Bool
rows_differ c b i = differ (pixel_in c i) (pixel_in b i)

-- how many pixels are compared at once, at most
abbrev pub most_part : ℕ
most_part = 512

-- n pixels by a test of them: all that are wrong are counted, and the first is named, if there is one, where it was sought
pub record Compared (r : Tally) (sought : Bool) (n : ℕ) (test : ℕ → Bool) : Type 0 where
  pub counted : r.wrong ≡ count_of n test
  pub unsought : sought ≡ false → r.first ≡ None
  pub found : sought ≡ true → FirstFound test n r.first
