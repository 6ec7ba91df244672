-- A row of pixels, as three rows of samples, and the row that a conversion makes of it.
use Rattle.std.specs.Prelude.{◌≡◌, Bool, true, List, ℕ, ◌<◌, length, get_or}
use Rattle.sample.specs.declared.Pixel.{Pixel}
use Rattle.tables.specs.Table.{tab}
use Rattle.planes.specs.Picture.{sample_of}
use Rattle.planes.specs.Three.{Three, pixel_in}
use Rattle.plan.specs.Source.{comes_back}

-- sample k of the pixel at index i, converted by f
abbrev pub converted : ℕ → (Pixel → Pixel) → Three → ℕ → ℕ
converted k f a i = sample_of k (f (pixel_in a i))

-- the row of samples that g makes of a row, and row k of the three that f makes of it
abbrev pub row_by : (Pixel → ℕ) → Three → List ℕ
row_by g a = tab (length a.p0) (λ (i : ℕ). g (pixel_in a i))

abbrev pub row_of : ℕ → (Pixel → Pixel) → Three → List ℕ
row_of k f a = row_by (λ (p : Pixel). sample_of k (f p)) a

-- the three rows that f makes of a row
abbrev pub ConvertedRows : (Pixel → Pixel) → Three → Three → Type 0
ConvertedRows f a b = (b.p0 ≡ row_of 0 f a) × ((b.p1 ≡ row_of 1 f a) × (b.p2 ≡ row_of 2 f a))

-- a fact of every pixel of a row
abbrev pub EveryOf : (Pixel → Type 0) → Three → Type 0
EveryOf fact a = (i : ℕ) → i < length a.p0 → fact (pixel_in a i)

-- a yes that every pixel of a row comes back, by a conversion back and one forth; a no says nothing
abbrev pub KnownBack : Bool → (Pixel → Pixel) → (Pixel → Pixel) → Three → Type 0
KnownBack answer back forth a = answer ≡ true → EveryOf (λ (p : Pixel). comes_back back forth p ≡ true) a

-- three rows to read and three to write, all of one length
pub record OneWidth (a b : Three) : Type 0 where
  pub a1_long : length a.p1 ≡ length a.p0
  pub a2_long : length a.p2 ≡ length a.p0
  pub b0_long : length b.p0 ≡ length a.p0
  pub b1_long : length b.p1 ≡ length a.p0
  pub b2_long : length b.p2 ≡ length a.p0

-- a row that holds what a step gives of each pixel of three, and three such rows
pub record SteppedRow (gives : Pixel → ℕ → Type 0) (a : Three) (b : List ℕ) : Type 0 where
  pub b_long : length b ≡ length a.p0
  pub each : (i : ℕ) → i < length a.p0 → gives (pixel_in a i) (get_or b i 0)

pub record SteppedRows (gives : Pixel → Pixel → Type 0) (a b : Three) : Type 0 where
  pub one_width : OneWidth a b
  pub each : (i : ℕ) → i < length a.p0 → gives (pixel_in a i) (pixel_in b i)
