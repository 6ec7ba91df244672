-- Rule 10 of the refusals: the first bad sample of a picture. Planes are searched in their order, each row by row, a row from its first
-- column on.
use Rattle.std.specs.Prelude.{◌≡◌, Bool, true, false, cond, List, ◌⊎◌, ℕ, zero, suc, ◌+◌, ◌≤◌, ◌<◌, max, ltb, get_or, Option, Some, None}
use Rattle.refusal.specs.Rules.{Rule, rule, at, bad_at}
use Rattle.refusal.specs.declared.Place.{Place}
use Rattle.sample.specs.declared.Pixel.{Pixel}
use Rattle.planes.specs.Plane.{sample_at}
use Rattle.planes.specs.Three.{Three}
use Rattle.planes.specs.Picture.{Picture, plane_at, sample_of}

-- a, unless it is None, and then b
unfoldable pub or_found : Option Place → Option Place → Option Place
or_found (Some place) b = Some place
or_found None b = b

-- the first of f 0, .., f (n - 1) that is not None
unfoldable pub first_of : ℕ → (ℕ → Option Place) → Option Place
first_of zero f = None
first_of (suc n) f = or_found (first_of n f) (f n)

-- the place of row j and column i of a plane, if a test holds there
unfoldable pub place_if : (ℕ → ℕ → Bool) → ℕ → ℕ → ℕ → Option Place
place_if test plane j i = cond (test j i) (Some (at plane j i)) None

-- the first such place of row j
unfoldable pub place_in_row : (ℕ → ℕ → Bool) → ℕ → ℕ → ℕ → Option Place
place_in_row test plane width j = first_of width (place_if test plane j)

-- the first such place of a picture, by row and then by column
unfoldable pub first_place : (ℕ → ℕ → Bool) → ℕ → ℕ → ℕ → Option Place
first_place test plane width height = first_of height (place_in_row test plane width)

-- whether the sample at row j and column i is above top, the largest that its depth has
abbrev pub is_above : List ℕ → ℕ → ℕ → ℕ → ℕ → Bool
is_above p stride top j i = ltb top (sample_at p stride j i)

-- the first bad sample of a plane
abbrev pub first_bad : List ℕ → ℕ → ℕ → ℕ → ℕ → ℕ → Option Place
first_bad p plane width height stride top = first_place (is_above p stride top) plane width height

-- that of plane k of a picture, where tops has the largest sample of each plane
abbrev pub bad_in_plane : Picture → Pixel → ℕ → Option Place
bad_in_plane a tops k = first_bad (plane_at k a) k a.width a.height a.stride (sample_of k tops)

-- the first bad sample of a picture
unfoldable pub bad_sample : Picture → Pixel → Option Place
bad_sample a tops = first_of 3 (bad_in_plane a tops)

-- the sample of a picture that stands at a place
abbrev pub sample_on : Picture → Place → ℕ
sample_on a place = sample_at (plane_at place.plane a) a.stride place.row place.column

-- what a search has found, with the sample that stands there
abbrev pub with_sample : (Place → ℕ) → Option Place → Option (Place × ℕ)
with_sample sample (Some place) = Some (place, sample place)
with_sample sample None = None

-- the first bad sample of a picture, and the number that stands there
abbrev pub bad_found : Picture → Pixel → Option (Place × ℕ)
bad_found a tops = with_sample (sample_on a) (bad_sample a tops)

-- rule 10, by what the search for a bad sample has found
abbrev pub bad_rule : Option (Place × ℕ) → Rule
bad_rule (Some bad) = record { refusal = bad_at bad.0 bad.1; applies = true }
bad_rule None = rule 10 false

-- the largest of the first n elements, or 0 of none
unfoldable pub largest_of : ℕ → List ℕ → ℕ
largest_of zero s = 0
largest_of (suc n) s = max (largest_of n s) (get_or s n 0)

-- that of each of three lists
abbrev pub largest_pixel : ℕ → Three → Pixel
largest_pixel n a = record { p0 = largest_of n a.p0; p1 = largest_of n a.p1; p2 = largest_of n a.p2 }

-- every sample inside the picture is within its depth
abbrev pub AllFine : List ℕ → ℕ → ℕ → ℕ → ℕ → Type 0
AllFine p width height stride top = (j i : ℕ) → j < height → i < width → sample_at p stride j i ≤ top

-- the n samples from index `from` on are within their depth
abbrev pub RunFine : List ℕ → ℕ → ℕ → ℕ → Type 0
RunFine p from n top = (k : ℕ) → k < n → get_or p (from + k) 0 ≤ top

abbrev pub RunsFine : Pixel → ℕ → ℕ → Three → Type 0
RunsFine tops from n a = RunFine a.p0 from n tops.p0 × (RunFine a.p1 from n tops.p1 × RunFine a.p2 from n tops.p2)

-- an answer that is yes exactly if a fact holds
abbrev pub Tells : Bool → Type 0 → Type 0
Tells r fact = (r ≡ true → fact) × (r ≡ false → fact → ⊥)

-- row j and column i come before another row and column
abbrev pub Before : ℕ → ℕ → ℕ → ℕ → Type 0
Before j i row column = (j < row) ⊎ ((j ≡ row) × (i < column))

-- what it is to be the first place of a picture that fails: it does, and every place before it passes
pub record IsFirstPlace (Fails Passes : ℕ → ℕ → Type 0) (plane width height : ℕ) (place : Place) : Type 0 where
  pub plane_is : place.plane ≡ plane
  pub row_inside : place.row < height
  pub column_inside : place.column < width
  pub fails : Fails place.row place.column
  pub none_before : (j i : ℕ) → j < height → i < width → Before j i place.row place.column → Passes j i

-- what it is to be the first bad sample of a plane
abbrev pub IsFirstBad : List ℕ → ℕ → ℕ → ℕ → ℕ → ℕ → Place → Type 0
IsFirstBad p plane width height stride top =
    IsFirstPlace (λ j i. top < sample_at p stride j i) (λ j i. sample_at p stride j i ≤ top) plane width height

-- plane k of a picture has no bad sample, and a place is that of its first
abbrev pub FinePlane : Picture → Pixel → ℕ → Type 0
FinePlane a tops k = AllFine (plane_at k a) a.width a.height a.stride (sample_of k tops)

abbrev pub IsBadInPlane : Picture → Pixel → ℕ → Place → Type 0
IsBadInPlane a tops k = IsFirstBad (plane_at k a) k a.width a.height a.stride (sample_of k tops)

-- a place inside a picture
pub record IsPlaceOf (a : Picture) (place : Place) : Type 0 where
  pub plane_inside : place.plane < 3
  pub row_inside : place.row < a.height
  pub column_inside : place.column < a.width

-- what it is to be the first bad sample of a picture
pub record IsBadSample (a : Picture) (tops : Pixel) (place : Place) : Type 0 where
  pub plane_inside : place.plane < 3
  pub first_there : IsBadInPlane a tops place.plane place
  pub fine_below : (k : ℕ) → k < place.plane → FinePlane a tops k

-- no sample of a pixel is above that of tops in its plane
pub record NotAbove (tops p : Pixel) : Type 0 where
  pub within0 : p.p0 ≤ tops.p0
  pub within1 : p.p1 ≤ tops.p1
  pub within2 : p.p2 ≤ tops.p2
