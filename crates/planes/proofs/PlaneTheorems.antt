-- What an output plane holds, element by element, and that it depends on the picture's samples alone.
use mathlib.Core.Path.{◌≡◌, refl, sym, ◌∙◌}
use mathlib.Core.Bool.{Bool, true, false, ◌&&◌, cond}
use mathlib.Core.List.{List}
use Prim.Native.Nat.{ℕ, ◌+◌, ◌*◌, ◌/◌, ◌%◌, ◌≤◌, ◌<◌}
use native.Mathlib.Nat.{div-add-mod'}
use native.Mathlib.Omega.{arith}
use borrow.Author.Tests.{ltb-true}
use lib.Dec.{ltb}
use lib.ListN.{length, get_or}
use Rattle.sample.proofs.Choices.{both_true, cannot}
use Rattle.tables.proofs.Tables.{length_tab, tab_at, tab_same}
use Rattle.planes.specs.Plane.{cell, plane_of, sample_at, SamePicture}
use Rattle.planes.specs.Picture.{Picture, picture, pixel_of}
use Rattle.planes.proofs.Painted.{cell_in}

-- what is chosen where a test holds matters there alone
where_true : (b : Bool) (x y z : ℕ) → (b ≡ true → x ≡ y) → cond b x z ≡ cond b y z
where_true true x y z e = e refl
where_true false x y z e = refl

-- what a row and a column that pass their test are
inside : (a b h w : ℕ) → ltb a h && ltb b w ≡ true → (a < h) × (b < w)
inside a b h w e = let t = both_true (ltb a h) (ltb b w) e in (ltb-true a h t.0, ltb-true b w t.1)

module _ (n width height stride : ℕ) where
  pub plane_length : (sample : ℕ → ℕ → ℕ) → length (plane_of n width height stride sample) ≡ n
  unfolding plane_of
  plane_length sample = length_tab n _

  -- an element of the plane
  pub plane_at_lem : (sample : ℕ → ℕ → ℕ) (k : ℕ) → k < n → get_or (plane_of n width height stride sample) k 0 ≡ cell width height stride sample k
  unfolding plane_of
  plane_at_lem sample k l = tab_at n _ k l

  -- an element of the picture
  pub plane_inside : (sample : ℕ → ℕ → ℕ) (j i : ℕ) → j < height → i < width → width ≤ stride → j * stride + i < n
      → sample_at (plane_of n width height stride sample) stride j i ≡ sample j i
  plane_inside sample j i a b w l = plane_at_lem sample (j * stride + i) l ∙ cell_in width height stride sample j i a b (omega arith)

  -- any other: in the padding or past the picture
  pub plane_outside : (sample : ℕ → ℕ → ℕ) (k : ℕ) → k < n → ((j i : ℕ) → j < height → i < width → k ≡ j * stride + i → ⊥)
      → get_or (plane_of n width height stride sample) k 0 ≡ 0
  unfolding cell
  plane_outside sample k l o =
      let j = k / stride in
      let i = k % stride in
      let no : ltb j height && ltb i width ≡ false =
      cannot (ltb j height && ltb i width)
      (λ e. let t = inside j i height width e in o j i t.0 t.1 (sym (div-add-mod' k stride))) in
      plane_at_lem sample k l ∙ rw no

  -- planes whose samples agree inside the picture are equal
  pub plane_same : (f g : ℕ → ℕ → ℕ) → ((j i : ℕ) → j < height → i < width → f j i ≡ g j i)
      → plane_of n width height stride f ≡ plane_of n width height stride g
  unfolding plane_of cell
  plane_same f g e =
      tab_same n _ _
      (λ k l.
      where_true (ltb (k / stride) height && ltb (k % stride) width) _ _ 0
      (λ t. let u = inside (k / stride) (k % stride) height width t in e (k / stride) (k % stride) u.0 u.1))

-- and so are the pixels of planes that agree inside the picture
pub pixel_same : (a : Picture) (q0 q1 q2 : List ℕ) → SamePicture a.width a.height a.stride a.p0 q0
    → SamePicture a.width a.height a.stride a.p1 q1 → SamePicture a.width a.height a.stride a.p2 q2
    → (j i : ℕ) → j < a.height → i < a.width → pixel_of a j i ≡ pixel_of (picture a.width a.height a.stride q0 q1 q2) j i
pixel_same a q0 q1 q2 e0 e1 e2 j i x y = rw (e0 j i x y, e1 j i x y, e2 j i x y)
