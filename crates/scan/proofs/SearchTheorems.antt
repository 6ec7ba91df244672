-- What the answer of a search for a bad sample means, and that it depends on the picture's samples alone.
use Rattle.std.specs.Prelude.{Option, Some, None}
use mathlib.Core.Path.{◌≡◌, refl, sym, ap, ◌∙◌}
use mathlib.Core.Bool.{true, false}
use mathlib.Core.List.{List}
use mathlib.Core.Logic.{◌↔◌}
use Prim.Native.Nat.{ℕ, zero, suc, ◌≤◌, ◌<◌}
use native.Mathlib.Omega.{arith}
use borrow.Author.Tests.{ltb-true, ltb-false, lt-ltb, le-ltb}
use Rattle.sample.specs.declared.Pixel.{Pixel}
use Rattle.refusal.specs.declared.Place.{Place}
use Rattle.planes.specs.Plane.{sample_at, SamePicture}
use Rattle.planes.specs.Picture.{Picture, picture, plane_at, sample_of, EveryPixel}
use Rattle.scan.specs.First.{first_of, is_above, first_bad, bad_in_plane, bad_sample, bad_found, sample_on, with_sample, AllFine, FinePlane, IsFirstBad, IsBadInPlane, IsPlaceOf, IsBadSample, NotAbove}
use Rattle.scan.proofs.Searches.{nothing_exactly, found_exactly, no_place_means, first_place_means, first_place_same}

-- ---- one plane

module _ (p : List ℕ) (plane width height stride top : ℕ) where
  above : (j i : ℕ) → j < height → i < width → (is_above p stride top j i ≡ true) ↔ (top < sample_at p stride j i)
  above j i a b = (ltb-true top (sample_at p stride j i), lt-ltb top (sample_at p stride j i))

  not_above : (j i : ℕ) → j < height → i < width → (is_above p stride top j i ≡ false) ↔ (sample_at p stride j i ≤ top)
  not_above j i a b = (ltb-false top (sample_at p stride j i), le-ltb top (sample_at p stride j i))

  -- None: every sample is within its depth
  pub nothing_means : (first_bad p plane width height stride top ≡ None) ↔ AllFine p width height stride top
  nothing_means = no_place_means (is_above p stride top) plane width height _ _ above not_above

  -- the place found is that of a sample beyond its depth, before which there is none
  pub at_means : (place : Place) → (first_bad p plane width height stride top ≡ Some place) ↔ IsFirstBad p plane width height stride top place
  at_means place = first_place_means (is_above p stride top) plane width height _ _ above not_above place

-- ---- a picture

module _ (a : Picture) (tops : Pixel) where
  plane_fine : (k : ℕ) → (bad_in_plane a tops k ≡ None) ↔ FinePlane a tops k
  plane_fine k = nothing_means (plane_at k a) k a.width a.height a.stride (sample_of k tops)

  plane_bad : (k : ℕ) (place : Place) → (bad_in_plane a tops k ≡ Some place) ↔ IsBadInPlane a tops k place
  plane_bad k place = at_means (plane_at k a) k a.width a.height a.stride (sample_of k tops) place

  -- None: no plane has a bad sample
  pub nothing_in_planes_means : (bad_sample a tops ≡ None) ↔ ((k : ℕ) → k < 3 → FinePlane a tops k)
  unfolding bad_sample
  nothing_in_planes_means =
      let t = nothing_exactly (bad_in_plane a tops) 3 in
      (λ e k l. (plane_fine k).0 (t.0 e k l), λ h. t.1 (λ k l. (plane_fine k).1 (h k l)))

  found_lowest : (place : Place) → bad_sample a tops ≡ Some place → IsBadSample a tops place
  unfolding bad_sample
  found_lowest place e =
      let r = (found_exactly (bad_in_plane a tops) 3 place).0 e in
      let t = (plane_bad r.index place).0 r.there in
      let q : r.index ≡ place.plane = sym t.plane_is in
      record {
        plane_inside = rw q at r.inside;
        first_there = rw q at t;
        fine_below = λ k l. (plane_fine k).0 (r.none k (omega (arith, l, q)));
      }

  lowest_found : (place : Place) → IsBadSample a tops place → bad_sample a tops ≡ Some place
  unfolding bad_sample
  lowest_found place b =
      (found_exactly (bad_in_plane a tops) 3 place).1
      (record {
        index = place.plane;
        inside = b.plane_inside;
        there = (plane_bad place.plane place).1 b.first_there;
        none = λ k l. (plane_fine k).1 (b.fine_below k l);
      })

  -- the place found is in the lowest plane that has a bad sample, and is that plane's first
  pub at_in_planes_means : (place : Place) → (bad_sample a tops ≡ Some place) ↔ IsBadSample a tops place
  at_in_planes_means place = (found_lowest place, lowest_found place)

  -- which is a place of the picture
  pub bad_inside : (place : Place) → IsBadSample a tops place → IsPlaceOf a place
  bad_inside place b =
      record { plane_inside = b.plane_inside; row_inside = b.first_there.row_inside; column_inside = b.first_there.column_inside }

  fine : EveryPixel (NotAbove tops) a → (k : ℕ) → k < 3 → FinePlane a tops k
  fine h zero l j i x y = (h j i x y).within0
  fine h (suc zero) l j i x y = (h j i x y).within1
  fine h (suc (suc zero)) l j i x y = (h j i x y).within2
  fine h (suc (suc (suc k))) l j i x y = absurd (omega arith)

  -- None: no sample of any pixel is above the largest of its plane
  pub nothing_in_pixels_means : (bad_sample a tops ≡ None) ↔ EveryPixel (NotAbove tops) a
  nothing_in_pixels_means =
      let t = nothing_in_planes_means in (
        λ e j i x y.
            record {
              within0 = t.0 e 0 (omega arith) j i x y;
              within1 = t.0 e 1 (omega arith) j i x y;
              within2 = t.0 e 2 (omega arith) j i x y;
            },
        λ h. t.1 (fine h),
      )

-- ---- padding never matters

first_bad_same : (p q : List ℕ) (plane width height stride top : ℕ) → SamePicture width height stride p q
    → first_bad p plane width height stride top ≡ first_bad q plane width height stride top
first_bad_same p q plane width height stride top e =
    first_place_same (is_above p stride top) (is_above q stride top) plane width height (λ j i a b. rw (e j i a b))

module _ (a : Picture) (q0 q1 q2 : List ℕ) (e0 : SamePicture a.width a.height a.stride a.p0 q0)
    (e1 : SamePicture a.width a.height a.stride a.p1 q1) (e2 : SamePicture a.width a.height a.stride a.p2 q2)
  where
    abbrev q : Picture
    q = picture a.width a.height a.stride q0 q1 q2

    place_same : (tops : Pixel) → bad_sample a tops ≡ bad_sample q tops
    unfolding bad_sample first_of
    place_same tops =
        rw (
          first_bad_same a.p0 q0 0 a.width a.height a.stride tops.p0 e0,
          first_bad_same a.p1 q1 1 a.width a.height a.stride tops.p1 e1,
          first_bad_same a.p2 q2 2 a.width a.height a.stride tops.p2 e2,
        )

    stands_same : (k : ℕ) → k < 3 → SamePicture a.width a.height a.stride (plane_at k a) (plane_at k q)
    stands_same zero l = e0
    stands_same (suc zero) l = e1
    stands_same (suc (suc zero)) l = e2
    stands_same (suc (suc (suc k))) l = absurd (omega arith)

    with_same : (tops : Pixel) (f : Option Place) → bad_sample a tops ≡ f → with_sample (sample_on a) f ≡ with_sample (sample_on q) f
    with_same tops (Some place) e =
        let i = bad_inside a tops place ((at_in_planes_means a tops place).0 e) in
        ap (λ v. Some (place, v)) (stands_same place.plane i.plane_inside place.row place.column i.row_inside i.column_inside)
    with_same tops None e = refl

    pub bad_found_same : (tops : Pixel) → bad_found a tops ≡ bad_found q tops
    bad_found_same tops = with_same tops (bad_sample a tops) refl ∙ ap (with_sample (sample_on q)) (place_same tops)
