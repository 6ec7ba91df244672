-- Demand 3, the image check: its yes means that the picture is the forward conversion of an RGB picture within depth, and the place that it
-- names otherwise is the first without a source.
use Rattle.std.specs.Prelude.{Option, Some, None}
use mathlib.Core.Path.{◌≡◌, refl, sym, ap, ◌∙◌, subst}
use mathlib.Core.Bool.{true, false, true≢false, not}
use mathlib.Core.List.{List, [], ◌∷◌}
use mathlib.Core.Logic.{◌↔◌, ◌⊎◌, inl, inr}
use Prim.Native.Nat.{ℕ, ◌≤◌, ◌<◌}
use native.Mathlib.Omega.{arith}
use borrow.Author.Tests.{not-true, not-false}
use lib.ListN.{length}
use Rattle.sample.specs.Depth.{InsideRGB, InsideYCC}
use Rattle.sample.proofs.Choices.{must}
use Rattle.refusal.specs.Rules.{NoneApplies}
use Rattle.refusal.specs.declared.Place.{Place}
use Rattle.planes.specs.Picture.{Picture, picture, pixel_of, layout_of}
use Rattle.planes.specs.Plane.{sample_at}
use Rattle.planes.specs.Sizes.{needed, LongEnough}
use Rattle.planes.proofs.PlaneTheorems.{plane_length, plane_inside}
use Rattle.scan.proofs.Searches.{no_place_means, first_place_means}
use Rattle.planes.proofs.SizeLaws.{index_inside}
use Rattle.setting.specs.Ready.{Ready}
use Rattle.setting.specs.Rules.{depths, served}
use Rattle.setting.specs.declared.Call.TheVariants.{ImageCheck}
use Rattle.setting.specs.declared.Setting.{Setting}
use Rattle.setting.specs.declared.Way.TheVariants.{Forward, Reverse}
use Rattle.setting.proofs.ReadyLaws.{ready}
use Rattle.plan.specs.Conversion.{convert}
use Rattle.plan.specs.Source.{HasSource, has_source}
use Rattle.plan.proofs.ConversionTheorems.{reverse_inside, same_pixel_lem}
use Rattle.admit.specs.Rules.{picture_rules}
use Rattle.admit.proofs.Accepted.{PictureAccepted, pixels_inside}
use Rattle.frame.specs.Frame.{mapped_sample, mapped_plane}
use Rattle.image_check.specs.Image.{fails, first_failing, answer_found, image_by, image_answer}
use Rattle.corkplover.specs.Meaning.{Meaning, meaning_of_image}
use Rattle.promises.specs.Images.{SourcePicture, FirstSourceless, ChecksImage}
use Rattle.promises.proofs.Refusing.{none_admitted, none_accepted, image_refuses}
use Rattle.promises.proofs.Pixels.{same_word, source_exactly}

-- what was found, from what the answer means
yes_found : {m : Meaning} (f : Option Place) → m ≡ meaning_of_image (answer_found f) → m.source ≡ true ∷ [] → f ≡ None
yes_found (Some place) e q = absurd (true≢false (same_word q (ap (λ m. m.source) e)))
yes_found None e q = refl

none_found : {m : Meaning} (f : Option Place) (place : Place) → m ≡ meaning_of_image (answer_found f) → m.source ≡ false ∷ [] → m.place ≡ place → f ≡ Some place
none_found (Some at) place e q p = ap Some (sym (ap (λ m. m.place) e) ∙ p)
none_found None place e q p = absurd (true≢false (same_word (ap (λ m. m.source) e) q))

by_found : {m : Meaning} (f : Option Place) → m ≡ meaning_of_image (answer_found f) → (m.source ≡ true ∷ []) ⊎ (m.source ≡ false ∷ [])
by_found (Some place) e = inr (ap (λ m. m.source) e)
by_found None e = inl (ap (λ m. m.source) e)

module _ (s : Setting) (a : Picture) (h : NoneApplies (picture_rules ImageCheck s a [])) where
  k : PictureAccepted ImageCheck s a []
  k = none_accepted ImageCheck s _ _ h

  is_ready : Ready (served s)
  is_ready = ready ImageCheck s k.setting

  -- a call that no rule refuses is answered by the search
  searched : meaning_of_image (image_answer s a) ≡ meaning_of_image (answer_found (first_failing (has_source (served s)) a))
  unfolding image_answer
  searched = ap (λ v. meaning_of_image (image_by v a)) (none_admitted ImageCheck s _ _ h)

  within : (j i : ℕ) → j < a.height → i < a.width → InsideYCC (depths s) (pixel_of a j i)
  within = pixels_inside ImageCheck s a [] k

  -- the test of a pixel, and the claim
  exactly : (j i : ℕ) → j < a.height → i < a.width → (has_source (served s) (pixel_of a j i) ≡ true) ↔ HasSource (served s) (pixel_of a j i)
  exactly j i x y = source_exactly s (pixel_of a j i) k.setting (within j i x y)

  passing : (j i : ℕ) → j < a.height → i < a.width → (fails (has_source (served s)) a j i ≡ false) ↔ HasSource (served s) (pixel_of a j i)
  passing j i x y = let t = exactly j i x y in (λ q. t.0 (not-false _ q), λ h. ap not (t.1 h))

  failing : (j i : ℕ) → j < a.height → i < a.width → (fails (has_source (served s)) a j i ≡ true) ↔ (HasSource (served s) (pixel_of a j i) → ⊥)
  failing j i x y =
      let t = exactly j i x y in (
        λ q h. true≢false (sym (t.1 h) ∙ not-true _ q),
        λ f. must (fails (has_source (served s)) a j i) (λ q. f (t.0 (not-false _ q))),
      )

  -- converting back gives the source of every pixel that has one; here it is as a picture, in planes of its own width
  abbrev sample : ℕ → ℕ → ℕ → ℕ
  sample n = mapped_sample n (convert Reverse (served s)) a

  abbrev plane : ℕ → List ℕ
  plane n = mapped_plane n (convert Reverse (served s)) a a.width (needed a.width a.height a.width)

  abbrev origin : Picture
  origin = picture a.width a.height a.width (plane 0) (plane 1) (plane 2)

  origin_long : LongEnough a.width a.height (layout_of origin)
  origin_long =
      let long : (n : ℕ) → needed a.width a.height a.width ≤ length (plane n) =
      λ n. let e = plane_length (needed a.width a.height a.width) a.width a.height a.width (sample n) in omega arith in
      record { long0 = long 0; long1 = long 1; long2 = long 2 }

  origin_sample : (n j i : ℕ) → j < a.height → i < a.width → sample_at (plane n) a.width j i ≡ sample n j i
  origin_sample n j i x y =
      plane_inside (needed a.width a.height a.width) a.width a.height a.width (sample n) j i x y (omega arith)
      (index_inside a.width a.height a.width j i x y)

  origin_pixel : (j i : ℕ) → j < a.height → i < a.width → pixel_of origin j i ≡ convert Reverse (served s) (pixel_of a j i)
  origin_pixel j i x y = λ t. record { p0 = origin_sample 0 j i x y t; p1 = origin_sample 1 j i x y t; p2 = origin_sample 2 j i x y t }

  origin_is_source : ((j i : ℕ) → j < a.height → i < a.width → has_source (served s) (pixel_of a j i) ≡ true) → SourcePicture s a
  unfolding has_source
  origin_is_source h =
      record {
        source = origin;
        width_is = refl;
        height_is = refl;
        stride_is = omega arith;
        long = origin_long;
        inside = λ j i x y.
            subst (InsideRGB (depths s)) (sym (origin_pixel j i x y)) (reverse_inside (served s) (pixel_of a j i) is_ready (within j i x y));
        converts = λ j i x y. ap (convert Forward (served s)) (origin_pixel j i x y) ∙ same_pixel_lem _ _ (h j i x y);
      }

  source_has : SourcePicture s a → (j i : ℕ) → j < a.height → i < a.width → HasSource (served s) (pixel_of a j i)
  source_has p j i x y =
      record {
        source = pixel_of p.source j i;
        inside = p.inside j i (omega (arith, x, p.height_is)) (omega (arith, y, p.width_is));
        converts = p.converts j i x y;
      }

  every : (first_failing (has_source (served s)) a ≡ None) ↔ ((j i : ℕ) → j < a.height → i < a.width → HasSource (served s) (pixel_of a j i))
  every = no_place_means (fails (has_source (served s)) a) 0 a.width a.height _ _ failing passing

  -- yes exactly if there is such a picture
  yes : ((meaning_of_image (image_answer s a)).source ≡ true ∷ []) ↔ SourcePicture s a
  yes = (
    λ q.
        let h = every.0 (yes_found (first_failing (has_source (served s)) a) searched q) in
        origin_is_source (λ j i x y. (exactly j i x y).1 (h j i x y)),
    λ p. ap (λ m. m.source) (searched ∙ ap (λ f. meaning_of_image (answer_found f)) (every.1 (source_has p))),
  )

  -- and a none with the first pixel that has no source, row by row
  none : (place : Place) → let m = meaning_of_image (image_answer s a) in ((m.source ≡ false ∷ []) × (m.place ≡ place)) ↔ FirstSourceless s a place
  none place =
      let t = first_place_means (fails (has_source (served s)) a) 0 a.width a.height _ _ failing passing place in (
        λ q. t.0 (none_found (first_failing (has_source (served s)) a) place searched q.0 q.1),
        λ p.
            let said = searched ∙ ap (λ f. meaning_of_image (answer_found f)) (t.1 p) in
            (ap (λ m. m.source) said, ap (λ m. m.place) said),
      )

pub image_checks : (s : Setting) (a : Picture) → ChecksImage s a (meaning_of_image (image_answer s a))
image_checks s a =
    let r = image_refuses s a in
    record {
      refuses = r;
      yes = λ e. yes s a (r.exactly.accepted e);
      none = λ e. none s a (r.exactly.accepted e);
      decides = λ e. by_found (first_failing (has_source (served s)) a) (searched s a (r.exactly.accepted e));
    }
