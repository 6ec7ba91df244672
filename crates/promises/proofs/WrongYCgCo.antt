-- Wrong boxes of lossless YCgCo back, written out with the slip as a parameter and computed at a pixel where it shows. Without the slip the
-- same lines give what the box gives.
use mathlib.Core.Path.{◌≡◌, refl, sym, ap, ◌∙◌}
use mathlib.Core.Bool.{true}
use mathlib.Core.List.{List, [], ◌∷◌}
use Prim.Native.Nat.{ℕ, suc, ◌/◌}
use native.Mathlib.Omega.{arith}
use lib.IntN.{ℤ, pos, negsuc, neg_ℤ, ◌+ℤ◌, ◌-ℤ◌}
use lib.ListN.{get_or}
use Rattle.rounding.specs.Rounding.{half, clip}
use Rattle.sample.specs.Depth.{is_depth, are_depths, at_most}
use Rattle.sample.specs.declared.Pixel.{Pixel}
use Rattle.refusal.specs.Rules.{first}
use Rattle.scan.specs.First.{or_found, first_of, place_if, place_in_row, first_place, bad_sample}
use Rattle.ycgco.specs.YCgCo.{lossless_reverse}
use Rattle.codes.specs.Matrix.{matrix_of}
use Rattle.codes.specs.Label.{among, labelled}
use Rattle.setting.specs.Agreement.{depths_served, agree}
use Rattle.setting.specs.declared.Way.TheVariants.{Reverse}
use Rattle.plan.specs.Conversion.{convert}
use Rattle.admit.specs.Rules.{call_admission}
use Rattle.corkplover.specs.Answers.{pixel_answer}
use Rattle.corkplover.specs.Meaning.{meaning_of_pixel}
use Rattle.promises.specs.Pixels.{samples_of}
use Rattle.promises.proofs.Marked.{with, pixel}

-- back at 8 bits, by a way of halving and by the blue that red is made of
abbrev back_by : (ℤ → ℤ) → (ℤ → ℤ) → Pixel → Pixel
back_by halved blue p =
    let h = pos 256 in
    let t = pos p.p0 -ℤ halved (pos p.p1 -ℤ h) in
    let b = t -ℤ halved (pos p.p2 -ℤ h) in
    record { p0 = clip 255 (blue b +ℤ (pos p.p2 -ℤ h)); p1 = clip 255 (t +ℤ (pos p.p1 -ℤ h)); p2 = clip 255 b }

abbrev clipped_blue : ℤ → ℤ
clipped_blue b = pos (clip 255 b)

-- what the box gives: to the blue of the marked rows, and to the pixel whose blue is below 0
abbrev boxed : Pixel → List ℕ
boxed p = (meaning_of_pixel (pixel_answer Reverse (with 8 8 8 9 true true) p)).samples

box_blue : boxed (pixel 63 129 1) ≡ 0 ∷ 0 ∷ 255 ∷ []
unfolding pixel_answer call_admission first matrix_of labelled among depths_served agree are_depths is_depth at_most bad_sample first_place place_in_row place_if first_of or_found convert lossless_reverse half clip
box_blue = refl

box_below : boxed (pixel 0 256 511) ≡ 255 ∷ 0 ∷ 0 ∷ []
unfolding pixel_answer call_admission first matrix_of labelled among depths_served agree are_depths is_depth at_most bad_sample first_place place_in_row place_if first_of or_found convert lossless_reverse half clip
box_below = refl

pub back_blue : back_by half clipped_blue (pixel 63 129 1) ≡ pixel 0 0 255
unfolding half clip
back_blue = refl

pub back_below : back_by half clipped_blue (pixel 0 256 511) ≡ pixel 255 0 0
unfolding half clip
back_below = refl

-- halved toward zero
abbrev toward_zero : ℤ → ℤ
toward_zero (pos n) = pos (n / 2)
toward_zero (negsuc n) = neg_ℤ (pos (suc n / 2))

pub back_toward_zero : back_by toward_zero clipped_blue (pixel 63 129 1) ≡ pixel 0 0 253
unfolding clip
back_toward_zero = refl

pub halved_toward_zero : boxed (pixel 63 129 1) ≡ samples_of (back_by toward_zero clipped_blue (pixel 63 129 1)) → ⊥
halved_toward_zero e = let q = ap (λ l. get_or l 2 0) (sym box_blue ∙ e ∙ ap samples_of back_toward_zero) in omega arith

-- red made of the blue before it was clipped
pub back_unclipped : back_by half (λ b. b) (pixel 0 256 511) ≡ pixel 128 0 0
unfolding half clip
back_unclipped = refl

pub red_from_unclipped_blue : boxed (pixel 0 256 511) ≡ samples_of (back_by half (λ b. b) (pixel 0 256 511)) → ⊥
red_from_unclipped_blue e = let q = ap (λ l. get_or l 0 0) (sym box_below ∙ e ∙ ap samples_of back_unclipped) in omega arith
