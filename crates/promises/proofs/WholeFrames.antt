-- A frame worked out whole, and wrong boxes that give themselves away at it: each follows from the definitions by computation.
use Rattle.std.specs.Prelude.{Ok, Err, Some, None}
use mathlib.Core.Path.{◌≡◌, refl, ap}
use mathlib.Core.Bool.{true, true≢false}
use mathlib.Core.List.{List, [], ◌∷◌}
use Prim.Native.Nat.{ℕ}
use native.Mathlib.Omega.{arith}
use lib.ListN.{get_or}
use Rattle.rounding.specs.Rounding.{half, clip, sample}
use Rattle.sample.specs.Depth.{is_depth, are_depths, at_most}
use Rattle.refusal.specs.Rules.{first, at, numbered, bad_at}
use Rattle.refusal.specs.declared.Place.{Place}
use Rattle.refusal.specs.declared.Refusal.{Refusal}
use Rattle.tables.specs.Table.{tab}
use Rattle.scan.specs.First.{or_found, first_of, place_if, place_in_row, first_place, bad_sample}
use Rattle.planes.specs.Plane.{cell, plane_of}
use Rattle.planes.specs.Sizes.{layout, outside, some_layout, size_outside, any_short, layout_short}
use Rattle.planes.specs.declared.size.Layout.{Layout}
use Rattle.ycgco.specs.YCgCo.{lossless_forward, lossless_reverse}
use Rattle.codes.specs.Matrix.{matrix_of}
use Rattle.codes.specs.Label.{among, labelled}
use Rattle.setting.specs.Agreement.{depths_served, agree}
use Rattle.setting.specs.declared.Setting.{Setting}
use Rattle.plan.specs.Conversion.{convert}
use Rattle.plan.specs.Source.{has_source}
use Rattle.setting.specs.declared.Way.TheVariants.{Forward}
use Rattle.planes.specs.Picture.{Picture, picture}
use Rattle.admit.specs.Rules.{call_admission}
use Rattle.frame.specs.Frame.{frame_answer, out_plane}
use Rattle.image_check.specs.Image.{image_answer}
use Rattle.promises.proofs.Marked.{with}

-- lossless code 8 at 8 bits
abbrev pub setting : Setting
setting = with 8 8 8 9 true true

-- the three planes that a forward call leaves
abbrev left : Setting → Picture → Layout → List (List ℕ)
left s a b = out_plane 0 Forward s a b ∷ out_plane 1 Forward s a b ∷ out_plane 2 Forward s a b ∷ []

-- the rules' own frame: width 2, height 1, strides 3, and planes of four elements to be written
abbrev pub input : Picture
input = picture 2 1 3 (255 ∷ 0 ∷ 7 ∷ []) (0 ∷ 255 ∷ 7 ∷ []) (0 ∷ 0 ∷ 7 ∷ [])

abbrev output : Layout
output = layout 3 4 4 4

pub whole_answer : frame_answer Forward setting input output ≡ Ok tt
unfolding frame_answer call_admission first matrix_of labelled among depths_served agree are_depths is_depth at_most size_outside outside some_layout layout_short any_short bad_sample first_place place_in_row place_if first_of or_found
whole_answer = refl

pub whole_frame : left setting input output ≡ (63 ∷ 127 ∷ 0 ∷ 0 ∷ []) ∷ (129 ∷ 511 ∷ 0 ∷ 0 ∷ []) ∷ (511 ∷ 256 ∷ 0 ∷ 0 ∷ []) ∷ []
unfolding out_plane call_admission first matrix_of labelled among depths_served agree are_depths is_depth at_most size_outside outside some_layout layout_short any_short bad_sample first_place place_in_row place_if first_of or_found plane_of tab cell convert lossless_forward half sample
whole_frame = refl

-- the same with a matrix that is reserved: every element is zeroed
pub refused_frame : left (with 3 8 8 9 true true) input output ≡ (0 ∷ 0 ∷ 0 ∷ 0 ∷ []) ∷ (0 ∷ 0 ∷ 0 ∷ 0 ∷ []) ∷ (0 ∷ 0 ∷ 0 ∷ 0 ∷ []) ∷ []
unfolding out_plane call_admission first matrix_of labelled among depths_served agree are_depths is_depth at_most size_outside outside some_layout layout_short any_short bad_sample first_place place_in_row place_if first_of or_found tab
refused_frame = refl

-- a setting that is refused is, whatever the sizes are
pub setting_before_sizes : frame_answer Forward (with 3 8 8 9 true true) (picture 0 0 0 [] [] []) (layout 0 0 0 0) ≡ Err (numbered 1)
unfolding frame_answer call_admission first matrix_of
setting_before_sizes = refl

-- of five bad samples in two planes and two rows the one of the lowest plane, in it of the lowest row, is named, with its own number
pub first_bad_named : frame_answer Forward setting (picture 2 2 2 (0 ∷ 300 ∷ 301 ∷ 0 ∷ []) (302 ∷ 303 ∷ 0 ∷ 304 ∷ []) (0 ∷ 0 ∷ 0 ∷ 0 ∷ [])) (layout 2 4 4 4)
    ≡ Err (bad_at (at 0 0 1) 300)
unfolding frame_answer call_admission first matrix_of labelled among depths_served agree are_depths is_depth at_most size_outside outside some_layout layout_short any_short bad_sample first_place place_in_row place_if first_of or_found
first_bad_named = refl

-- red above green, one pixel wide
abbrev tall : Picture
tall = picture 1 2 1 (255 ∷ 0 ∷ []) (0 ∷ 255 ∷ []) (0 ∷ 0 ∷ [])

pub tall_frame : left setting tall (layout 1 2 2 2) ≡ (63 ∷ 127 ∷ []) ∷ (129 ∷ 511 ∷ []) ∷ (511 ∷ 256 ∷ []) ∷ []
unfolding out_plane call_admission first matrix_of labelled among depths_served agree are_depths is_depth at_most size_outside outside some_layout layout_short any_short bad_sample first_place place_in_row place_if first_of or_found plane_of tab cell convert lossless_forward half sample
tall_frame = refl

-- one pixel that has an image source and one that has none: its blue would be negative
abbrev one : ℕ → ℕ → ℕ → Picture
one y cb cr = picture 1 1 1 (y ∷ []) (cb ∷ []) (cr ∷ [])

pub red_picture_has_source : image_answer setting (one 63 129 511) ≡ Ok None
unfolding image_answer call_admission first matrix_of labelled among depths_served agree are_depths is_depth at_most size_outside outside some_layout layout_short any_short bad_sample first_place place_in_row place_if first_of or_found has_source convert lossless_forward lossless_reverse half clip sample
red_picture_has_source = refl

pub none_picture_has_source : image_answer setting (one 0 256 511) ≡ Ok (Some (at 0 0 0))
unfolding image_answer call_admission first matrix_of labelled among depths_served agree are_depths is_depth at_most size_outside outside some_layout layout_short any_short bad_sample first_place place_in_row place_if first_of or_found has_source convert lossless_forward lossless_reverse half clip sample
none_picture_has_source = refl

-- ---- wrong boxes: what each would answer or leave there is not so

-- element n of plane k
abbrev element : ℕ → ℕ → List (List ℕ) → ℕ
element k n planes = get_or (get_or planes k []) n 0

-- refuses everything
pub refuses_frames : (r : Refusal) → frame_answer Forward setting input output ≡ Err r → ⊥
refuses_frames r e = let f = whole_answer in true≢false cc

-- one fixed colour: the same sample wherever the picture is
pub fixed_colour_frame : element 0 0 (left setting input output) ≡ element 0 1 (left setting input output) → ⊥
fixed_colour_frame e = let q = ap (element 0 0) whole_frame in let r = ap (element 0 1) whole_frame in omega (arith, e, q, r)

-- planes copied straight through
pub copied_through : element 0 0 (left setting input output) ≡ 255 → ⊥
copied_through e = omega (arith, e, ap (element 0 0) whole_frame)

-- writes nothing, or the picture area alone: a nine of the last client is still there
pub nothing_written : element 0 0 (left setting input output) ≡ 9 → ⊥
nothing_written e = omega (arith, e, ap (element 0 0) whole_frame)

pub padding_kept : element 0 2 (left setting input output) ≡ 9 → ⊥
padding_kept e = omega (arith, e, ap (element 0 2) whole_frame)

-- leaves the planes alone on a refusal
pub left_on_refusal : element 0 0 (left (with 3 8 8 9 true true) input output) ≡ 9 → ⊥
left_on_refusal e = omega (arith, e, ap (element 0 0) refused_frame)

-- only the first row converted
pub first_row_alone : element 0 1 (left setting tall (layout 1 2 2 2)) ≡ 0 → ⊥
first_row_alone e = omega (arith, e, ap (element 0 1) tall_frame)

-- an image check that always says yes, or never
pub always_yes : image_answer setting (one 0 256 511) ≡ Ok None → ⊥
always_yes e = let f = none_picture_has_source in true≢false cc

pub never_yes : (p : Place) → image_answer setting (one 63 129 511) ≡ Ok (Some p) → ⊥
never_yes p e = let f = red_picture_has_source in true≢false cc
