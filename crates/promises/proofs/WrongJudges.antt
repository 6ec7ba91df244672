-- Claims on the frame of `WholeFrames` judged by computation, and wrong judges that give themselves away at them.
use Rattle.std.specs.Prelude.{Result, Ok, Err, Option, Some, None}
use mathlib.Core.Path.{◌≡◌, refl, sym, ap, ◌∙◌}
use mathlib.Core.Bool.{true≢false}
use mathlib.Core.List.{[], ◌∷◌}
use Prim.Native.Nat.{ℕ}
use native.Mathlib.Omega.{arith}
use Rattle.rounding.specs.Rounding.{half, sample}
use Rattle.sample.specs.Depth.{is_depth, are_depths, at_most}
use Rattle.refusal.specs.Rules.{first, at}
use Rattle.refusal.specs.declared.Place.{Place}
use Rattle.refusal.specs.declared.Refusal.{Refusal}
use Rattle.scan.specs.First.{or_found, first_of, place_if, place_in_row, first_place, bad_sample}
use Rattle.planes.specs.Picture.{Picture, picture}
use Rattle.planes.specs.Sizes.{outside, some_layout, size_outside, any_short, layout_short}
use Rattle.ycgco.specs.YCgCo.{lossless_forward}
use Rattle.codes.specs.Matrix.{matrix_of}
use Rattle.codes.specs.Label.{among, labelled}
use Rattle.setting.specs.Agreement.{depths_served, agree}
use Rattle.setting.specs.declared.Way.TheVariants.{Forward}
use Rattle.plan.specs.Conversion.{convert}
use Rattle.compare.specs.Count.{count_of, count_places}
use Rattle.admit.specs.Rules.{call_admission}
use Rattle.judge.specs.Judge.{judgement}
use Rattle.judge.specs.declared.Difference.{Difference}
use Rattle.corkplover.specs.Packing.{wrong_in}
use Rattle.promises.proofs.WholeFrames.{setting, input}

-- what the frame becomes, with a nine of somebody else's in the padding
abbrev right : Picture
right = picture 2 1 3 (63 ∷ 127 ∷ 9 ∷ []) (129 ∷ 511 ∷ 9 ∷ []) (511 ∷ 256 ∷ 9 ∷ [])

-- two samples of the first pixel are one off, and one of the second has more bits than its depth
abbrev wrong : Picture
wrong = picture 2 1 3 (64 ∷ 127 ∷ 9 ∷ []) (130 ∷ 511 ∷ 9 ∷ []) (511 ∷ 600 ∷ 9 ∷ [])

pub right_agrees : judgement Forward setting input right ≡ Ok None
unfolding judgement call_admission first matrix_of labelled among depths_served agree are_depths is_depth at_most size_outside outside some_layout layout_short any_short bad_sample first_place place_in_row place_if first_of or_found convert lossless_forward half sample count_places count_of
right_agrees = refl

pub wrong_differs : judgement Forward setting input wrong ≡ Ok (Some (record { first = at 0 0 0; count = 2 }))
unfolding judgement call_admission first matrix_of labelled among depths_served agree are_depths is_depth at_most size_outside outside some_layout layout_short any_short bad_sample first_place place_in_row place_if first_of or_found convert lossless_forward half sample count_places count_of
wrong_differs = refl

-- says that everything agrees, or that nothing does
pub always_agrees : judgement Forward setting input wrong ≡ Ok None → ⊥
always_agrees e = let f = wrong_differs in true≢false cc

pub never_agrees : (p : Place) (n : ℕ) → judgement Forward setting input right ≡ Ok (Some (record { first = p; count = n })) → ⊥
never_agrees p n e = let f = right_agrees in true≢false cc

-- the column of the first wrong pixel, if there is one
abbrev first_column : Result (Option Difference) Refusal → ℕ
first_column (Ok (Some d)) = d.first.column
first_column (Ok None) = 0
first_column (Err r) = 0

-- names the last wrong pixel for the first
pub last_for_first : (n : ℕ) → judgement Forward setting input wrong ≡ Ok (Some (record { first = at 0 0 1; count = n })) → ⊥
last_for_first n e =
    let columns : 0 ≡ 1 = ap first_column (sym wrong_differs ∙ e) in
    omega (arith, columns)

-- counts samples for pixels, or stops at the first
pub samples_counted : wrong_in (judgement Forward setting input wrong) ≡ 3 → ⊥
samples_counted e = omega (arith, e, ap wrong_in wrong_differs)

pub stops_at_first : wrong_in (judgement Forward setting input wrong) ≡ 1 → ⊥
stops_at_first e = omega (arith, e, ap wrong_in wrong_differs)

-- refuses a claimed sample above its depth
pub claim_refused : (r : Refusal) → judgement Forward setting input wrong ≡ Err r → ⊥
claim_refused r e = let f = wrong_differs in true≢false cc
