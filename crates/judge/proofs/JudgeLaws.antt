-- A picture that was told by a plan, and what that makes the call answer.
use Rattle.std.specs.Prelude.{Result, Err, Option, Some, None, Ok}
use mathlib.Core.Path.{◌≡◌, refl, sym, ap, ◌∙◌}
use mathlib.Core.Bool.{true, false}
use Prim.Native.Nat.{ℕ, ◌<◌}
use Rattle.sample.specs.Depth.{tops}
use Rattle.sample.specs.declared.Pixel.{Pixel}
use Rattle.refusal.specs.declared.Refusal.{Refusal}
use Rattle.setting.specs.Call.{input_of}
use Rattle.setting.specs.declared.Call.TheVariants.{Convert}
use Rattle.setting.specs.declared.Setting.{Setting}
use Rattle.setting.specs.declared.Way.{Way}
use Rattle.setting.specs.declared.admission.Served.{Served}
use Rattle.planes.specs.Picture.{Picture, layout_of, pixel_of, EveryPixel}
use Rattle.std.proofs.Common.{Option, Some, None}
use Rattle.plan.specs.Conversion.{convert}
use Rattle.row_plan.specs.RowPlan.{row_planned, RowPlans}
use Rattle.row_plan.specs.declared.RowPlan.{RowPlan}
use Rattle.scan.specs.First.{NotAbove}
use Rattle.scan.proofs.Searches.{first_place_same}
use Rattle.compare.specs.Compare.{differ}
use Rattle.admit.specs.Rules.{by_sizes, frame_admission}
use Rattle.admit.proofs.AdmitLaws.{still_refused}
use Rattle.admit.proofs.LetIn.{FrameSized, let_in}
use Rattle.rows.proofs.TopLaws.{tells_inside}
use Rattle.judge.specs.Judge.{is_wrong, first_wrong, count_wrong, verdict, judge_by, judgement, PictureTold, JudgedIf}
use Rattle.judge.specs.declared.picture.Told.{Told}
use Rattle.judge.proofs.PlaceLaws.{places_same}

-- two conversions that make the same of every pixel of the source find the same
module _ (f g : Pixel → Pixel) (a b : Picture) (same : (j i : ℕ) → j < a.height → i < a.width → f (pixel_of a j i) ≡ g (pixel_of a j i)) where
  wrong_same : (j i : ℕ) → j < a.height → i < a.width → is_wrong f a b j i ≡ is_wrong g a b j i
  wrong_same j i h l = ap (λ p. differ p (pixel_of b j i)) (same j i h l)

  pub first_wrong_same : first_wrong f a b ≡ first_wrong g a b
  first_wrong_same = first_place_same _ _ 0 a.width a.height wrong_same

  pub count_wrong_same : count_wrong f a b ≡ count_wrong g a b
  count_wrong_same = places_same _ _ a.width a.height wrong_same

-- what a plan of the conversion told is told of the conversion
pub judged_if : (way : Way) (x : Served) {plan : RowPlan} (h : RowPlans (convert way x) (input_of way) x.depths plan) (top : Pixel)
    → top ≡ tops (input_of way) x.depths → (a b : Picture) (r : Option Told) → PictureTold r top (row_planned plan) a b → JudgedIf r way x a b
judged_if way x {plan} h top top_is a b None t =
    let none : EveryPixel (NotAbove top) a → ⊥ = t in
    (tells_inside way x h top top_is a false (λ q. absurd (let c : false ≡ true = q in cc), λ q. none)).1 refl
judged_if way x {plan} h top top_is a b (Some r) t =
    let inside = (tells_inside way x h top top_is a true (λ q. t.0, λ q. absurd (let c : true ≡ false = q in cc))).0 refl in
    let same : (j i : ℕ) → j < a.height → i < a.width → row_planned plan (pixel_of a j i) ≡ convert way x (pixel_of a j i) =
    λ j i p q. h.is (pixel_of a j i) (inside j i p q) in (
      inside,
      (
        t.1.0 ∙ first_wrong_same (row_planned plan) (convert way x) a b same,
        t.1.1 ∙ count_wrong_same (row_planned plan) (convert way x) a b same,
      ),
    )

-- ---- the call

module _ (way : Way) (s : Setting) (a b : Picture) where
  refused : (r : Refusal) → frame_admission way s a (layout_of b) ≡ Err r → Err r ≡ judgement way s a b
  unfolding judgement
  refused r e = ap (λ v. judge_by v way a b) (sym e)

  -- it is refused by its setting or its sizes
  pub refused_first : (r : Refusal) → by_sizes (Convert way) s a (layout_of b) ≡ Err r
      → Err r ≡ judgement way s a b
  refused_first r e = refused r (still_refused (Convert way) s _ _ r e)

  -- or by a sample
  pub refused_after : (v : Result Served Refusal) (r : Refusal) → v ≡ frame_admission way s a (layout_of b) → v ≡ Err r → Err r ≡ judgement way s a b
  refused_after v r e f = refused r (sym e ∙ f)

  pub told_all : {x : Served} → FrameSized way s a (layout_of b) x → (r : Told) → JudgedIf (Some r) way x a b
      → Ok (verdict r.first r.wrong) ≡ judgement way s a b
  unfolding judgement
  told_all l r t = (λ i. Ok (verdict (t.1.0 i) (t.1.1 i))) ∙ ap (λ v. judge_by v way a b) (sym (let_in l t.0))
