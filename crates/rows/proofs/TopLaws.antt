-- What a test against tops tells of a setting that is served: whether all samples lie within depth.
use mathlib.Core.Path.{◌≡◌, sym, subst}
use mathlib.Core.Bool.{Bool}
use Rattle.sample.specs.Depth.{InsideOf, tops}
use Rattle.sample.specs.declared.Pixel.{Pixel}
use Rattle.setting.specs.Call.{input_of}
use Rattle.setting.specs.declared.Way.{Way}
use Rattle.setting.specs.declared.admission.Served.{Served}
use Rattle.planes.specs.Picture.{Picture, EveryPixel}
use Rattle.scan.specs.First.{NotAbove, Tells}
use Rattle.plan.specs.Conversion.{convert}
use Rattle.row_plan.specs.RowPlan.{RowPlans}
use Rattle.row_plan.specs.declared.RowPlan.{RowPlan}
use Rattle.admit.proofs.Accepted.{inside_of}
use Rattle.rows.specs.Paint.{TakesUpTo}

module _ (way : Way) (x : Served) {plan : RowPlan} (h : RowPlans (convert way x) (input_of way) x.depths plan) (top : Pixel) (top_is : top ≡ tops (input_of way) x.depths) where
  -- samples that are not above their tops are within depth, and the other way round
  within : (p : Pixel) → NotAbove top p → InsideOf (input_of way) x.depths p
  within p n = (inside_of (input_of way) x.depths p).0 (subst (λ t. NotAbove t p) top_is n)

  not_above : (p : Pixel) → InsideOf (input_of way) x.depths p → NotAbove top p
  not_above p i = subst (λ t. NotAbove t p) (sym top_is) ((inside_of (input_of way) x.depths p).1 i)

  pub takes_up_to : TakesUpTo top plan
  takes_up_to = record { each = λ p n. h.takes p (within p n) }

  -- so a test of every pixel against the tops tells whether all lie within depth
  pub tells_inside : (a : Picture) (r : Bool) → Tells r (EveryPixel (NotAbove top) a) → Tells r (EveryPixel (InsideOf (input_of way) x.depths) a)
  tells_inside a r t = (λ e j i p q. within _ (t.0 e j i p q), λ e h. t.1 e (λ j i p q. not_above _ (h j i p q)))
