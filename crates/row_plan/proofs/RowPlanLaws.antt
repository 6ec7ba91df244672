-- A plan that does what the plan of a conversion does is one itself, for many pixels.
use mathlib.Core.Path.{refl, ◌∙◌}
use Prim.Native.Nat.{ℕ}
use Rattle.sample.specs.declared.Depths.{Depths}
use Rattle.sample.specs.declared.Pixel.{Pixel}
use Rattle.sample.specs.declared.Side.{Side}
use Rattle.levels.specs.Room.{AllReady}
use Rattle.levels.specs.declared.lines.Lines.{Lines}
use Rattle.plan.specs.Plan.{Plans}
use Rattle.plan.specs.declared.Plan.{Plan}
use Rattle.plan.specs.declared.Plan.TheVariants as plan
use Rattle.row_plan.specs.RowPlan.{MostRead, RowsOf, RowPlans}
use Rattle.row_plan.specs.declared.RowPlan.{RowPlan}
use Rattle.row_plan.specs.declared.RowPlan.TheVariants as rows

-- the plan of one pixel
pub by_pixel : {f : Pixel → Pixel} {side : Side} {d : Depths} {x : Plan} → Plans f side d x → RowPlans f side d (rows.Plan x)
by_pixel k = record { roomy = k.roomy; takes = k.takes; is = λ p h. k.is p }

-- one that does what three lines do
pub quickened : {f : Pixel → Pixel} {side : Side} {d : Depths} {l : Lines} {most : ℕ} {x : RowPlan} → Plans f side d (plan.Lines l) → MostRead side d most → RowsOf l most x
    → RowPlans f side d x
quickened k m h = record { roomy = h.roomy; takes = λ p i. h.takes p (k.takes p i) (m.each p i); is = λ p i. h.is p (m.each p i) ∙ k.is p }

-- the lines themselves
pub as_they_are : {l : Lines} {most : ℕ} → AllReady l → RowsOf l most (rows.Plan (plan.Lines l))
as_they_are r = record { roomy = r; takes = λ p h w. h; is = λ p w. refl }
