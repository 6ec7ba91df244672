-- The plan of a setting that is not refused is the plan of its conversion: what each kind of formulas asks is what such a setting has.
use mathlib.Core.Path.{◌≡◌, refl, sym, subst}
use mathlib.Core.Bool.{Bool, true, false, cond}
use Prim.Native.Nat.{◌≤◌}
use borrow.Author.Tests.{ltb-true}
use lib.Dec.{ltb}
use Rattle.sample.specs.Depth.{ThreeDepths}
use Rattle.sample.specs.declared.Depths.{Depths}
use Rattle.sample.specs.declared.Pixel.{Pixel}
use Rattle.sample.specs.declared.Side.{Side}
use Rattle.ycgco.specs.YCgCo.{LossyDepths, LosslessDepths}
use Rattle.levels.specs.Conversion.{MatrixFits, LevelDepths}
use Rattle.levels.specs.declared.LevelSetting.{LevelSetting}
use Rattle.levels.specs.declared.equations.LevelMatrix.{LevelMatrix}
use Rattle.levels.proofs.Bounds.{samples_fit}
use Rattle.levels.proofs.Fitting.{forward_ready, reverse_ready}
use Rattle.levels.proofs.Pixels.{forward_law, reverse_law}
use Rattle.codes.specs.declared.matrix.Formulas.{Formulas}
use Rattle.codes.specs.declared.matrix.Formulas.TheVariants.{ChangePlaces, YCgCo, Levels}
use Rattle.setting.specs.Call.{input_of}
use Rattle.setting.specs.Ready.{Agreed, Ready, level_setting}
use Rattle.setting.specs.declared.Way.{Way}
use Rattle.setting.specs.declared.Way.TheVariants.{Forward, Reverse}
use Rattle.setting.specs.declared.admission.Served.{Served}
use Rattle.plan.specs.Conversion.{change_places, lossy, lossless, ycgco_by, levels_by, convert_by, convert}
use Rattle.plan.specs.Plan.{places_plan, lossy_plan, lossless_plan, ycgco_plan, levels_plan, plan_by, plan_of, Plans}
use Rattle.plan.specs.declared.Plan.{Plan}
use Rattle.plan.proofs.ConversionTheorems.{lossless_depths, lossy_depths}

places_plans : (way : Way) (d : Depths) → Plans (change_places way) (input_of way) d (places_plan way)
places_plans Forward d = record { roomy = tt; takes = λ p h. tt; is = λ p. refl }
places_plans Reverse d = record { roomy = tt; takes = λ p h. tt; is = λ p. refl }

lossy_plans : (way : Way) (d : Depths) → LossyDepths d → Plans (lossy way d) (input_of way) d (lossy_plan way d)
lossy_plans Forward d k = record { roomy = k; takes = λ p h. tt; is = λ p. refl }
lossy_plans Reverse d k = record { roomy = k; takes = λ p h. tt; is = λ p. refl }

lossless_plans : (way : Way) (d : Depths) → LosslessDepths d → Plans (lossless way d) (input_of way) d (lossless_plan way d)
lossless_plans Forward d k = record { roomy = k; takes = λ p h. h; is = λ p. refl }
lossless_plans Reverse d k = record { roomy = k; takes = λ p h. tt; is = λ p. refl }

-- of two conversions the one that a test chooses, and its plan
chosen_plans : {f g : Pixel → Pixel} {side : Side} {d : Depths} {x y : Plan} (b : Bool) → (b ≡ true → Plans f side d x) → (b ≡ false → Plans g side d y)
    → Plans (λ p. cond b (f p) (g p)) side d (cond b x y)
chosen_plans true h k = h refl
chosen_plans false h k = k refl

ycgco_plans : (way : Way) (d : Depths) → ThreeDepths d → (d.rgb.0 ≤ d.luma.0) × (d.luma.0 ≤ d.chroma.0) → Plans (ycgco_by way d) (input_of way) d (ycgco_plan way d)
ycgco_plans way d h k =
    chosen_plans (ltb d.rgb.0 d.chroma.0)
    (λ e. lossless_plans way d (lossless_depths d h k (ltb-true _ _ e)))
    (λ e. lossy_plans way d (lossy_depths d h k))

levels_plans : (way : Way) (m : LevelMatrix) (s : LevelSetting) → MatrixFits m → LevelDepths s → Plans (levels_by way m s) (input_of way) s.depths (levels_plan way m s)
levels_plans Forward m s k h =
    record {
      roomy = forward_ready s h m.forward k.forward;
      takes = λ p i. samples_fit h.rgb h.rgb h.rgb i;
      is = λ p. forward_law s h p m k;
    }
levels_plans Reverse m s k h =
    record {
      roomy = reverse_ready s h m.reverse k.reverse;
      takes = λ p i. samples_fit h.luma h.chroma h.chroma i;
      is = λ p. reverse_law s h p m k;
    }

plans_by : (way : Way) (f : Formulas) (s : Served) → ThreeDepths s.depths → Agreed f s → Plans (convert_by way f s) (input_of way) s.depths (plan_by way f s)
plans_by way ChangePlaces s h k = places_plans way s.depths
plans_by way YCgCo s h k = ycgco_plans way s.depths h k
plans_by way (Levels m) s h k = levels_plans way m (level_setting s) k.0 k.1

pub plans : (way : Way) (s : Served) → Ready s → Plans (convert way s) (input_of way) s.depths (plan_of way s)
unfolding convert plan_of
plans way s r = plans_by way s.formulas s r.three r.agreed

-- and so is what equals it
pub plans_as : (way : Way) (s : Served) {x : Plan} → x ≡ plan_of way s → Ready s → Plans (convert way s) (input_of way) s.depths x
plans_as way s e r = subst (Plans (convert way s) (input_of way) s.depths) (sym e) (plans way s r)
