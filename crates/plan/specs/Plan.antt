-- The plan of a served setting, what a plan does to a pixel, which pixels it takes, and that it is the plan of a conversion.
use Rattle.std.specs.Prelude.{◌≡◌, cond, ltb}
use Rattle.sample.specs.Depth.{InsideRGB, InsideOf}
use Rattle.sample.specs.declared.Depths.{Depths}
use Rattle.sample.specs.declared.Pixel.{Pixel}
use Rattle.sample.specs.declared.Side.{Side}
use Rattle.ycgco.specs.YCgCo.{lossy_forward, lossy_reverse, lossless_forward, lossless_reverse, LossyDepths, LosslessDepths}
use Rattle.levels.specs.Conversion.{SamplesFit}
use Rattle.levels.specs.Lines.{forward_lines, reverse_lines, lines_pixel}
use Rattle.levels.specs.Room.{AllReady}
use Rattle.levels.specs.declared.LevelSetting.{LevelSetting}
use Rattle.levels.specs.declared.equations.LevelMatrix.{LevelMatrix}
use Rattle.codes.specs.declared.matrix.Formulas.{Formulas}
use Rattle.codes.specs.declared.matrix.Formulas.TheVariants.{ChangePlaces, YCgCo, Levels}
use Rattle.setting.specs.Ready.{level_setting}
use Rattle.setting.specs.declared.Way.{Way}
use Rattle.setting.specs.declared.Way.TheVariants.{Forward, Reverse}
use Rattle.setting.specs.declared.admission.Served.{Served}
use Rattle.plan.specs.Conversion.{change_places}
use Rattle.plan.specs.declared.Plan.{Plan}
use Rattle.plan.specs.declared.Plan.TheVariants.{PlacesForward, PlacesReverse, LossyForward, LossyReverse, LosslessForward, LosslessReverse, Lines}

-- planes change places
abbrev pub places_plan : Way → Plan
places_plan Forward = PlacesForward
places_plan Reverse = PlacesReverse

-- YCgCo, lossless where chroma is deeper than RGB
abbrev pub lossy_plan : Way → Depths → Plan
lossy_plan Forward d = LossyForward d
lossy_plan Reverse d = LossyReverse d

abbrev pub lossless_plan : Way → Depths → Plan
lossless_plan Forward d = LosslessForward d
lossless_plan Reverse d = LosslessReverse d

abbrev pub ycgco_plan : Way → Depths → Plan
ycgco_plan way d = cond (ltb d.rgb.0 d.chroma.0) (lossless_plan way d) (lossy_plan way d)

-- a level matrix, by its prepared lines
abbrev pub levels_plan : Way → LevelMatrix → LevelSetting → Plan
levels_plan Forward m s = Lines (forward_lines m.forward s)
levels_plan Reverse m s = Lines (reverse_lines m.reverse s)

abbrev pub plan_by : Way → Formulas → Served → Plan
plan_by way ChangePlaces s = places_plan way
plan_by way YCgCo s = ycgco_plan way s.depths
plan_by way (Levels m) s = levels_plan way m (level_setting s)

-- THE plan of a conversion
unfoldable pub plan_of : Way → Served → Plan
plan_of way s = plan_by way s.formulas s

-- what a plan does to a pixel
abbrev pub planned : Plan → Pixel → Pixel
planned PlacesForward p = change_places Forward p
planned PlacesReverse p = change_places Reverse p
planned (LossyForward d) p = lossy_forward d p
planned (LossyReverse d) p = lossy_reverse d p
planned (LosslessForward d) p = lossless_forward d p
planned (LosslessReverse d) p = lossless_reverse d p
planned (Lines l) p = lines_pixel l p

-- numbers that the code has room for
abbrev pub Roomy : Plan → Type 0
Roomy PlacesForward = Unit
Roomy PlacesReverse = Unit
Roomy (LossyForward d) = LossyDepths d
Roomy (LossyReverse d) = LossyDepths d
Roomy (LosslessForward d) = LosslessDepths d
Roomy (LosslessReverse d) = LosslessDepths d
Roomy (Lines l) = AllReady l

-- a pixel that the code takes
abbrev pub Takes : Plan → Pixel → Type 0
Takes PlacesForward p = Unit
Takes PlacesReverse p = Unit
Takes (LossyForward d) p = Unit
Takes (LossyReverse d) p = Unit
Takes (LosslessForward d) p = InsideRGB d p
Takes (LosslessReverse d) p = Unit
Takes (Lines l) p = SamplesFit p

-- the plan of a conversion f that reads samples of one side within depth
pub record Plans (f : Pixel → Pixel) (side : Side) (d : Depths) (x : Plan) : Type 0 where
  pub roomy : Roomy x
  pub takes : (p : Pixel) → InsideOf side d p → Takes x p
  pub is : (p : Pixel) → planned x p ≡ f p
