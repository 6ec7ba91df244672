-- What a setting that is not refused has: what the formulas' code leans on.
use Rattle.std.specs.Prelude.{◌≡◌, ◌+◌, ◌≤◌}
use Rattle.sample.specs.Depth.{ThreeDepths}
use Rattle.levels.specs.Conversion.{MatrixFits, LevelDepths}
use Rattle.levels.specs.declared.LevelSetting.{LevelSetting}
use Rattle.codes.specs.declared.matrix.Formulas.{Formulas}
use Rattle.codes.specs.declared.matrix.Formulas.TheVariants.{ChangePlaces, YCgCo, Levels}
use Rattle.setting.specs.declared.admission.Served.{Served}

abbrev pub level_setting : Served → LevelSetting
level_setting s = record { depths = s.depths; rgb_full = s.rgb_full; ycc_full = s.ycc_full }

-- the depths agree with the formulas
abbrev pub Agreed : Formulas → Served → Type 0
Agreed ChangePlaces s = (s.depths.rgb.0 ≡ s.depths.luma.0) × (s.depths.luma.0 ≡ s.depths.chroma.0)
Agreed YCgCo s = (s.depths.rgb.0 ≤ s.depths.luma.0) × (s.depths.luma.0 ≤ s.depths.chroma.0)
Agreed (Levels m) s = MatrixFits m × LevelDepths (level_setting s)

pub record Ready (s : Served) : Type 0 where
  pub three : ThreeDepths s.depths
  pub agreed : Agreed s.formulas s

-- and of which nothing is lost
abbrev pub Keeping : Formulas → Served → Type 0
Keeping ChangePlaces s = Unit
Keeping YCgCo s = s.depths.rgb.0 + 1 ≤ s.depths.chroma.0
Keeping (Levels m) s = ⊥

abbrev pub Keeps : Served → Type 0
Keeps s = Keeping s.formulas s
