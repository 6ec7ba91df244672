-- The conversion of one pixel, by the formulas of a served setting.
use Rattle.std.specs.Prelude.{cond, ltb}
use Rattle.sample.specs.declared.Depths.{Depths}
use Rattle.sample.specs.declared.Pixel.{Pixel}
use Rattle.ycgco.specs.YCgCo.{lossy_forward, lossy_reverse, lossless_forward, lossless_reverse}
use Rattle.levels.specs.Conversion.{levels_forward, levels_reverse}
use Rattle.levels.specs.declared.LevelSetting.{LevelSetting}
use Rattle.levels.specs.declared.equations.LevelMatrix.{LevelMatrix}
use Rattle.codes.specs.declared.matrix.Formulas.{Formulas}
use Rattle.codes.specs.declared.matrix.Formulas.TheVariants.{ChangePlaces, YCgCo, Levels}
use Rattle.setting.specs.Ready.{level_setting}
use Rattle.setting.specs.declared.Way.{Way}
use Rattle.setting.specs.declared.Way.TheVariants.{Forward, Reverse}
use Rattle.setting.specs.declared.admission.Served.{Served}

-- code 0: Y = G, Cb = B, Cr = R (45 to 47), and back
abbrev pub change_places : Way → Pixel → Pixel
change_places Forward p = record { p0 = p.p1; p1 = p.p2; p2 = p.p0 }
change_places Reverse p = record { p0 = p.p2; p1 = p.p0; p2 = p.p1 }

-- YCgCo (48 to 54)
abbrev pub lossy : Way → Depths → Pixel → Pixel
lossy Forward d p = lossy_forward d p
lossy Reverse d p = lossy_reverse d p

-- and lossless (55 to 62)
abbrev pub lossless : Way → Depths → Pixel → Pixel
lossless Forward d p = lossless_forward d p
lossless Reverse d p = lossless_reverse d p

-- lossless where chroma is deeper than RGB
abbrev pub ycgco_by : Way → Depths → Pixel → Pixel
ycgco_by w d p = cond (ltb d.rgb.0 d.chroma.0) (lossless w d p) (lossy w d p)

-- a level matrix
abbrev pub levels_by : Way → LevelMatrix → LevelSetting → Pixel → Pixel
levels_by Forward m s p = levels_forward m s p
levels_by Reverse m s p = levels_reverse m s p

abbrev pub convert_by : Way → Formulas → Served → Pixel → Pixel
convert_by w ChangePlaces s p = change_places w p
convert_by w YCgCo s p = ycgco_by w s.depths p
convert_by w (Levels m) s p = levels_by w m (level_setting s) p

-- THE conversion of a pixel
unfoldable pub convert : Way → Served → Pixel → Pixel
convert w s p = convert_by w s.formulas s p
