-- The answers of the calls on a code, on a pixel and on a sample.
use Rattle.std.specs.Prelude.{Bool, Float, ℕ, Option, Some, None, Result, Ok, Err}
use Rattle.refusal.specs.Rules.{numbered}
use Rattle.sample.specs.declared.Pixel.{Pixel}
use Rattle.codes.specs.Edition.{edition_of}
use Rattle.codes.specs.declared.edition.Edition.{Edition}
use Rattle.codes.specs.Label.{label_for}
use Rattle.codes.specs.declared.label.CodeKind.{CodeKind}
use Rattle.setting.specs.declared.Call.TheVariants as call
use Rattle.setting.specs.declared.Setting.{Setting}
use Rattle.meter.specs.Level.{level_of, levels_of}
use Rattle.meter.specs.declared.SampleKind.{SampleKind}
use Rattle.plan.specs.Conversion.{convert}
use Rattle.plan.specs.Source.{has_source}
use Rattle.setting.specs.declared.Way.{Way}
use Rattle.admit.specs.Rules.{pixel_admission, sample_admission}
use Rattle.refusal.specs.declared.Refusal.{Refusal}
use Rattle.setting.specs.declared.admission.Served.{Served}
use Rattle.meter.specs.declared.PixelLevels.{PixelLevels}
use Rattle.codes.specs.declared.label.Label.{Label}

-- the label of a code, where the edition is one
abbrev pub label_by : CodeKind → ℕ → Option Edition → Result Label Refusal
label_by k code (Some e) = Ok (label_for k e code)
label_by k code None = Err (numbered 12)

unfoldable pub label_answer : CodeKind → ℕ → ℕ → Result Label Refusal
label_answer k n code = label_by k code (edition_of n)

-- a pixel either way
abbrev pub converted_by : Way → Pixel → Result Served Refusal → Result Pixel Refusal
converted_by w p (Ok x) = Ok (convert w x p)
converted_by w p (Err r) = Err r

unfoldable pub pixel_answer : Way → Setting → Pixel → Result Pixel Refusal
pixel_answer w s p = converted_by w p (pixel_admission (call.Convert w) s p)

-- the source check of a pixel
abbrev pub source_by : Pixel → Result Served Refusal → Result Bool Refusal
source_by p (Ok x) = Ok (has_source x p)
source_by p (Err r) = Err r

unfoldable pub source_answer : Setting → Pixel → Result Bool Refusal
source_answer s p = source_by p (pixel_admission call.ImageCheck s p)

-- the meter, of one sample and of a pixel
abbrev pub read_by : SampleKind → ℕ → Result Served Refusal → Result Float Refusal
read_by k v (Ok x) = Ok (level_of k x.ycc_full x.depths.luma x.depths.chroma v)
read_by k v (Err r) = Err r

unfoldable pub reading : SampleKind → Setting → ℕ → Result Float Refusal
reading k s v = read_by k v (sample_admission k s v)

abbrev pub levels_read_by : Pixel → Result Served Refusal → Result PixelLevels Refusal
levels_read_by p (Ok x) = Ok (levels_of x.ycc_full x.depths.luma x.depths.chroma p)
levels_read_by p (Err r) = Err r

unfoldable pub levels_answer : Setting → Pixel → Result PixelLevels Refusal
levels_answer s p = levels_read_by p (pixel_admission call.Meter s p)
