-- The box's answer to a request: what its entry point answers, with the way of converted samples, and a level as its bits.
use Rattle.std.specs.Prelude.{Bool, Float, Result, Ok, Err}
use Rattle.std.specs.Float.{binary32}
use Rattle.std.specs.Float.Ieee.{to_bits}
use Rattle.sample.specs.declared.Pixel.{Pixel}
use Rattle.setting.specs.declared.Call.{Call}
use Rattle.setting.specs.declared.Call.TheVariants as call
use Rattle.setting.specs.declared.Setting.{Setting}
use Rattle.setting.specs.declared.Way.{Way}
use Rattle.corkplover.specs.Answers.{label_answer, pixel_answer, source_answer, reading, levels_answer}
use Rattle.request.specs.declared.Request.{Request}
use Rattle.request.specs.declared.Request.TheVariants as request
use Rattle.request.specs.declared.Answer.{Answer}
use Rattle.request.specs.declared.Answer.TheVariants.{Samples, Source, Level, Levels, Label as Labelled}
use Rattle.refusal.specs.declared.Refusal.{Refusal}
use Rattle.meter.specs.declared.PixelLevels.{PixelLevels}
use Rattle.codes.specs.declared.label.Label.{Label}

abbrev pub of_pixel : Way → Result Pixel Refusal → Result Answer Refusal
of_pixel w (Ok p) = Ok (Samples w p)
of_pixel w (Err r) = Err r

abbrev pub of_source : Result Bool Refusal → Result Answer Refusal
of_source (Ok found) = Ok (Source found)
of_source (Err r) = Err r

abbrev pub of_reading : Result Float Refusal → Result Answer Refusal
of_reading (Ok x) = Ok (Level (to_bits binary32 x))
of_reading (Err r) = Err r

abbrev pub of_levels : Result PixelLevels Refusal → Result Answer Refusal
of_levels (Ok l) = Ok (Levels (to_bits binary32 l.y) (to_bits binary32 l.cb) (to_bits binary32 l.cr))
of_levels (Err r) = Err r

abbrev pub ask_pixel : Call → Setting → Pixel → Result Answer Refusal
ask_pixel (call.Convert w) s p = of_pixel w (pixel_answer w s p)
ask_pixel call.Meter s p = of_levels (levels_answer s p)
ask_pixel call.ImageCheck s p = of_source (source_answer s p)

abbrev pub of_label : Result Label Refusal → Result Answer Refusal
of_label (Ok l) = Ok (Labelled l)
of_label (Err r) = Err r

unfoldable pub answer_to : Request → Result Answer Refusal
answer_to (request.Pixel c s p) = ask_pixel c s p
answer_to (request.Sample k s v) = of_reading (reading k s v)
answer_to (request.Label k edition code) = of_label (label_answer k edition code)
