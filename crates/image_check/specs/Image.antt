-- The image check: whether a picture of Y, Cb, Cr comes from one of R, G, B, and else the first pixel that does not.
use Rattle.std.specs.Prelude.{Bool, not, [], ℕ, Result, Ok, Err, Option}
use Rattle.sample.specs.declared.Pixel.{Pixel}
use Rattle.setting.specs.declared.Call.TheVariants as call
use Rattle.setting.specs.declared.Setting.{Setting}
use Rattle.scan.specs.First.{first_place}
use Rattle.planes.specs.Picture.{Picture, pixel_of}
use Rattle.plan.specs.Source.{has_source}
use Rattle.admit.specs.Rules.{picture_admission}
use Rattle.refusal.specs.declared.Refusal.{Refusal}
use Rattle.setting.specs.declared.admission.Served.{Served}
use Rattle.refusal.specs.declared.Place.{Place}

-- whether the pixel at row j and column i fails a test
abbrev pub fails : (Pixel → Bool) → Picture → ℕ → ℕ → Bool
fails test a j i = not (test (pixel_of a j i))

-- the first pixel that fails it, as a place of plane 0
abbrev pub first_failing : (Pixel → Bool) → Picture → Option Place
first_failing test a = first_place (fails test a) 0 a.width a.height

abbrev pub answer_found : Option Place → Result (Option Place) Refusal
answer_found found = Ok found

abbrev pub image_by : Result Served Refusal → Picture → Result (Option Place) Refusal
image_by (Ok x) a = answer_found (first_failing (has_source x) a)
image_by (Err r) a = Err r

-- THE answer of the image check
unfoldable pub image_answer : Setting → Picture → Result (Option Place) Refusal
image_answer s a = image_by (picture_admission call.ImageCheck s a []) a
