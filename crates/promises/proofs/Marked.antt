-- The worked pixels that the rules mark, under one claim: each follows from the definitions by computation.
use mathlib.Core.Path.{◌≡◌, refl}
use mathlib.Core.Bool.{Bool, true, false}
use mathlib.Core.List.{List, [], ◌∷◌}
use Prim.Native.Nat.{ℕ}
use Rattle.rounding.specs.Rounding.{half, round, clip, sample}
use Rattle.sample.specs.Depth.{is_depth, are_depths, at_most}
use Rattle.sample.specs.declared.Pixel.{Pixel}
use Rattle.refusal.specs.Rules.{first}
use Rattle.scan.specs.First.{or_found, first_of, place_if, place_in_row, first_place, bad_sample}
use Rattle.ycgco.specs.YCgCo.{lossy_forward, lossy_reverse, lossless_forward, lossless_reverse}
use Rattle.levels.specs.Conversion.{levels_forward, levels_reverse}
use Rattle.levels.specs.Equations.{luma_matrix}
use Rattle.codes.specs.Matrix.{matrix_of}
use Rattle.codes.specs.Label.{among, labelled}
use Rattle.setting.specs.Agreement.{depths_served, agree}
use Rattle.setting.specs.declared.Setting.{Setting}
use Rattle.plan.specs.Conversion.{convert}
use Rattle.setting.specs.declared.Way.{Way}
use Rattle.setting.specs.declared.Way.TheVariants.{Forward, Reverse}
use Rattle.admit.specs.Rules.{call_admission}
use Rattle.corkplover.specs.Answers.{pixel_answer}
use Rattle.corkplover.specs.Meaning.{meaning_of_pixel}
use Rattle.promises.specs.Pixels.{samples_of}

-- a setting by its matrix, the depths of RGB, Y and C, and whether RGB and YCbCr are full; primaries and transfer are 1, and it is read by the
-- published edition
abbrev pub with : ℕ → ℕ → ℕ → ℕ → Bool → Bool → Setting
with m r y c rf yf =
    record
    { primaries = 1; transfer = 1; matrix = m; rgb_depth = r; y_depth = y; c_depth = c; rgb_full = rf; ycc_full = yf; edition = 3 }

abbrev pub pixel : ℕ → ℕ → ℕ → Pixel
pixel a b c = record { p0 = a; p1 = b; p2 = c }

-- a row of the table: a conversion, and the pixel that it gives
pub record Row : Type 0 where
  pub way : Way
  pub setting : Setting
  pub from : Pixel
  pub to : Pixel

abbrev row : Way → Setting → Pixel → Pixel → Row
row w s p q = record { way = w; setting = s; from = p; to = q }

abbrev pub rows : List Row
rows =
    row Forward (with 8 8 8 9 true true) (pixel 255 0 0) (pixel 63 129 511)
    ∷ row Forward (with 8 8 8 9 true true) (pixel 0 255 0) (pixel 127 511 256)
    ∷ row Forward (with 8 8 8 9 true true) (pixel 0 0 255) (pixel 63 129 1)
    ∷ row Reverse (with 8 8 8 9 true true) (pixel 63 129 511) (pixel 255 0 0)
    ∷ row Forward (with 16 8 10 10 true true) (pixel 255 0 0) (pixel 63 385 767)
    ∷ row Forward (with 8 8 8 8 true true) (pixel 0 255 0) (pixel 128 255 128)
    ∷ row Reverse (with 8 8 8 8 true true) (pixel 128 255 128) (pixel 1 255 1)
    ∷ row Forward (with 1 8 8 8 true true) (pixel 0 0 255) (pixel 18 255 116)
    ∷ row Reverse (with 1 8 8 8 true true) (pixel 18 255 116) (pixel 0 0 254)
    ∷ row Forward (with 1 8 8 8 true false) (pixel 0 0 255) (pixel 32 240 118)
    ∷ row Forward (with 1 10 8 8 false false) (pixel 1023 1023 1023) (pixel 255 128 128)
    ∷ row Forward (with 9 8 8 8 true true) (pixel 128 128 128) (pixel 128 128 128)
    ∷ []

-- what the box answers to each row, and what each row says: no refusal, and the samples
abbrev pub answered : List Row → List (List ℕ)
answered [] = []
answered (r ∷ rs) = let m = meaning_of_pixel (pixel_answer r.way r.setting r.from) in (m.number ∷ m.samples) ∷ answered rs

abbrev pub said : List Row → List (List ℕ)
said [] = []
said (r ∷ rs) = (0 ∷ samples_of r.to) ∷ said rs

pub marked : answered rows ≡ said rows
unfolding pixel_answer call_admission first matrix_of labelled among depths_served agree are_depths is_depth at_most bad_sample first_place place_in_row place_if first_of or_found convert lossy_forward lossy_reverse lossless_forward lossless_reverse levels_forward levels_reverse luma_matrix half round clip sample
marked = refl
