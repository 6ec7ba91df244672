-- Wrong boxes of the luma matrices, each written out with its slip as a parameter and computed at a marked row where the slip shows. Without
-- the slip the same lines give the row.
use mathlib.Core.Path.{◌≡◌, refl, sym, ap, ◌∙◌}
use mathlib.Core.Bool.{true, false}
use mathlib.Core.List.{[]}
use Prim.Native.Nat.{ℕ, ◌-◌, min}
use native.Mathlib.Omega.{arith}
use lib.IntN.{pos}
use lib.ListN.{get_or}
use Rattle.rounding.specs.Rounding.{round, clip}
use Rattle.fraction.specs.Fraction.{Frac, ◌⊖◌, ◌⊗◌, ◌÷◌, part, whole, Round}
use Rattle.sample.specs.Depth.{rgb_depth, luma_depth}
use Rattle.sample.specs.declared.Pixel.{Pixel}
use Rattle.scale.specs.Scale.{rgb_scale, level, written_luma}
use Rattle.levels.specs.Conversion.{Formula, to_ycc}
use Rattle.levels.specs.Equations.{weights}
use Rattle.levels.specs.Paper.{EY, KB, KR}
use Rattle.setting.specs.Ready.{level_setting}
use Rattle.setting.specs.Rules.{served}
use Rattle.setting.specs.declared.Setting.{Setting}
use Rattle.setting.specs.declared.Way.TheVariants.{Forward}
use Rattle.corkplover.specs.Answers.{pixel_answer}
use Rattle.corkplover.specs.Meaning.{meaning_of_pixel}
use Rattle.promises.specs.Pixels.{samples_of}
use Rattle.promises.proofs.Marked.{with, pixel, marked}

-- (42) by the weights of code 1
abbrev luma : Formula
luma = EY (weights 2126 722)

-- ---- EY rounded to a sample before EB - EY and ER - EY are taken of it

-- full range at 8 bits, blue
abbrev full : Setting
full = with 1 8 8 8 true true

abbrev chroma_from : Formula → Pixel → Pixel
chroma_from ey p =
    to_ycc (level_setting (served full)) luma (λ er eg eb. (eb ⊖ ey er eg eb) ÷ (whole 2 ⊗ (whole 1 ⊖ KB (weights 2126 722))))
    (λ er eg eb. (er ⊖ ey er eg eb) ÷ (whole 2 ⊗ (whole 1 ⊖ KR (weights 2126 722)))) p

abbrev rounded : Formula
rounded er eg eb = part (Round (whole 255 ⊗ luma er eg eb)) 255

pub chroma_from_luma : chroma_from luma (pixel 0 0 255) ≡ pixel 18 255 116
unfolding round clip
chroma_from_luma = refl

pub chroma_from_rounded : chroma_from rounded (pixel 0 0 255) ≡ pixel 18 255 117
unfolding round clip
chroma_from_rounded = refl

pub luma_rounded_first : (meaning_of_pixel (pixel_answer Forward full (pixel 0 0 255))).samples ≡ samples_of (chroma_from rounded (pixel 0 0 255)) → ⊥
luma_rounded_first e =
    let row = ap (λ l. get_or (get_or l 7 []) 3 0) marked in
    let q = sym row ∙ ap (λ l. get_or l 2 0) (e ∙ ap samples_of chroma_from_rounded) in
    omega arith

-- ---- levels brought into 0..1 on the way

-- narrow range, 10 bits to 8, the largest sample, which is above white
abbrev narrow : Setting
narrow = with 1 10 8 8 false false

abbrev luma_by : (ℕ → Frac) → ℕ → ℕ
luma_by lev v = written_luma false (luma_depth 8) (luma (lev v) (lev v) (lev v))

abbrev clipped : ℕ → Frac
clipped v = let c = rgb_scale false (rgb_depth 10) in part (pos (min (v - c.plus) c.times)) c.times

pub luma_by_levels : luma_by (level (rgb_scale false (rgb_depth 10))) 1023 ≡ 255
unfolding round clip
luma_by_levels = refl

pub luma_by_clipped : luma_by clipped 1023 ≡ 235
unfolding round clip
luma_by_clipped = refl

pub levels_clipped : get_or (meaning_of_pixel (pixel_answer Forward narrow (pixel 1023 1023 1023))).samples 0 0 ≡ luma_by clipped 1023 → ⊥
levels_clipped e =
    let row = ap (λ l. get_or (get_or l 10 []) 1 0) marked in
    let q = sym row ∙ e ∙ luma_by_clipped in
    omega arith
