-- Wrong boxes that mistake an edition, each at a setting or a code where it gives itself away.
use mathlib.Core.Path.{◌≡◌, refl}
use mathlib.Core.Bool.{true}
use mathlib.Core.List.{List, [], ◌∷◌}
use Prim.Native.Nat.{ℕ}
use Rattle.rounding.specs.Rounding.{half, sample}
use Rattle.sample.specs.Depth.{is_depth, are_depths, at_most}
use Rattle.refusal.specs.Rules.{first, numbered}
use Rattle.scan.specs.First.{or_found, first_of, place_if, place_in_row, first_place, bad_sample}
use Rattle.ycgco.specs.YCgCo.{lossless_forward}
use Rattle.codes.specs.Matrix.{matrix_of}
use Rattle.codes.specs.Label.{among, labelled}
use Rattle.codes.specs.declared.label.CodeKind.TheVariants.{Matrix}
use Rattle.setting.specs.Agreement.{depths_served, agree}
use Rattle.setting.specs.Edition.{in_edition}
use Rattle.setting.specs.declared.Setting.{Setting}
use Rattle.setting.specs.declared.Way.TheVariants.{Forward}
use Rattle.plan.specs.Conversion.{convert}
use Rattle.admit.specs.Rules.{call_admission}
use Rattle.corkplover.specs.Answers.{label_answer, pixel_answer}
use Rattle.corkplover.specs.Meaning.{meaning_refusal, meaning_of_pixel}
use Rattle.corkplover.specs.Packing.{packed_label}
use Rattle.promises.proofs.Marked.{with, pixel}

-- red, forward in each of some editions: the number and the samples of the answer
abbrev red : Setting → List ℕ → List (List ℕ)
red s [] = []
red s (n ∷ ns) = let m = meaning_of_pixel (pixel_answer Forward (in_edition n s) (pixel 255 0 0)) in (m.number ∷ m.samples) ∷ red s ns

-- a matrix of every edition in 0 to 4 and 255: no edition is guessed, and no end is one off
pub edition_edges : red (with 8 8 8 9 true true) (0 ∷ 1 ∷ 2 ∷ 3 ∷ 4 ∷ 255 ∷ [])
    ≡ (12 ∷ []) ∷ (0 ∷ 63 ∷ 129 ∷ 511 ∷ []) ∷ (0 ∷ 63 ∷ 129 ∷ 511 ∷ []) ∷ (0 ∷ 63 ∷ 129 ∷ 511 ∷ []) ∷ (12 ∷ []) ∷ (12 ∷ []) ∷ []
unfolding pixel_answer call_admission first matrix_of labelled among depths_served agree are_depths is_depth at_most bad_sample first_place place_in_row place_if first_of or_found convert lossless_forward half sample
edition_edges = refl

-- each edition's table, and no other's: the draft's 15 and 16, with the bits that they ask for, in 1 to 3
pub own_15 : red (with 15 8 10 10 true true) (1 ∷ 2 ∷ 3 ∷ []) ≡ (1 ∷ []) ∷ (0 ∷ 63 ∷ 385 ∷ 767 ∷ []) ∷ (3 ∷ []) ∷ []
unfolding pixel_answer call_admission first matrix_of labelled among depths_served agree are_depths is_depth at_most bad_sample first_place place_in_row place_if first_of or_found convert lossless_forward half sample
own_15 = refl

pub own_16 : red (with 16 8 9 9 true true) (1 ∷ 2 ∷ 3 ∷ []) ≡ (1 ∷ []) ∷ (0 ∷ 63 ∷ 129 ∷ 511 ∷ []) ∷ (7 ∷ []) ∷ []
unfolding pixel_answer call_admission first matrix_of labelled among depths_served agree are_depths is_depth at_most bad_sample first_place place_in_row place_if first_of or_found convert lossless_forward half sample
own_16 = refl

-- an edition that is none is refused before anything else: here the matrix is reserved, the depths are none, and the sample is beyond them
pub edition_first : meaning_of_pixel (pixel_answer Forward (in_edition 0 (with 3 99 99 99 true true)) (pixel 256 0 0)) ≡ meaning_refusal (numbered 12)
unfolding pixel_answer call_admission first
edition_first = refl

-- labels of matrices on both sides of each edition's end
abbrev labels : ℕ → List ℕ → List ℕ
labels n [] = []
labels n (code ∷ codes) = packed_label (label_answer Matrix n code) ∷ labels n codes

abbrev codes : List ℕ
codes = 14 ∷ 15 ∷ 16 ∷ 17 ∷ 18 ∷ 255 ∷ []

pub label_edges : labels 0 codes ∷ labels 1 codes ∷ labels 2 codes ∷ labels 3 codes ∷ labels 4 codes ∷ []
    ≡ (12 ∷ 12 ∷ 12 ∷ 12 ∷ 12 ∷ 12 ∷ []) ∷ (0 ∷ 2 ∷ 2 ∷ 2 ∷ 2 ∷ 2 ∷ []) ∷ (0 ∷ 0 ∷ 0 ∷ 2 ∷ 2 ∷ 2 ∷ []) ∷ (0 ∷ 0 ∷ 0 ∷ 0 ∷ 2 ∷ 2 ∷ []) ∷ (12 ∷ 12 ∷ 12 ∷ 12 ∷ 12 ∷ 12 ∷ []) ∷ []
unfolding label_answer matrix_of
label_edges = refl
