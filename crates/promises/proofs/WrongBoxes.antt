-- Wrong boxes that no contract allows, each at a pixel or a code where it gives itself away.
use mathlib.Core.Path.{◌≡◌, refl, sym, ap, ◌∙◌}
use mathlib.Core.Bool.{true, false}
use mathlib.Core.List.{List, [], ◌∷◌}
use Prim.Native.Nat.{ℕ}
use native.Mathlib.Omega.{arith}
use lib.ListN.{get_or}
use Rattle.codes.specs.Matrix.{matrix_of}
use Rattle.codes.specs.Label.{among, labelled, label_number, primaries_label, transfer_label, matrix_label}
use Rattle.codes.specs.declared.edition.Edition.TheVariants.{Published}
use Rattle.setting.specs.declared.Setting.{Setting}
use Rattle.setting.specs.declared.Way.TheVariants.{Forward, Reverse}
use Rattle.corkplover.specs.Answers.{pixel_answer, source_answer}
use Rattle.admit.specs.Rules.{call_admission}
use Rattle.rounding.specs.Rounding.{half, clip, sample}
use Rattle.sample.specs.Depth.{is_depth, are_depths, at_most}
use Rattle.refusal.specs.Rules.{first, numbered}
use Rattle.scan.specs.First.{or_found, first_of, place_if, place_in_row, first_place, bad_sample}
use Rattle.ycgco.specs.YCgCo.{lossless_forward, lossless_reverse}
use Rattle.setting.specs.Agreement.{depths_served, agree}
use Rattle.plan.specs.Conversion.{convert}
use Rattle.plan.specs.Source.{has_source}
use Rattle.corkplover.specs.Meaning.{Meaning, meaning_refusal, meaning_of_pixel, meaning_of_source}
use Rattle.promises.proofs.Marked.{with, pixel, rows, answered, said, marked}

-- labels at codes on both sides of each end: no constant answer, and no end one off
abbrev labels : (ℕ → ℕ) → List ℕ → List ℕ
labels f [] = []
labels f (n ∷ ns) = f n ∷ labels f ns

pub primaries_edges : labels (λ n. label_number (primaries_label n)) (0 ∷ 1 ∷ 2 ∷ 3 ∷ 4 ∷ 12 ∷ 13 ∷ 21 ∷ 22 ∷ 23 ∷ 255 ∷ []) ≡ 2 ∷ 0 ∷ 1 ∷ 2 ∷ 0 ∷ 0 ∷ 2 ∷ 2 ∷ 0 ∷ 2 ∷ 2 ∷ []
unfolding labelled among
primaries_edges = refl

pub transfer_edges : labels (λ n. label_number (transfer_label n)) (0 ∷ 1 ∷ 2 ∷ 3 ∷ 4 ∷ 18 ∷ 19 ∷ 255 ∷ []) ≡ 2 ∷ 0 ∷ 1 ∷ 2 ∷ 0 ∷ 0 ∷ 2 ∷ 2 ∷ []
unfolding labelled among
transfer_edges = refl

pub matrix_edges : labels (λ n. label_number (matrix_label Published n)) (0 ∷ 1 ∷ 2 ∷ 3 ∷ 4 ∷ 15 ∷ 17 ∷ 18 ∷ 255 ∷ []) ≡ 0 ∷ 0 ∷ 1 ∷ 2 ∷ 0 ∷ 0 ∷ 0 ∷ 2 ∷ 2 ∷ []
unfolding matrix_of
matrix_edges = refl

-- what the box answers to red, to green, and to red back, lossless at 8 bits: rows 0, 1 and 3 of the table
at : (row n : ℕ) → get_or (get_or (answered rows) row []) n 0 ≡ get_or (get_or (said rows) row []) n 0
at row n = ap (λ l. get_or (get_or l row []) n 0) marked

abbrev red : Meaning
red = meaning_of_pixel (pixel_answer Forward (with 8 8 8 9 true true) (pixel 255 0 0))

abbrev green : Meaning
green = meaning_of_pixel (pixel_answer Forward (with 8 8 8 9 true true) (pixel 0 255 0))

abbrev back : Meaning
back = meaning_of_pixel (pixel_answer Reverse (with 8 8 8 9 true true) (pixel 63 129 511))

-- a box that refuses everything
pub refuses_everything : (red.number ≡ 0 → ⊥) → ⊥
refuses_everything e = e (at 0 0)

pub reverse_refuses_everything : (back.number ≡ 0 → ⊥) → ⊥
reverse_refuses_everything e = e (at 3 0)

-- planes copied straight through
pub copies : red.samples ≡ 255 ∷ 0 ∷ 0 ∷ [] → ⊥
copies e = let q = sym (ap (λ l. get_or l 0 0) e) ∙ at 0 1 in omega arith

pub reverse_copies : back.samples ≡ 63 ∷ 129 ∷ 511 ∷ [] → ⊥
reverse_copies e = let q = sym (ap (λ l. get_or l 0 0) e) ∙ at 3 1 in omega arith

-- one fixed colour
pub fixed_colour : red.samples ≡ green.samples → ⊥
fixed_colour e = let q = sym (at 0 1) ∙ ap (λ l. get_or l 0 0) e ∙ at 1 1 in omega arith

-- reserved primaries refused before a matrix that is known and not served, and a depth before a matrix that is reserved
abbrev unlabelled : ℕ → ℕ → Setting
unlabelled m d =
    record
    { primaries = 3; transfer = 3; matrix = m; rgb_depth = d; y_depth = d; c_depth = d; rgb_full = true; ycc_full = false; edition = 3 }

pub unserved_first : meaning_of_pixel (pixel_answer Forward (unlabelled 10 8) (pixel 256 0 0)) ≡ meaning_refusal (numbered 3)
unfolding pixel_answer call_admission first matrix_of
unserved_first = refl

pub reserved_first : meaning_of_pixel (pixel_answer Forward (unlabelled 3 99) (pixel 256 0 0)) ≡ meaning_refusal (numbered 1)
unfolding pixel_answer call_admission first matrix_of
reserved_first = refl

-- reserved primaries come before a reserved transfer
pub primaries_first : meaning_of_pixel (pixel_answer Forward (unlabelled 1 99) (pixel 256 0 0)) ≡ meaning_refusal (numbered 4)
unfolding pixel_answer call_admission first matrix_of labelled among
primaries_first = refl

-- a source check that always says yes, or never: the red pixel has a source, the other would need a negative blue
pub red_has_source : (meaning_of_source (source_answer (with 8 8 8 9 true true) (pixel 63 129 511))).source ≡ true ∷ []
unfolding source_answer call_admission first matrix_of labelled among depths_served agree are_depths is_depth at_most bad_sample first_place place_in_row place_if first_of or_found has_source convert lossless_forward lossless_reverse half clip sample
red_has_source = refl

pub none_has_source : (meaning_of_source (source_answer (with 8 8 8 9 true true) (pixel 0 256 511))).source ≡ false ∷ []
unfolding source_answer call_admission first matrix_of labelled among depths_served agree are_depths is_depth at_most bad_sample first_place place_in_row place_if first_of or_found has_source convert lossless_forward lossless_reverse half clip sample
none_has_source = refl
