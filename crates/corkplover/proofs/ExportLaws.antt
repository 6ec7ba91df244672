-- The exports of the other calls: a setting and a pixel come in as single numbers, and an answer goes out packed. Each law follows what a
-- call's numbers were found to be, one after the other, so that no export has to look for the way itself.
use Rattle.std.specs.Prelude.{Result, Option}
use mathlib.Core.Path.{◌≡◌, ap, ◌∙◌}
use mathlib.Core.List.{List}
use Prim.Native.Nat.{ℕ}
use lib.Ieee.{Float}
use Rattle.sample.specs.declared.Pixel.{Pixel}
use Rattle.setting.specs.declared.Setting.{Setting}
use Rattle.setting.specs.declared.Way.{Way}
use Rattle.meter.specs.declared.PixelLevels.{PixelLevels}
use Rattle.meter.specs.declared.SampleKind.{SampleKind}
use Rattle.planes.specs.Picture.{Picture}
use Rattle.rows.specs.Paint.{input_picture, output_picture}
use Rattle.rows.specs.declared.paint.Size.{Size}
use Rattle.image_check.specs.Image.{image_answer}
use Rattle.judge.specs.Judge.{judgement}
use Rattle.corkplover.specs.After.{ReadingAfter, LevelsAfter, JudgementAfter}
use Rattle.corkplover.specs.Answers.{pixel_answer, reading, levels_answer}
use Rattle.corkplover.specs.Packing.{packed_pixel, packed_reading, level_in, packed_levels, levels_in, y_in, cb_in, cr_in, packed_image, packed_judgement, wrong_in}
use Rattle.refusal.specs.declared.Refusal.{Refusal}
use Rattle.refusal.specs.declared.Place.{Place}
use Rattle.judge.specs.declared.Difference.{Difference}

pub pixel_exported : (w : Way) {s t : Setting} {p q : Pixel} {a : Result Pixel Refusal} {x : ℕ} → s ≡ t → p ≡ q → a ≡ pixel_answer w s p → x ≡ packed_pixel a
    → x ≡ packed_pixel (pixel_answer w t q)
pixel_exported w e f g h = h ∙ ap packed_pixel (g ∙ (λ i. pixel_answer w (e i) (f i)))

pub reading_exported : (k : SampleKind) (v : ℕ) {s t : Setting} {a : Result Float Refusal} {x : ℕ} {level : Float} → s ≡ t → a ≡ reading k s v
    → level ≡ level_in a → x ≡ packed_reading a → ReadingAfter k t v x level
reading_exported k v {s} {t} {a} e f g h =
    let answers : a ≡ reading k t v = f ∙ ap (λ z. reading k z v) e in
    (h ∙ ap packed_reading answers, g ∙ ap level_in answers)

pub levels_exported : {s t : Setting} {p q : Pixel} {a : Result PixelLevels Refusal} {l : PixelLevels} {x : ℕ} → s ≡ t → p ≡ q → a ≡ levels_answer s p
    → l ≡ levels_in a → x ≡ packed_levels a → LevelsAfter t q x l.y l.cb l.cr
levels_exported {s} {t} {p} {q} {a} e f g h k =
    let answers : a ≡ levels_answer t q = g ∙ (λ i. levels_answer (e i) (f i)) in
    (k ∙ ap packed_levels answers, (ap (λ z. z.y) h ∙ ap y_in answers, (ap (λ z. z.cb) h ∙ ap cb_in answers, ap (λ z. z.cr) h ∙ ap cr_in answers)))

pub image_exported : (a : Picture) {s t : Setting} {r : Result (Option Place) Refusal} {x : ℕ} → s ≡ t → r ≡ image_answer s a → x ≡ packed_image r → x ≡ packed_image (image_answer t a)
image_exported a e f g = g ∙ ap packed_image (f ∙ ap (λ z. image_answer z a) e)

pub judgement_exported : (w : Way) (a0 a1 a2 b0 b1 b2 : List ℕ) {s t : Setting} {z u : Size} {r : Result (Option Difference) Refusal} {n x : ℕ} → s ≡ t → z ≡ u
    → r ≡ judgement w s (input_picture z a0 a1 a2) (output_picture z b0 b1 b2) → n ≡ wrong_in r → x ≡ packed_judgement r
    → JudgementAfter w t u a0 a1 a2 b0 b1 b2 x n
judgement_exported w a0 a1 a2 b0 b1 b2 {s} {t} {z} {u} {r} e f g h k =
    let answers : r ≡ judgement w t (input_picture u a0 a1 a2) (output_picture u b0 b1 b2) =
    g ∙ (λ i. judgement w (e i) (input_picture (f i) a0 a1 a2) (output_picture (f i) b0 b1 b2)) in
    (k ∙ ap packed_judgement answers, h ∙ ap wrong_in answers)
