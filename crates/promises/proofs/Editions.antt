-- One call on the same codes, depths and flags in two editions: if neither refuses, both are served alike and so give the same. Which of the two is
-- the older plays no part.
use Rattle.std.specs.Prelude.{Result, Ok, Option}
use mathlib.Core.Path.{◌≡◌, sym, ap, ◌∙◌}
use mathlib.Core.List.{List, []}
use mathlib.Core.Logic.{◌⊎◌, inl, inr, ⊎_elim}
use Prim.Native.Nat.{ℕ}
use native.Mathlib.Decide.{ℕ_discrete}
use Rattle.sample.specs.declared.Pixel.{Pixel}
use Rattle.refusal.specs.Rules.{Rule}
use Rattle.refusal.specs.declared.Place.{Place}
use Rattle.setting.specs.Edition.{in_edition}
use Rattle.setting.specs.declared.Call.{Call}
use Rattle.setting.specs.declared.Call.TheVariants as call
use Rattle.setting.specs.declared.Setting.{Setting}
use Rattle.setting.specs.declared.Way.{Way}
use Rattle.setting.proofs.EditionLaws.{same_served}
use Rattle.meter.specs.declared.SampleKind.{SampleKind}
use Rattle.planes.specs.Picture.{Picture}
use Rattle.planes.specs.declared.size.Layout.{Layout}
use Rattle.admit.specs.Rules.{call_rules, call_admission}
use Rattle.frame.specs.Frame.{frame_by, frame_answer, plane_by, length_of, out_plane}
use Rattle.image_check.specs.Image.{image_by, image_answer}
use Rattle.judge.specs.Judge.{judge_by, judgement}
use Rattle.corkplover.specs.Answers.{converted_by, pixel_answer, source_by, source_answer, read_by, reading, levels_read_by, levels_answer}
use Rattle.corkplover.specs.Meaning.{Meaning, meaning_of_pixel, meaning_of_source, meaning_of_reading, meaning_of_levels, meaning_of_frame, meaning_of_image, meaning_of_judgement}
use Rattle.promises.specs.Editions.{SameOrRefused, SamePlanesOrRefused}
use Rattle.promises.specs.Refusing.{Refuses}
use Rattle.promises.proofs.Refusing.{none_admitted, none_accepted, pixel_refuses, source_refuses, reading_refuses, levels_refuses, frame_refuses, image_refuses, judgement_refuses}
use Rattle.refusal.specs.declared.Refusal.{Refusal}
use Rattle.setting.specs.declared.admission.Served.{Served}

-- ---- of any call: who is let in by both editions is let in as the same

module _ (say : Result Served Refusal → Meaning) (c : Call) (s : Setting) (n : ℕ) (sizes : List Rule) (bad : Option (Place × ℕ)) (Is Is' : Place → ℕ → Type 0)
    (refuses : Refuses (call_rules c s sizes bad) Is (say (call_admission c s sizes bad)))
    (refuses' : Refuses (call_rules c (in_edition n s) sizes bad) Is' (say (call_admission c (in_edition n s) sizes bad)))
  where
    abbrev one : Result Served Refusal
    one = call_admission c s sizes bad

    abbrev other : Result Served Refusal
    other = call_admission c (in_edition n s) sizes bad

    both_admitted : (say one).number ≡ 0 → (say other).number ≡ 0 → other ≡ one
    both_admitted e f =
        let none = refuses.exactly.accepted e in
        let none' = refuses'.exactly.accepted f in
        let same = same_served c s n (none_accepted c s sizes bad none).setting (none_accepted c (in_edition n s) sizes bad none').setting in
        none_admitted c (in_edition n s) sizes bad none' ∙ ap Ok same ∙ sym (none_admitted c s sizes bad none)

    admitted_alike : (say one).number ≡ 0 → (other ≡ one) ⊎ ((say other).number ≡ 0 → ⊥)
    admitted_alike e = go (ℕ_discrete (say other).number 0)
      where
        go : Dec ((say other).number ≡ 0) → (other ≡ one) ⊎ ((say other).number ≡ 0 → ⊥)
        go (yes f) = inl (both_admitted e f)
        go (no f) = inr f

    same_or_refused : SameOrRefused (say one) (say other)
    same_or_refused e = ⊎_elim (λ f. inl (ap say f)) inr (admitted_alike e)

-- ---- each kind of call

pub pixel_in_editions : (w : Way) (s : Setting) (n : ℕ) (p : Pixel)
    → SameOrRefused (meaning_of_pixel (pixel_answer w s p)) (meaning_of_pixel (pixel_answer w (in_edition n s) p))
unfolding pixel_answer
pixel_in_editions w s n p =
    same_or_refused (λ v. meaning_of_pixel (converted_by w p v)) (call.Convert w) s n [] _ _ _ (pixel_refuses w s p) (pixel_refuses w (in_edition n s) p)

pub source_in_editions : (s : Setting) (n : ℕ) (p : Pixel)
    → SameOrRefused (meaning_of_source (source_answer s p)) (meaning_of_source (source_answer (in_edition n s) p))
unfolding source_answer
source_in_editions s n p =
    same_or_refused (λ v. meaning_of_source (source_by p v)) call.ImageCheck s n [] _ _ _ (source_refuses s p) (source_refuses (in_edition n s) p)

pub reading_in_editions : (k : SampleKind) (s : Setting) (n v : ℕ)
    → SameOrRefused (meaning_of_reading (reading k s v)) (meaning_of_reading (reading k (in_edition n s) v))
unfolding reading
reading_in_editions k s n v =
    same_or_refused (λ d. meaning_of_reading (read_by k v d)) call.Meter s n [] _ _ _ (reading_refuses k s v) (reading_refuses k (in_edition n s) v)

pub levels_in_editions : (s : Setting) (n : ℕ) (p : Pixel)
    → SameOrRefused (meaning_of_levels (levels_answer s p)) (meaning_of_levels (levels_answer (in_edition n s) p))
unfolding levels_answer
levels_in_editions s n p =
    same_or_refused (λ v. meaning_of_levels (levels_read_by p v)) call.Meter s n [] _ _ _ (levels_refuses s p) (levels_refuses (in_edition n s) p)

pub image_in_editions : (s : Setting) (n : ℕ) (a : Picture)
    → SameOrRefused (meaning_of_image (image_answer s a)) (meaning_of_image (image_answer (in_edition n s) a))
unfolding image_answer
image_in_editions s n a =
    same_or_refused (λ v. meaning_of_image (image_by v a)) call.ImageCheck s n _ _ _ _ (image_refuses s a) (image_refuses (in_edition n s) a)

-- a frame, with what is in its three planes afterwards
pub frame_in_editions : (w : Way) (s : Setting) (n : ℕ) (a : Picture) (b : Layout)
    → let t = in_edition n s in
    SamePlanesOrRefused (meaning_of_frame (frame_answer w s a b)) (out_plane 0 w s a b) (out_plane 1 w s a b) (out_plane 2 w s a b)
    (meaning_of_frame (frame_answer w t a b)) (out_plane 0 w t a b) (out_plane 1 w t a b) (out_plane 2 w t a b)
unfolding frame_answer out_plane
frame_in_editions w s n a b e =
    let plane : ℕ → Result Served Refusal → List ℕ = λ k v. plane_by v k w a b.stride (length_of k b) in
    ⊎_elim (λ f. inl (ap (λ v. meaning_of_frame (frame_by v)) f, (ap (plane 0) f, (ap (plane 1) f, ap (plane 2) f)))) inr
    (admitted_alike (λ v. meaning_of_frame (frame_by v)) (call.Convert w) s n _ _ _ _ (frame_refuses w s a b) (frame_refuses w (in_edition n s) a b) e)

pub judgement_in_editions : (w : Way) (s : Setting) (n : ℕ) (a b : Picture)
    → SameOrRefused (meaning_of_judgement (judgement w s a b)) (meaning_of_judgement (judgement w (in_edition n s) a b))
unfolding judgement
judgement_in_editions w s n a b =
    same_or_refused (λ v. meaning_of_judgement (judge_by v w a b)) (call.Convert w) s n _ _ _ _ (judgement_refuses w s a b) (judgement_refuses w (in_edition n s) a b)
