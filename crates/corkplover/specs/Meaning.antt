-- What each case of an answer says in the rules' own terms: 0 or the refusal's number, a place, a bad sample, and what else there is. The same of the
-- number that a caller from another language is given, so that what is promised is said once for both.
use Rattle.std.specs.Prelude.{Bool, true, false, cond, List, [], ◌∷◌, ℕ, eqb, Float, Result, Ok, Err, Option, Some, None}
use Rattle.refusal.specs.Rules.{at, nowhere}
use Rattle.refusal.specs.declared.Place.{Place}
use Rattle.refusal.specs.declared.Refusal.{Refusal}
use Rattle.corkplover.specs.Packing.{number_in, second_in, first_in, middle_in, last_in}
use Rattle.judge.specs.declared.Difference.{Difference}
use Rattle.sample.specs.declared.Pixel.{Pixel}
use Rattle.meter.specs.declared.PixelLevels.{PixelLevels}

-- the place of a 10, of a pixel without a source or of a claimed one that is wrong, the bad sample of a 10, converted samples, levels, the word of a
-- source check, true for yes, and that of a judgement, true for agrees, with how many claimed pixels are wrong
pub record Meaning : Type 0 where
  pub number : ℕ
  pub place : Place
  pub bad : ℕ
  pub samples : List ℕ
  pub levels : List Float
  pub source : List Bool
  pub agrees : List Bool
  pub wrong : ℕ

abbrev pub meaning_refusal : Refusal → Meaning
meaning_refusal r = record { number = r.number; place = r.place; bad = r.sample; samples = []; levels = []; source = []; agrees = []; wrong = 0 }

-- of what was not refused
abbrev pub meaning_samples : List ℕ → Meaning
meaning_samples l = record { number = 0; place = nowhere; bad = 0; samples = l; levels = []; source = []; agrees = []; wrong = 0 }

abbrev pub meaning_levels : List Float → Meaning
meaning_levels l = record { number = 0; place = nowhere; bad = 0; samples = []; levels = l; source = []; agrees = []; wrong = 0 }

abbrev pub meaning_source : Bool → Place → Meaning
meaning_source word place = record { number = 0; place = place; bad = 0; samples = []; levels = []; source = word ∷ []; agrees = []; wrong = 0 }

abbrev pub meaning_judged : Bool → Place → ℕ → Meaning
meaning_judged word place n =
    record { number = 0; place = place; bad = 0; samples = []; levels = []; source = []; agrees = word ∷ []; wrong = n }

abbrev pub meaning_of_pixel : Result Pixel Refusal → Meaning
meaning_of_pixel (Ok p) = meaning_samples (p.p0 ∷ p.p1 ∷ p.p2 ∷ [])
meaning_of_pixel (Err r) = meaning_refusal r

abbrev pub meaning_of_source : Result Bool Refusal → Meaning
meaning_of_source (Ok found) = meaning_source found nowhere
meaning_of_source (Err r) = meaning_refusal r

abbrev pub meaning_of_reading : Result Float Refusal → Meaning
meaning_of_reading (Ok x) = meaning_levels (x ∷ [])
meaning_of_reading (Err r) = meaning_refusal r

abbrev pub meaning_of_levels : Result PixelLevels Refusal → Meaning
meaning_of_levels (Ok x) = meaning_levels (x.y ∷ x.cb ∷ x.cr ∷ [])
meaning_of_levels (Err r) = meaning_refusal r

-- a frame's samples are in its planes
abbrev pub meaning_done : Meaning
meaning_done = meaning_samples []

abbrev pub meaning_of_frame : Result Unit Refusal → Meaning
meaning_of_frame (Ok u) = meaning_done
meaning_of_frame (Err r) = meaning_refusal r

abbrev pub meaning_of_image : Result (Option Place) Refusal → Meaning
meaning_of_image (Ok None) = meaning_source true nowhere
meaning_of_image (Ok (Some place)) = meaning_source false place
meaning_of_image (Err r) = meaning_refusal r

abbrev pub meaning_of_judgement : Result (Option Difference) Refusal → Meaning
meaning_of_judgement (Ok None) = meaning_judged true nowhere 0
meaning_of_judgement (Ok (Some d)) = meaning_judged false d.first d.count
meaning_of_judgement (Err r) = meaning_refusal r

-- ---- the numbers that callers from other languages see, and what they find behind their pointers

abbrev pub refusal_in : ℕ → Refusal
refusal_in x = record { number = number_in x; place = at (second_in x) (first_in x) (middle_in x); sample = last_in x }

-- a refusal, or else what is given
abbrev pub meaning_unless : ℕ → Meaning → Meaning
meaning_unless x m = cond (eqb (number_in x) 0) m (meaning_refusal (refusal_in x))

abbrev pub meaning_in_pixel : ℕ → Meaning
meaning_in_pixel x = meaning_unless x (meaning_samples (first_in x ∷ middle_in x ∷ last_in x ∷ []))

abbrev pub meaning_in_reading : ℕ → Float → Meaning
meaning_in_reading x level = meaning_unless x (meaning_levels (level ∷ []))

abbrev pub meaning_in_levels : ℕ → Float → Float → Float → Meaning
meaning_in_levels x y cb cr = meaning_unless x (meaning_levels (y ∷ cb ∷ cr ∷ []))

abbrev pub meaning_in_frame : ℕ → Meaning
meaning_in_frame x = meaning_unless x meaning_done

-- bits 8 to 15 are 0 for a yes
abbrev pub meaning_in_image : ℕ → Meaning
meaning_in_image x = meaning_unless x (meaning_source (eqb (second_in x) 0) (at 0 (first_in x) (middle_in x)))

-- and for agrees
abbrev pub meaning_in_judgement : ℕ → ℕ → Meaning
meaning_in_judgement x n = meaning_unless x (meaning_judged (eqb (second_in x) 0) (at 0 (first_in x) (middle_in x)) n)
