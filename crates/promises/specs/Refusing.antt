-- Demand 1 on refusals: each is given exactly if its rule says, a 10 names the first bad sample by its place and its number, and no refusal
-- gives anything else.
use Rattle.std.specs.Prelude.{◌≡◌, List, [], ◌∷◌, ℕ, ◌^◌, ◌≤◌}
use Rattle.refusal.specs.Rules.{Rule, FirstIs, NoneApplies, nowhere}
use Rattle.refusal.specs.declared.Place.{Place}
use Rattle.refusal.specs.declared.Refusal.{Refusal}
use Rattle.sample.specs.Depth.{plane_depth, tops}
use Rattle.sample.specs.declared.Pixel.{Pixel}
use Rattle.sample.specs.declared.Side.{Side}
use Rattle.sample.specs.declared.Side.TheVariants.{Ycc}
use Rattle.setting.specs.Rules.{depths}
use Rattle.setting.specs.declared.Setting.{Setting}
use Rattle.meter.specs.Level.{plane_number}
use Rattle.meter.specs.declared.SampleKind.{SampleKind}
use Rattle.scan.specs.First.{sample_on, IsBadSample, IsFirstBad}
use Rattle.planes.specs.Picture.{Picture}
use Rattle.admit.specs.Rules.{pixel_picture, top_of}
use Rattle.corkplover.specs.Meaning.{Meaning, meaning_refusal}

-- what an answer means, held to a list of rules
pub record RefusedBy (m : Meaning) (rules : List Rule) : Type 0 where
  pub refusal : Refusal
  pub is_first : FirstIs refusal rules
  pub is : m ≡ meaning_refusal refusal

pub record Exactly (m : Meaning) (rules : List Rule) : Type 0 where
  pub given : (m.number ≡ 0 → ⊥) → RefusedBy m rules
  pub only : (x : Refusal) → FirstIs x rules → m ≡ meaning_refusal x
  pub accepted : m.number ≡ 0 → NoneApplies rules
  pub free : NoneApplies rules → m.number ≡ 0

-- no samples, no levels, no word on a source or on what is claimed, and nothing counted
abbrev pub GivesNothing : Meaning → Type 0
GivesNothing m = (m.samples ≡ []) × ((m.levels ≡ []) × ((m.source ≡ []) × ((m.agrees ≡ []) × (m.wrong ≡ 0))))

-- what an answer may say beside its number, where Bad tells a first bad sample by its place and its number
pub record NamesSample (Bad : Place → ℕ → Type 0) (m : Meaning) : Type 0 where
  pub ten : m.number ≡ 10 → Bad m.place m.bad
  pub not_ten : (m.number ≡ 10 → ⊥) → m.bad ≡ 0
  pub other : (m.number ≡ 0 → ⊥) → (m.number ≡ 10 → ⊥) → m.place ≡ nowhere
  pub alone : (m.number ≡ 0 → ⊥) → GivesNothing m

-- THE promise on the refusals of a call
pub record Refuses (rules : List Rule) (Bad : Place → ℕ → Type 0) (m : Meaning) : Type 0 where
  pub exactly : Exactly m rules
  pub names : NamesSample Bad m

-- a place that comes first, with the number v that stands there: it has more bits than the plane's depth
pub record Beyond (First : Place → Type 0) (stands : Place → ℕ) (side : Side) (s : Setting) (place : Place) (v : ℕ) : Type 0 where
  pub first_bad : First place
  pub as_found : v ≡ stands place
  pub beyond : 2 ^ plane_depth side (depths s) place.plane ≤ v

-- what rule 10 names: a bad sample of a picture, of a pixel of a side, or one sample by its kind
abbrev pub BadIn : Side → Setting → Picture → Place → ℕ → Type 0
BadIn side s a = Beyond (IsBadSample a (tops side (depths s))) (sample_on a) side s

abbrev pub BadPixel : Side → Setting → Pixel → Place → ℕ → Type 0
BadPixel side s p = BadIn side s (pixel_picture p)

abbrev pub BadSampleOf : SampleKind → Setting → ℕ → Place → ℕ → Type 0
BadSampleOf k s v = Beyond (IsFirstBad (v ∷ []) (plane_number k) 1 1 1 (top_of k (depths s))) (λ place. v) Ycc s
