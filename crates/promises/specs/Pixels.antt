-- What is promised of a call on one pixel or on one sample, by what its answer means. An answer whose number is 0 is no refusal.
use Rattle.std.specs.Prelude.{◌≡◌, true, false, List, [], ◌∷◌, ◌↔◌, ℕ, Float, pos, ◌-ℤ◌}
use Rattle.sample.specs.declared.Pixel.{Pixel}
use Rattle.sample.specs.declared.Side.TheVariants.{Ycc}
use Rattle.setting.specs.Call.{input_of}
use Rattle.setting.specs.Rules.{served}
use Rattle.setting.specs.declared.Call.TheVariants as call
use Rattle.setting.specs.declared.Setting.{Setting}
use Rattle.setting.specs.declared.Way.{Way}
use Rattle.setting.specs.declared.admission.Served.{Served}
use Rattle.meter.specs.Level.{scale_of, nearest_to}
use Rattle.meter.specs.declared.SampleKind.{SampleKind}
use Rattle.meter.specs.declared.SampleKind.TheVariants as kind
use Rattle.plan.specs.Conversion.{convert}
use Rattle.plan.specs.Source.{HasSource}
use Rattle.admit.specs.Rules.{pixel_rules, sample_rules}
use Rattle.corkplover.specs.Meaning.{Meaning}
use Rattle.promises.specs.Refusing.{Refuses, BadPixel, BadSampleOf}

-- the samples of a pixel, by plane
abbrev pub samples_of : Pixel → List ℕ
samples_of p = p.p0 ∷ p.p1 ∷ p.p2 ∷ []

-- a conversion either way: rules 1 to 7 and 10, and else the samples that the formulas give
pub record ConvertsPixel (w : Way) (s : Setting) (p : Pixel) (m : Meaning) : Type 0 where
  pub refuses : Refuses (pixel_rules (call.Convert w) s p) (BadPixel (input_of w) s p) m
  pub converts : m.number ≡ 0 → m.samples ≡ samples_of (convert w (served s) p)

-- the source check: rules 1 to 7, 11 and 10, and else yes exactly if some RGB pixel within depth converts to this one
pub record ChecksPixel (s : Setting) (p : Pixel) (m : Meaning) : Type 0 where
  pub refuses : Refuses (pixel_rules call.ImageCheck s p) (BadPixel Ycc s p) m
  pub yes : m.number ≡ 0 → (m.source ≡ true ∷ []) ↔ HasSource (served s) p
  pub none : m.number ≡ 0 → (m.source ≡ false ∷ []) ↔ (HasSource (served s) p → ⊥)

-- the float nearest to the fraction that a sample stands for
abbrev pub nearest_level : SampleKind → Served → ℕ → Float
nearest_level k x v =
    let c = scale_of k x.ycc_full x.depths.luma x.depths.chroma in
    nearest_to (pos v -ℤ pos c.plus) c.times

-- the meter on one sample, which alone is looked at, and on a pixel: rules 1 to 7, 11 and 10, and else levels rounded once
pub record ReadsSample (k : SampleKind) (s : Setting) (v : ℕ) (m : Meaning) : Type 0 where
  pub refuses : Refuses (sample_rules k s v) (BadSampleOf k s v) m
  pub reads : m.number ≡ 0 → m.levels ≡ nearest_level k (served s) v ∷ []

pub record ReadsPixel (s : Setting) (p : Pixel) (m : Meaning) : Type 0 where
  pub refuses : Refuses (pixel_rules call.Meter s p) (BadPixel Ycc s p) m
  pub reads : m.number ≡ 0
      → m.levels ≡ nearest_level kind.Y (served s) p.p0 ∷ nearest_level kind.Cb (served s) p.p1 ∷ nearest_level kind.Cr (served s) p.p2 ∷ []
