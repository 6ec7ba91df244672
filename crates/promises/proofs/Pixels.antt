-- The promises on a pixel and on a sample hold of the box's answers.
use Rattle.std.specs.Prelude.{Ok, None}
use mathlib.Core.Path.{◌≡◌, refl, sym, ap, ◌∙◌}
use mathlib.Core.Bool.{Bool, true, false, true≢false}
use mathlib.Core.List.{List, [], ◌∷◌}
use mathlib.Core.Logic.{◌↔◌}
use Prim.Native.Nat.{ℕ, ◌≤◌}
use native.Mathlib.Omega.{arith}
use lib.ListN.{get_or}
use Rattle.sample.specs.Depth.{M, Depth, most_depth, InsideOf, InsideYCC}
use Rattle.sample.specs.declared.Depths.{Depths}
use Rattle.sample.specs.declared.Pixel.{Pixel}
use Rattle.sample.proofs.Choices.{cannot}
use Rattle.sample.proofs.DepthLaws.{powers}
use Rattle.refusal.specs.Rules.{first, NoneApplies}
use Rattle.setting.specs.Call.{reads}
use Rattle.setting.specs.Rules.{depths, served, setting_rules}
use Rattle.setting.specs.declared.Call.{Call}
use Rattle.setting.specs.declared.Call.TheVariants as call
use Rattle.setting.specs.declared.Setting.{Setting}
use Rattle.setting.specs.declared.Way.{Way}
use Rattle.setting.proofs.ReadyLaws.{ready, is_kept}
use Rattle.scan.specs.First.{first_bad}
use Rattle.scan.proofs.Searches.{none_with}
use Rattle.scan.proofs.SearchTheorems.{nothing_means}
use Rattle.meter.specs.Level.{plane_number, level_of, levels_of}
use Rattle.meter.specs.declared.SampleKind.{SampleKind}
use Rattle.meter.specs.declared.SampleKind.TheVariants as kind
use Rattle.meter.proofs.Scales.{level_rounded_once}
use Rattle.plan.specs.Source.{HasSource, has_source}
use Rattle.plan.proofs.ConversionTheorems.{tested, has_source_lem}
use Rattle.admit.specs.Rules.{beyond_depth, pixel_picture, top_of, bad_one, pixel_rules, pixel_admission}
use Rattle.admit.proofs.Accepted.{Accepted, PixelAdmitted, pixel_admitted, inside_exactly}
use Rattle.corkplover.specs.Answers.{converted_by, pixel_answer, source_by, source_answer, read_by, reading, levels_read_by, levels_answer}
use Rattle.corkplover.specs.Meaning.{meaning_of_pixel, meaning_of_source, meaning_of_reading, meaning_of_levels}
use Rattle.promises.specs.Pixels.{ConvertsPixel, ChecksPixel, ReadsSample, ReadsPixel, nearest_level}
use Rattle.promises.proofs.Refusing.{none_admitted, none_accepted, accepted_none, pixel_refuses, source_refuses, reading_refuses, levels_refuses}

-- a pixel that no rule refuses is let in: its setting is ready, and it lies within its depths
module _ (c : Call) (s : Setting) (p : Pixel) (h : NoneApplies (pixel_rules c s p)) where
  let_in : pixel_admission c s p ≡ Ok (served s)
  let_in = none_admitted c s [] (beyond_depth (reads c) (depths s) (pixel_picture p)) h

  pub pixel_accepted : Accepted c s [] (beyond_depth (reads c) (depths s) (pixel_picture p))
  pixel_accepted = none_accepted c s [] (beyond_depth (reads c) (depths s) (pixel_picture p)) h

  pub pixel_taken : PixelAdmitted (reads c) p (served s)
  pixel_taken = pixel_admitted c s p (served s) let_in

-- and one within the depths of a setting that is not refused meets no rule
pub pixel_free : (c : Call) (s : Setting) (p : Pixel) → first (setting_rules c s) ≡ Ok tt → InsideOf (reads c) (depths s) p → NoneApplies (pixel_rules c s p)
unfolding first
pixel_free c s p e h =
    accepted_none c s [] (beyond_depth (reads c) (depths s) (pixel_picture p)) (record { setting = e; sizes_pass = refl; samples = no_bad })
  where
    no_bad : beyond_depth (reads c) (depths s) (pixel_picture p) ≡ None
    no_bad =
        (inside_exactly (reads c) (depths s) (pixel_picture p)).1
        (λ j i a b.
        let ej : j ≡ 0 = omega arith in
        let ei : i ≡ 0 = omega arith in
        rw (ej, ei) h)

pub pixel_converts : (w : Way) (s : Setting) (p : Pixel) → ConvertsPixel w s p (meaning_of_pixel (pixel_answer w s p))
unfolding pixel_answer
pixel_converts w s p =
    let r = pixel_refuses w s p in
    record { refuses = r; converts = λ e. ap (λ v. (meaning_of_pixel (converted_by w p v)).samples) (let_in (call.Convert w) s p (r.exactly.accepted e)) }

-- ---- the source check

-- what is found is the word
word_of : (b : Bool) → (meaning_of_source (Ok b)).source ≡ b ∷ []
word_of b = refl

-- one word is one word
pub same_word : {l : List Bool} {b c : Bool} → l ≡ b ∷ [] → l ≡ c ∷ [] → b ≡ c
same_word e f = ap (λ l. get_or l 0 true) (sym e ∙ f)

-- the test is the claim
pub source_exactly : (s : Setting) (p : Pixel) → first (setting_rules call.ImageCheck s) ≡ Ok tt → InsideYCC (depths s) p
    → (has_source (served s) p ≡ true) ↔ HasSource (served s) p
source_exactly s p e h =
    let r = ready call.ImageCheck s e in
    (tested (served s) p r (is_kept s e) h, has_source_lem (served s) p r (is_kept s e))

exactly_tested : (s : Setting) (p : Pixel) → NoneApplies (pixel_rules call.ImageCheck s p) → (has_source (served s) p ≡ true) ↔ HasSource (served s) p
exactly_tested s p h = source_exactly s p (pixel_accepted call.ImageCheck s p h).setting (pixel_taken call.ImageCheck s p h).inside

source_says : (s : Setting) (p : Pixel) → NoneApplies (pixel_rules call.ImageCheck s p)
    → (meaning_of_source (source_answer s p)).source ≡ has_source (served s) p ∷ []
unfolding source_answer
source_says s p h = ap (λ v. (meaning_of_source (source_by p v)).source) (let_in call.ImageCheck s p h) ∙ word_of (has_source (served s) p)

pub pixel_checks : (s : Setting) (p : Pixel) → ChecksPixel s p (meaning_of_source (source_answer s p))
pixel_checks s p =
    let r = source_refuses s p in
    record {
      refuses = r;
      yes = λ e.
          let says = source_says s p (r.exactly.accepted e) in
          let t = exactly_tested s p (r.exactly.accepted e) in
          (λ q. t.0 (same_word says q), λ h. says ∙ ap (λ b. b ∷ []) (t.1 h));
      none = λ e.
          let says = source_says s p (r.exactly.accepted e) in
          let t = exactly_tested s p (r.exactly.accepted e) in (
            λ q h. true≢false (sym (t.1 h) ∙ same_word says q),
            λ f. says ∙ ap (λ b. b ∷ []) (cannot (has_source (served s) p) (λ q. f (t.0 q))),
          );
    }

-- ---- the meter

largest_small : (d : ℕ) → Depth d → M d ≤ M most_depth
largest_small d h = let p = powers d most_depth h.least h.most in omega arith

top_small : (k : SampleKind) (d : Depths) → Depth d.luma.0 → Depth d.chroma.0 → top_of k d ≤ M most_depth
top_small kind.Y d h g = largest_small d.luma.0 h
top_small kind.Cb d h g = largest_small d.chroma.0 g
top_small kind.Cr d h g = largest_small d.chroma.0 g

-- the level of a sample within its depth is rounded once
level_is : (s : Setting) → first (setting_rules call.Meter s) ≡ Ok tt → (k : SampleKind) (v : ℕ) → v ≤ top_of k (depths s)
    → level_of k s.ycc_full (depths s).luma (depths s).chroma v ≡ nearest_level k (served s) v
level_is s e k v h =
    let r = ready call.Meter s e in
    let small = top_small k (depths s) r.three.luma r.three.chroma in
    level_rounded_once k s.ycc_full (depths s).luma (depths s).chroma r.three.luma r.three.chroma v (omega arith)

pub sample_reads : (k : SampleKind) (s : Setting) (v : ℕ) → ReadsSample k s v (meaning_of_reading (reading k s v))
unfolding reading
sample_reads k s v =
    let r = reading_refuses k s v in
    record {
      refuses = r;
      reads = λ e.
          let h = r.exactly.accepted e in
          let a = none_accepted call.Meter s [] (bad_one k (depths s) v) h in
          let none = (none_with (λ place. v) (first_bad (v ∷ []) (plane_number k) 1 1 1 (top_of k (depths s)))).0 a.samples in
          let within = (nothing_means (v ∷ []) (plane_number k) 1 1 1 (top_of k (depths s))).0 none 0 0 (omega arith) (omega arith) in
          ap (λ d. (meaning_of_reading (read_by k v d)).levels) (none_admitted call.Meter s [] (bad_one k (depths s) v) h)
          ∙ ap (λ l. l ∷ []) (level_is s a.setting k v within);
    }

pub pixel_reads : (s : Setting) (p : Pixel) → ReadsPixel s p (meaning_of_levels (levels_answer s p))
unfolding levels_answer levels_of
pixel_reads s p =
    let r = levels_refuses s p in
    record {
      refuses = r;
      reads = λ e.
          let h = r.exactly.accepted e in
          let q = (pixel_accepted call.Meter s p h).setting in
          let i = (pixel_taken call.Meter s p h).inside in
          ap (λ v. (meaning_of_levels (levels_read_by p v)).levels) (let_in call.Meter s p h)
          ∙ (λ t.
          level_is s q kind.Y p.p0 (omega (arith, i.in0)) t
          ∷ level_is s q kind.Cb p.p1 (omega (arith, i.in1)) t
          ∷ level_is s q kind.Cr p.p2 (omega (arith, i.in2)) t
          ∷ []);
    }
