-- Demand 3 on a pixel: on the settings of the list no two pixels have one conversion, and the conversion comes back. Said of any calls that
-- keep the promise on a conversion.
use mathlib.Core.Path.{◌≡◌, sym, ap, ◌∙◌, subst}
use lib.ListN.{get_or}
use Rattle.sample.specs.Depth.{InsideYCC}
use Rattle.sample.specs.declared.Pixel.{Pixel}
use Rattle.setting.specs.Rules.{depths, served}
use Rattle.setting.specs.declared.Call.TheVariants.{Convert, ImageCheck}
use Rattle.setting.specs.declared.Setting.{Setting}
use Rattle.setting.specs.declared.Way.TheVariants.{Forward, Reverse}
use Rattle.setting.proofs.ReadyLaws.{ready, is_kept}
use Rattle.plan.specs.Conversion.{convert}
use Rattle.plan.proofs.ConversionTheorems.{trip, one_to_one, forward_inside}
use Rattle.corkplover.specs.Meaning.{Meaning}
use Rattle.promises.specs.Lossless.{Listed}
use Rattle.promises.specs.Pixels.{ConvertsPixel, samples_of}
use Rattle.promises.proofs.Lossless.{converts_too, taken}
use Rattle.promises.proofs.Pixels.{pixel_accepted, pixel_taken, pixel_free}

-- a pixel is its samples
same_samples : {p q : Pixel} → samples_of p ≡ samples_of q → p ≡ q
same_samples e = λ i. record { p0 = get_or (e i) 0 0; p1 = get_or (e i) 1 0; p2 = get_or (e i) 2 0 }

module _ (s : Setting) (l : Listed s) where
  -- what the forward call answered, handed to the reverse call, is accepted and comes back
  pub pixel_comes_back : {p q : Pixel} {m n : Meaning} → ConvertsPixel Forward s p m → m.number ≡ 0 → m.samples ≡ samples_of q → ConvertsPixel Reverse s q n
      → (n.number ≡ 0) × (n.samples ≡ samples_of p)
  pixel_comes_back {p} {q} {m} {n} f accepted e g =
      let h = f.refuses.exactly.accepted accepted in
      let image = taken s (pixel_accepted (Convert Forward) s p h).setting l in
      let r = ready ImageCheck s image in
      let within = (pixel_taken (Convert Forward) s p h).inside in
      let is : q ≡ convert Forward (served s) p = same_samples (sym e ∙ f.converts accepted) in
      let inside : InsideYCC (depths s) q = subst (InsideYCC (depths s)) (sym is) (forward_inside (served s) p r within) in
      let free = g.refuses.exactly.free (pixel_free (Convert Reverse) s q (converts_too Reverse s image) inside) in
      (free, g.converts free ∙ ap samples_of (ap (convert Reverse (served s)) is ∙ trip (served s) p r (is_kept s image) within))

  -- two pixels of the same samples afterwards were the same
  pub pixel_one_to_one : {p q : Pixel} {m n : Meaning} → ConvertsPixel Forward s p m → ConvertsPixel Forward s q n → m.number ≡ 0 → n.number ≡ 0
      → m.samples ≡ n.samples → p ≡ q
  pixel_one_to_one {p} {q} {m} {n} f g accepted accepted' e =
      let h = f.refuses.exactly.accepted accepted in
      let k = g.refuses.exactly.accepted accepted' in
      let image = taken s (pixel_accepted (Convert Forward) s p h).setting l in
      one_to_one (served s) p q (ready ImageCheck s image) (is_kept s image) (pixel_taken (Convert Forward) s p h).inside
      (pixel_taken (Convert Forward) s q k).inside (same_samples (sym (f.converts accepted) ∙ e ∙ g.converts accepted'))
