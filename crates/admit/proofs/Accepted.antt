-- What is known of a call that no rule refused: its setting is ready, its sizes fit, and every sample is within its depth.
use Rattle.std.specs.Prelude.{Ok, Option, Some, None}
use mathlib.Core.Path.{◌≡◌, sym, ap, subst, ◌∙◌}
use mathlib.Core.Bool.{true≢false}
use mathlib.Core.List.{List, [], ◌∷◌}
use mathlib.Core.Logic.{◌↔◌}
use Prim.Native.Nat.{ℕ, ◌^◌, ◌≤◌, ◌<◌}
use native.Mathlib.Omega.{arith}
use lib.Pow.{pow_pos}
use Rattle.sample.specs.Depth.{M, Inside, plane_depth, InsideOf, tops}
use Rattle.sample.specs.declared.Depths.{Depths}
use Rattle.sample.specs.declared.Pixel.{Pixel}
use Rattle.sample.specs.declared.Side.{Side}
use Rattle.refusal.specs.Rules.{Rule, first}
use Rattle.refusal.proofs.RuleLaws.{neither}
use Rattle.meter.specs.declared.SampleKind.{SampleKind}
use Rattle.setting.specs.Call.{reads}
use Rattle.setting.specs.Ready.{Ready}
use Rattle.setting.specs.Rules.{depths, served, setting_rules, admitted}
use Rattle.setting.specs.declared.Call.{Call}
use Rattle.setting.specs.declared.Call.TheVariants as call
use Rattle.setting.specs.declared.Setting.{Setting}
use Rattle.setting.specs.declared.admission.Served.{Served}
use Rattle.setting.proofs.ReadyLaws.{ready}
use Rattle.scan.specs.First.{NotAbove, bad_sample, sample_on, bad_rule}
use Rattle.planes.specs.Picture.{Picture, layout_of, EveryPixel}
use Rattle.planes.specs.Sizes.{size_rules, EveryLayout, Fits}
use Rattle.planes.specs.declared.size.Layout.{Layout}
use Rattle.scan.proofs.Searches.{none_with}
use Rattle.scan.proofs.SearchTheorems.{nothing_in_pixels_means}
use Rattle.planes.proofs.SizeTheorems.{fits}
use Rattle.admit.specs.Rules.{call_admission, sized_admission, beyond_depth, pixel_picture, pixel_admission, sample_admission}
use Rattle.admit.proofs.AdmitLaws.{admitted_passed, in_turn, by_sample}
use Rattle.refusal.specs.declared.Place.{Place}

-- no rule applies
pub record Accepted (call : Call) (s : Setting) (sizes : List Rule) (bad : Option (Place × ℕ)) : Type 0 where
  pub setting : first (setting_rules call s) ≡ Ok tt
  pub sizes_pass : first sizes ≡ Ok tt
  pub samples : bad ≡ None

none_bad : (f : Option (Place × ℕ)) → first (bad_rule f ∷ []) ≡ Ok tt → f ≡ None
unfolding first
none_bad (Some b) e = absurd (true≢false cc)
none_bad None e = cc

module _ (call : Call) (s : Setting) (sizes : List Rule) (bad : Option (Place × ℕ)) where
  pub accepted_of : (x : Served) → call_admission call s sizes bad ≡ Ok x → Accepted call s sizes bad × (served s ≡ x)
  unfolding call_admission
  accepted_of x e =
      let t = admitted_passed _ (served s) x e in
      let u = neither _ _ (sym (in_turn call s sizes bad) ∙ t.0) in
      let v = neither _ _ u.1 in
      (record { setting = u.0; sizes_pass = v.0; samples = none_bad bad v.1 }, t.1)

  pub of_accepted : Accepted call s sizes bad → call_admission call s sizes bad ≡ Ok (served s)
  unfolding first
  of_accepted k = sym (by_sample call s sizes bad k.setting k.sizes_pass) ∙ rw k.samples

  pub is_ready : Accepted call s sizes bad → Ready (served s)
  is_ready k = ready call s k.setting

-- who was let in by setting and sizes has only the samples left
module _ (call : Call) (s : Setting) (sizes : List Rule) (x : Served) (e : sized_admission call s sizes ≡ Ok x) where
  pub sized : (first (setting_rules call s) ≡ Ok tt) × (first sizes ≡ Ok tt)
  sized = let k = (accepted_of call s sizes None x e).0 in (k.setting, k.sizes_pass)

  pub is_served : served s ≡ x
  is_served = (accepted_of call s sizes None x e).1

  pub sized_ready : Ready x
  sized_ready = subst Ready is_served (ready call s sized.0)

  pub then_samples : (bad : Option (Place × ℕ)) → admitted (first (bad_rule bad ∷ [])) x ≡ call_admission call s sizes bad
  then_samples bad = sym (ap (admitted (first (bad_rule bad ∷ []))) is_served) ∙ by_sample call s sizes bad sized.0 sized.1

-- a sample is not above the largest of its depth exactly if it is below 2^depth
within : (d v : ℕ) → (v ≤ M d) ↔ (v < 2 ^ d)
within d v = (λ h. omega (arith, pow_pos d), λ h. omega arith)

not_above : (x y z : ℕ) (p : Pixel) → NotAbove (record { p0 = M x; p1 = M y; p2 = M z }) p ↔ Inside x y z p
not_above x y z p = (
  λ h. record { in0 = (within x _).0 h.within0; in1 = (within y _).0 h.within1; in2 = (within z _).0 h.within2 },
  λ h. record { within0 = (within x _).1 h.in0; within1 = (within y _).1 h.in1; within2 = (within z _).1 h.in2 },
)

pub inside_of : (side : Side) (d : Depths) (p : Pixel) → NotAbove (tops side d) p ↔ InsideOf side d p
inside_of side d p = not_above (plane_depth side d 0) (plane_depth side d 1) (plane_depth side d 2) p

-- no sample of a picture is bad exactly if every pixel lies within the depths of its side
pub inside_exactly : (side : Side) (d : Depths) (a : Picture) → (beyond_depth side d a ≡ None) ↔ EveryPixel (InsideOf side d) a
inside_exactly side d a =
    let t = nothing_in_pixels_means a (tops side d) in
    let n = none_with (sample_on a) (bad_sample a (tops side d)) in
    (λ e j i p q. (inside_of side d _).0 (t.0 (n.0 e) j i p q), λ h. n.1 (t.1 (λ j i p q. (inside_of side d _).1 (h j i p q))))

-- of a call on a picture
module _ (call : Call) (s : Setting) (a : Picture) (others : List Layout) where
  abbrev pub PictureAccepted : Type 0
  PictureAccepted = Accepted call s (size_rules a.width a.height (layout_of a ∷ others)) (beyond_depth (reads call) (depths s) a)

  module _ (k : PictureAccepted) where
    pub all_fit : EveryLayout (Fits a.width a.height) (layout_of a ∷ others)
    all_fit = fits _ _ _ k.sizes_pass

    pub pixels_inside : EveryPixel (InsideOf (reads call) (depths s)) a
    pixels_inside = (inside_exactly (reads call) (depths s) a).0 k.samples

-- of a call on a pixel
pub record PixelAdmitted (side : Side) (p : Pixel) (x : Served) : Type 0 where
  pub is_ready : Ready x
  pub inside : InsideOf side x.depths p

pub pixel_admitted : (call : Call) (s : Setting) (p : Pixel) (x : Served) → pixel_admission call s p ≡ Ok x → PixelAdmitted (reads call) p x
pixel_admitted call s p x e =
    let k = accepted_of call s [] _ x e in
    subst (PixelAdmitted (reads call) p) k.1
    (record {
      is_ready = ready call s k.0.setting;
      inside = (inside_exactly (reads call) (depths s) (pixel_picture p)).0 k.0.samples 0 0 (omega arith) (omega arith);
    })

-- and of the meter's on one sample
pub one_ready : (k : SampleKind) (s : Setting) (v : ℕ) (x : Served) → sample_admission k s v ≡ Ok x → Ready x
one_ready k s v x e = let t = accepted_of call.Meter s [] _ x e in subst Ready t.1 (ready call.Meter s t.0.setting)
