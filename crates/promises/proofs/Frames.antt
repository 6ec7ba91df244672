-- The promises on a frame hold of the box's answer and of the planes that it leaves.
use Rattle.std.specs.Prelude.{Result, Ok, Err}
use mathlib.Core.Path.{◌≡◌, refl, ap, ◌∙◌}
use mathlib.Core.List.{List, [], ◌∷◌}
use Prim.Native.Nat.{ℕ, zero, suc, ◌≤◌, ◌<◌}
use native.Mathlib.Omega.{arith}
use lib.ListN.{length, get_or}
use Rattle.refusal.specs.Rules.{NoneApplies}
use Rattle.tables.proofs.Tables.{length_tab, tab_at}
use Rattle.planes.specs.Picture.{Picture, picture, plane_at, pixel_of, sample_of}
use Rattle.planes.specs.Plane.{sample_at}
use Rattle.planes.specs.Sizes.{needed, Fits}
use Rattle.planes.specs.declared.size.Layout.{Layout}
use Rattle.planes.proofs.PlaneTheorems.{plane_length, plane_inside, plane_outside}
use Rattle.planes.proofs.SizeLaws.{index_inside}
use Rattle.setting.specs.Rules.{served}
use Rattle.setting.specs.declared.Call.TheVariants as call
use Rattle.setting.specs.declared.Setting.{Setting}
use Rattle.setting.specs.declared.Way.{Way}
use Rattle.plan.specs.Conversion.{convert}
use Rattle.admit.specs.Rules.{picture_rules, frame_admission}
use Rattle.admit.proofs.Accepted.{PictureAccepted, all_fit}
use Rattle.frame.specs.Frame.{frame_answer, converted_plane, plane_by, length_of, out_plane, PlanesAfter}
use Rattle.frame.proofs.FrameLaws.{plane_done, plane_refused}
use Rattle.corkplover.specs.Meaning.{Meaning, meaning_of_frame}
use Rattle.promises.specs.Frames.{ConvertsFrame, Outside}
use Rattle.promises.specs.Refusing.{RefusedBy}
use Rattle.promises.proofs.Refusing.{none_admitted, none_accepted, first_refused, frame_refuses}
use Rattle.refusal.specs.declared.Refusal.{Refusal}
use Rattle.setting.specs.declared.admission.Served.{Served}

module _ (w : Way) (s : Setting) (a : Picture) (b : Layout) where
  -- after any call the plane is as long as before
  by_length : (k : ℕ) (v : Result Served Refusal) → length (plane_by v k w a b.stride (length_of k b)) ≡ length_of k b
  by_length k (Ok x) = plane_length (length_of k b) a.width a.height b.stride _
  by_length k (Err r) = length_tab (length_of k b) _

  plane_long : (k : ℕ) → length (out_plane k w s a b) ≡ length_of k b
  unfolding out_plane
  plane_long k = by_length k (frame_admission w s a b)

  -- a refused call zeroes every element
  refused_zero : RefusedBy (meaning_of_frame (frame_answer w s a b)) (picture_rules (call.Convert w) s a (b ∷ [])) → (k n : ℕ) → n < length_of k b
      → get_or (out_plane k w s a b) n 0 ≡ 0
  refused_zero r k n h =
      ap (λ p. get_or p n 0) (plane_refused w s a b r.refusal (first_refused (call.Convert w) s _ _ r.refusal r.is_first) k) ∙ tab_at (length_of k b) _ n h

  -- an accepted one writes the converted picture
  module _ (h : NoneApplies (picture_rules (call.Convert w) s a (b ∷ []))) where
    let_in : frame_admission w s a b ≡ Ok (served s)
    let_in = none_admitted (call.Convert w) s _ _ h

    pub frame_accepted : PictureAccepted (call.Convert w) s a (b ∷ [])
    frame_accepted = none_accepted (call.Convert w) s _ _ h

    plane_is : (k : ℕ) → out_plane k w s a b ≡ converted_plane k w (served s) a b.stride (length_of k b)
    plane_is k = plane_done w s a b (served s) let_in k

    fit : Fits a.width a.height b
    fit = (all_fit (call.Convert w) s a (b ∷ []) frame_accepted).1.0

    -- each picture element is the converted sample of its row and column
    sample_is : (k j i : ℕ) → needed a.width a.height b.stride ≤ length_of k b → j < a.height → i < a.width
        → sample_at (out_plane k w s a b) b.stride j i ≡ sample_of k (convert w (served s) (pixel_of a j i))
    sample_is k j i l x y =
        ap (λ p. sample_at p b.stride j i) (plane_is k)
        ∙ plane_inside (length_of k b) a.width a.height b.stride _ j i x y fit.sized.stride_within.from_least
        (omega (arith, index_inside a.width a.height b.stride j i x y, l))

    -- what lies outside the picture is 0, wherever in the plane it is
    outside_zero : (k n : ℕ) → n < length_of k b → Outside a.width a.height b.stride n → get_or (out_plane k w s a b) n 0 ≡ 0
    outside_zero k n l o = ap (λ p. get_or p n 0) (plane_is k) ∙ plane_outside (length_of k b) a.width a.height b.stride _ n l o

  -- the picture in the planes that the call leaves
  abbrev left : Picture
  left = picture a.width a.height b.stride (out_plane 0 w s a b) (out_plane 1 w s a b) (out_plane 2 w s a b)

  left_plane : (k : ℕ) → k < 3 → plane_at k left ≡ out_plane k w s a b
  left_plane zero h = refl
  left_plane (suc zero) h = refl
  left_plane (suc (suc zero)) h = refl
  left_plane (suc (suc (suc k))) h = absurd (omega arith)

  pub frame_converts : ConvertsFrame w s a b (meaning_of_frame (frame_answer w s a b)) left
  frame_converts =
      let r = frame_refuses w s a b in
      record {
        refuses = r;
        long = λ k l. ap length (left_plane k l) ∙ plane_long k;
        zeroed = λ e k n l h. ap (λ p. get_or p n 0) (left_plane k l) ∙ refused_zero (r.exactly.given e) k n h;
        inside = λ e j i x y.
            let h = r.exactly.accepted e in
            let long = (fit h).long in λ t.
            record {
              p0 = sample_is h 0 j i long.long0 x y t;
              p1 = sample_is h 1 j i long.long1 x y t;
              p2 = sample_is h 2 j i long.long2 x y t;
            };
        outside = λ e k n l h o. ap (λ p. get_or p n 0) (left_plane k l) ∙ outside_zero (r.exactly.accepted e) k n h o;
      }

  -- and so of every call that has this answer and leaves these planes
  pub converts_by : {m : Meaning} {p0 p1 p2 : List ℕ} → m ≡ meaning_of_frame (frame_answer w s a b) → PlanesAfter w s a b p0 p1 p2
      → ConvertsFrame w s a b m (picture a.width a.height b.stride p0 p1 p2)
  converts_by e f = rw (e, f.0, f.1.0, f.1.1) frame_converts
