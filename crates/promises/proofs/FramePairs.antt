-- Demand 3 on whole pictures: on the settings of the list two pictures with equal conversions are equal, and a converted picture comes back.
-- Said of any calls that keep the promise on a frame.
use Rattle.std.specs.Prelude.{Ok}
use mathlib.Core.Path.{◌≡◌, sym, ap, ◌∙◌, subst}
use mathlib.Core.List.{List, [], ◌∷◌}
use Prim.Native.Nat.{ℕ, ◌<◌}
use native.Mathlib.Omega.{arith}
use lib.ListN.{length}
use Rattle.sample.specs.Depth.{InsideYCC}
use Rattle.sample.specs.declared.Side.TheVariants.{Ycc}
use Rattle.refusal.specs.Rules.{first, NoneApplies}
use Rattle.planes.specs.Picture.{Picture, picture, layout_of, pixel_of, EveryPixel}
use Rattle.planes.specs.Sizes.{size_rules, Fits}
use Rattle.planes.specs.declared.size.Layout.{Layout}
use Rattle.planes.proofs.SizeTheorems.{sizes_pass}
use Rattle.setting.specs.Rules.{depths, served, setting_rules}
use Rattle.setting.specs.declared.Call.TheVariants.{Convert, ImageCheck}
use Rattle.setting.specs.declared.Setting.{Setting}
use Rattle.setting.specs.declared.Way.TheVariants.{Forward, Reverse}
use Rattle.setting.proofs.ReadyLaws.{ready, is_kept}
use Rattle.plan.specs.Conversion.{convert}
use Rattle.plan.proofs.ConversionTheorems.{trip, one_to_one, forward_inside}
use Rattle.admit.specs.Rules.{picture_rules}
use Rattle.admit.proofs.Accepted.{PictureAccepted, all_fit, pixels_inside, inside_exactly}
use Rattle.rows.specs.Paint.{input_picture, output_picture, output_layout}
use Rattle.rows.specs.declared.paint.Size.{Size}
use Rattle.corkplover.specs.Meaning.{Meaning}
use Rattle.promises.specs.Frames.{ConvertsFrame, ConvertsPlanes, HandedOn, SamePixels}
use Rattle.promises.specs.Lossless.{Listed}
use Rattle.promises.proofs.Frames.{frame_accepted}
use Rattle.promises.proofs.Lossless.{converts_too, taken}
use Rattle.promises.proofs.Refusing.{accepted_none}

module _ (s : Setting) (l : Listed s) where
  pub frames_one_to_one : {a a' c c' : Picture} {b b' : Layout} {m m' : Meaning} → ConvertsFrame Forward s a b m c → ConvertsFrame Forward s a' b' m' c'
      → m.number ≡ 0 → m'.number ≡ 0 → a.width ≡ a'.width → a.height ≡ a'.height
      → ((j i : ℕ) → j < a.height → i < a.width → pixel_of c j i ≡ pixel_of c' j i) → SamePixels a a'
  frames_one_to_one {a} {a'} {b = b} {b' = b'} f f' e e' wide high same j i x y =
      let h = f.refuses.exactly.accepted e in
      let h' = f'.refuses.exactly.accepted e' in
      let x' : j < a'.height = omega (arith, x, high) in
      let y' : i < a'.width = omega (arith, y, wide) in
      let image = taken s (frame_accepted Forward s a b h).setting l in
      one_to_one (served s) (pixel_of a j i) (pixel_of a' j i) (ready ImageCheck s image) (is_kept s image)
      (pixels_inside (Convert Forward) s a (b ∷ []) (frame_accepted Forward s a b h) j i x y)
      (pixels_inside (Convert Forward) s a' (b' ∷ []) (frame_accepted Forward s a' b' h') j i x' y')
      (sym (f.inside e j i x y) ∙ same j i x y ∙ f'.inside e' j i x' y')

  -- the planes that a forward call left, handed to the reverse call with planes of layout d to write
  module _ (a : Picture) (b d : Layout) (p0 p1 p2 : List ℕ) {m : Meaning}
      (f : ConvertsFrame Forward s a b m (picture a.width a.height b.stride p0 p1 p2)) (e : m.number ≡ 0) (fit : Fits a.width a.height d)
    where
      abbrev sent : Picture
      sent = picture a.width a.height b.stride p0 p1 p2

      free : NoneApplies (picture_rules (Convert Forward) s a (b ∷ []))
      free = f.refuses.exactly.accepted e

      accepted : PictureAccepted (Convert Forward) s a (b ∷ [])
      accepted = frame_accepted Forward s a b free

      image : first (setting_rules ImageCheck s) ≡ Ok tt
      image = taken s accepted.setting l

      sent_inside : EveryPixel (InsideYCC (depths s)) sent
      sent_inside j i x y =
          subst (InsideYCC (depths s)) (sym (f.inside e j i x y))
          (forward_inside (served s) (pixel_of a j i) (ready ImageCheck s image) (pixels_inside (Convert Forward) s a (b ∷ []) accepted j i x y))

      sent_sizes : first (size_rules a.width a.height (layout_of sent ∷ d ∷ [])) ≡ Ok tt
      sent_sizes =
          let own = (all_fit (Convert Forward) s a (b ∷ []) accepted).1.0 in
          (sizes_pass a.width a.height (layout_of sent ∷ d ∷ [])).1 (
            record {
              width_within = fit.sized.width_within;
              height_within = fit.sized.height_within;
              strides_within = (own.sized.stride_within, (fit.sized.stride_within, tt));
            },
            (
              record {
                long0 = omega (arith, f.long 0 (omega arith), own.long.long0);
                long1 = omega (arith, f.long 1 (omega arith), own.long.long1);
                long2 = omega (arith, f.long 2 (omega arith), own.long.long2);
              },
              (fit.long, tt),
            ),
          )

      sent_free : NoneApplies (picture_rules (Convert Reverse) s sent (d ∷ []))
      sent_free =
          accepted_none (Convert Reverse) s _ _
          (record { setting = converts_too Reverse s image; sizes_pass = sent_sizes; samples = (inside_exactly Ycc (depths s) sent).1 sent_inside })

      -- are accepted, and give the picture again, pixel for pixel
      comes_back : {n : Meaning} {c : Picture} → ConvertsFrame Reverse s sent d n c
          → (n.number ≡ 0) × SamePixels a c
      comes_back g =
          let r = g.refuses.exactly.free sent_free in (
            r,
            λ j i x y.
                sym
                (g.inside r j i x y
                ∙ ap (convert Reverse (served s)) (f.inside e j i x y)
                ∙ trip (served s) (pixel_of a j i) (ready ImageCheck s image) (is_kept s image) (pixels_inside (Convert Forward) s a (b ∷ []) accepted j i x y)),
          )

  -- the same by the calls' parameters
  pub frame_comes_back : (z z' : Size) (a0 a1 a2 b0 b1 b2 c0 c1 c2 : List ℕ) {p0 p1 p2 q0 q1 q2 e0 e1 e2 : List ℕ} {m n : Meaning}
      → ConvertsPlanes Forward s z a0 a1 a2 b0 b1 b2 m p0 p1 p2 → m.number ≡ 0 → HandedOn z z' p0 p1 p2 q0 q1 q2
      → Fits z.width z.height (output_layout z' (length c0) (length c1) (length c2)) → ConvertsPlanes Reverse s z' q0 q1 q2 c0 c1 c2 n e0 e1 e2
      → (n.number ≡ 0) × SamePixels (input_picture z a0 a1 a2) (output_picture z' e0 e1 e2)
  frame_comes_back z z' a0 a1 a2 b0 b1 b2 c0 c1 c2 {p0} {p1} {p2} {e0 = e0} {e1 = e1} {e2 = e2} {n = n} f e h fit g =
      let d = output_layout z' (length c0) (length c1) (length c2) in
      let sent : input_picture z' _ _ _ ≡ output_picture z p0 p1 p2 =
      λ i. picture (h.width_is i) (h.height_is i) (h.stride_is i) (h.plane0_is i) (h.plane1_is i) (h.plane2_is i) in
      comes_back (input_picture z a0 a1 a2) (output_layout z (length b0) (length b1) (length b2)) d p0 p1 p2 f e fit
      (subst (λ q. ConvertsFrame Reverse s q d n (output_picture z' e0 e1 e2)) sent g)
