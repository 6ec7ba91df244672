-- Nothing of an earlier client remains, and no padding matters: two calls whose input planes agree in length and inside the picture, and
-- whose output planes o and p have the same lengths, whatever those held, answer and leave the same.
use Rattle.std.specs.Prelude.{Result, Ok, Err}
use mathlib.Core.Path.{◌≡◌, refl, ap, ◌∙◌}
use mathlib.Core.List.{List, [], ◌∷◌}
use Prim.Native.Nat.{ℕ, ◌<◌}
use lib.ListN.{length}
use Rattle.sample.specs.declared.Pixel.{Pixel}
use Rattle.planes.specs.Picture.{Picture, picture, layout_of, pixel_of, sample_of}
use Rattle.planes.specs.Sizes.{layout}
use Rattle.planes.specs.declared.size.Layout.{Layout}
use Rattle.planes.proofs.PlaneTheorems.{plane_same, pixel_same}
use Rattle.scan.proofs.Searches.{first_place_same}
use Rattle.scan.proofs.SearchTheorems.{bad_found_same}
use Rattle.setting.specs.declared.Call.{Call}
use Rattle.setting.specs.declared.Call.TheVariants as call
use Rattle.setting.specs.declared.Setting.{Setting}
use Rattle.setting.specs.declared.Way.{Way}
use Rattle.setting.specs.declared.admission.Served.{Served}
use Rattle.plan.specs.Conversion.{convert}
use Rattle.plan.specs.Source.{has_source}
use Rattle.compare.specs.Compare.{differ}
use Rattle.admit.specs.Rules.{picture_admission, frame_admission}
use Rattle.rows.specs.Paint.{input_picture, output_layout}
use Rattle.rows.specs.declared.paint.Size.{Size}
use Rattle.frame.specs.Frame.{frame_by, frame_answer, plane_by, length_of, out_plane, PlanesAfter}
use Rattle.image_check.specs.Image.{fails, first_failing, answer_found, image_by, image_answer}
use Rattle.judge.specs.Judge.{is_wrong, verdict, judge_by, judgement}
use Rattle.judge.proofs.PlaceLaws.{places_same}
use Rattle.promises.specs.Frames.{Alike}
use Rattle.promises.proofs.Once.{once_all}
use Rattle.refusal.specs.declared.Refusal.{Refusal}

-- two pictures of one size whose planes are alike
module _ (width height stride : ℕ) (a0 a1 a2 q0 q1 q2 : List ℕ) (e : Alike width height stride a0 a1 a2 q0 q1 q2) where
  abbrev a : Picture
  a = picture width height stride a0 a1 a2

  abbrev q : Picture
  q = picture width height stride q0 q1 q2

  pixels : (j i : ℕ) → j < height → i < width → pixel_of a j i ≡ pixel_of q j i
  pixels = pixel_same a q0 q1 q2 e.first.same e.second.same e.third.same

  same_admission : (c : Call) (s : Setting) (others : List Layout) → picture_admission c s a others ≡ picture_admission c s q others
  same_admission c s others =
      rw (e.first.long, e.second.long, e.third.long, bad_found_same a q0 q1 q2 e.first.same e.second.same e.third.same _)

  same_answer : (w : Way) (s : Setting) (b : Layout) → frame_answer w s a b ≡ frame_answer w s q b
  unfolding frame_answer
  same_answer w s b = ap frame_by (same_admission (call.Convert w) s (b ∷ []))

  by_same : (k : ℕ) (w : Way) (to n : ℕ) (v : Result Served Refusal) → plane_by v k w a to n ≡ plane_by v k w q to n
  by_same k w to n (Ok x) = plane_same n width height to _ _ (λ j i h l. ap (λ p. sample_of k (convert w x p)) (pixels j i h l))
  by_same k w to n (Err r) = refl

  same_plane : (k : ℕ) (w : Way) (s : Setting) (b : Layout) → out_plane k w s a b ≡ out_plane k w s q b
  unfolding out_plane
  same_plane k w s b =
      by_same k w b.stride (length_of k b) (frame_admission w s a b)
      ∙ ap (λ v. plane_by v k w q b.stride (length_of k b)) (same_admission (call.Convert w) s (b ∷ []))

  found_same : (x : Served) → first_failing (has_source x) a ≡ first_failing (has_source x) q
  found_same x = first_place_same (fails (has_source x) a) (fails (has_source x) q) 0 width height (λ j i h l. rw (pixels j i h l))

  image_by_same : (v : Result Served Refusal) → image_by v a ≡ image_by v q
  image_by_same (Ok x) = ap answer_found (found_same x)
  image_by_same (Err r) = refl

  pub same_image : (s : Setting) → image_answer s a ≡ image_answer s q
  unfolding image_answer
  same_image s = image_by_same (picture_admission call.ImageCheck s a []) ∙ ap (λ v. image_by v q) (same_admission call.ImageCheck s [])

-- two claimed pictures that are alike, of sources that are
module _ (width height stride to : ℕ) (a0 a1 a2 q0 q1 q2 b0 b1 b2 p0 p1 p2 : List ℕ) (e : Alike width height stride a0 a1 a2 q0 q1 q2)
    (g : Alike width height to b0 b1 b2 p0 p1 p2)
  where
    abbrev source : Picture
    source = picture width height stride a0 a1 a2

    abbrev source' : Picture
    source' = picture width height stride q0 q1 q2

    abbrev claimed : Picture
    claimed = picture width height to b0 b1 b2

    abbrev claimed' : Picture
    claimed' = picture width height to p0 p1 p2

    wrong_same : (f : Pixel → Pixel) (j i : ℕ) → j < height → i < width → is_wrong f source claimed j i ≡ is_wrong f source' claimed' j i
    wrong_same f j i h l =
        λ t. differ (f (pixels width height stride a0 a1 a2 q0 q1 q2 e j i h l t)) (pixels width height to b0 b1 b2 p0 p1 p2 g j i h l t)

    judged_by_same : (w : Way) (v : Result Served Refusal) → judge_by v w source claimed ≡ judge_by v w source' claimed'
    judged_by_same w (Ok x) =
        let same = wrong_same (convert w x) in
        λ t. Ok (verdict (first_place_same _ _ 0 width height same t) (places_same _ _ width height same t))
    judged_by_same w (Err r) = refl

    pub same_judgement : (w : Way) (s : Setting) → judgement w s source claimed ≡ judgement w s source' claimed'
    unfolding judgement
    same_judgement w s =
        judged_by_same w (frame_admission w s source (layout_of claimed))
        ∙ ap (λ v. judge_by v w source' claimed')
        (same_admission width height stride a0 a1 a2 q0 q1 q2 e (call.Convert w) s (layout_of claimed ∷ [])
        ∙ (λ t. frame_admission w s source' (layout to (g.first.long t) (g.second.long t) (g.third.long t))))

-- what a frame call leaves, where its answer is given in one form or another
abbrev pub Leaves : {A : Type 0} → (Result Unit Refusal → A) → Way → Setting → Size → (a0 a1 a2 b0 b1 b2 : List ℕ) → A → (p0 p1 p2 : List ℕ) → Type 0
Leaves form w s z a0 a1 a2 b0 b1 b2 x p0 p1 p2 =
    let b = output_layout z (length b0) (length b1) (length b2) in
    (x ≡ form (frame_answer w s (input_picture z a0 a1 a2) b)) × PlanesAfter w s (input_picture z a0 a1 a2) b p0 p1 p2

pub nothing_remains : {A : Type 0} (form : Result Unit Refusal → A) (w : Way) {s t : Setting} (z : Size) {a0 a1 a2 q0 q1 q2 : List ℕ} (o0 o1 o2 p0 p1 p2 : List ℕ) → s ≡ t
    → Alike z.width z.height z.input_stride a0 a1 a2 q0 q1 q2 → length o0 ≡ length p0 → length o1 ≡ length p1 → length o2 ≡ length p2
    → {x x' : A} {y0 y1 y2 z0 z1 z2 : List ℕ} → Leaves form w s z a0 a1 a2 o0 o1 o2 x y0 y1 y2 → Leaves form w t z q0 q1 q2 p0 p1 p2 x' z0 z1 z2
    → (x ≡ x') × ((y0 ≡ z0) × ((y1 ≡ z1) × (y2 ≡ z2)))
nothing_remains form w {s} {t} z {a0} {a1} {a2} {q0} {q1} {q2} o0 o1 o2 p0 p1 p2 st e l0 l1 l2 {x} {x'} {y0} {y1} {y2} f g =
    let b = output_layout z (length p0) (length p1) (length p2) in
    let h : Leaves form w t z a0 a1 a2 p0 p1 p2 x y0 y1 y2 = rw (← st, ← l0, ← l1, ← l2) f in
    let plane : (k : ℕ) → out_plane k w t (input_picture z a0 a1 a2) b ≡ out_plane k w t (input_picture z q0 q1 q2) b =
    λ k. same_plane z.width z.height z.input_stride a0 a1 a2 q0 q1 q2 e k w t b in
    once_all (
      h.0 ∙ ap form (same_answer z.width z.height z.input_stride a0 a1 a2 q0 q1 q2 e w t b),
      (h.1.0 ∙ plane 0, (h.1.1.0 ∙ plane 1, h.1.1.1 ∙ plane 2)),
    ) g
