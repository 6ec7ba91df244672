-- The answer and the output planes of a conversion, by whether it is let in: by its setting and its sizes first, and then by its samples, which are
-- tested while it is painted.
use Rattle.std.specs.Prelude.{Result, Ok, Err}
use mathlib.Core.Path.{◌≡◌, refl, sym, ap, subst, ◌∙◌}
use mathlib.Core.Bool.{Bool, true, true≢false}
use Rattle.std.specs.Result.{is_err}
use mathlib.Core.List.{List}
use Prim.Native.Nat.{ℕ}
use Rattle.sample.specs.Depth.{InsideOf, tops}
use Rattle.sample.specs.declared.Pixel.{Pixel}
use Rattle.refusal.specs.declared.Refusal.{Refusal}
use Rattle.refusal.proofs.RuleLaws.{never_both, same_refusal}
use Rattle.setting.specs.Call.{input_of}
use Rattle.setting.specs.declared.Call.TheVariants.{Convert}
use Rattle.setting.specs.declared.Setting.{Setting}
use Rattle.setting.specs.declared.Way.{Way}
use Rattle.setting.specs.declared.admission.Served.{Served}
use Rattle.tables.specs.Table.{zeros}
use Rattle.planes.specs.Picture.{Picture, sample_of, pixel_of, EveryPixel}
use Rattle.planes.specs.declared.size.Layout.{Layout}
use Rattle.planes.proofs.PlaneTheorems.{plane_same}
use Rattle.plan.specs.Conversion.{convert}
use Rattle.row_plan.specs.RowPlan.{row_planned, RowPlans}
use Rattle.row_plan.specs.declared.RowPlan.{RowPlan}
use Rattle.admit.specs.Rules.{by_sizes, frame_admission}
use Rattle.admit.proofs.AdmitLaws.{still_refused}
use Rattle.admit.proofs.LetIn.{FrameSized, Inside, let_in}
use Rattle.rows.proofs.TopLaws.{tells_inside}
use Rattle.frame.specs.Frame.{frame_by, frame_answer, mapped_plane, converted_plane, length_of, out_plane, AttemptAfter, FrameAfter, MappedPlanes, PaintedIf, ConvertedIf}

-- ---- what is served, painted by a plan of its conversion

module _ (way : Way) (x : Served) {plan : RowPlan} (h : RowPlans (convert way x) (input_of way) x.depths plan) (top : Pixel) (top_is : top ≡ tops (input_of way) x.depths)
    (a : Picture) (b : Layout) where
  mapped : EveryPixel (InsideOf (input_of way) x.depths) a → (k : ℕ) {q : List ℕ} → q ≡ mapped_plane k (row_planned plan) a b.stride (length_of k b)
      → q ≡ mapped_plane k (convert way x) a b.stride (length_of k b)
  mapped inside k m = m ∙ plane_same _ _ _ _ _ _ (λ j i p q. ap (sample_of k) (h.is (pixel_of a j i) (inside j i p q)))

  pub converted_if : (r : Bool) {q0 q1 q2 : List ℕ} → PaintedIf r top (row_planned plan) a b q0 q1 q2 → ConvertedIf r way x a b q0 q1 q2
  converted_if r t =
      let inside = tells_inside way x h top top_is a r t.0 in (
        inside,
        λ e. let m = t.1 e in (mapped (inside.0 e) 0 m.0, (mapped (inside.0 e) 1 m.1.0, mapped (inside.0 e) 2 m.1.1)),
      )

-- ---- the call

module _ (way : Way) (s : Setting) (a : Picture) (b : Layout) where
  -- a call that nothing refuses
  module _ (x : Served) (e : frame_admission way s a b ≡ Ok x) where
    pub done : frame_answer way s a b ≡ Ok tt
    unfolding frame_answer
    done = rw e

    pub plane_done : (k : ℕ) → out_plane k way s a b ≡ converted_plane k way x a b.stride (length_of k b)
    unfolding out_plane
    plane_done k = rw e

  -- a call that is refused
  module _ (r : Refusal) (e : frame_admission way s a b ≡ Err r) where
    pub refused : frame_answer way s a b ≡ Err r
    unfolding frame_answer
    refused = rw e

    pub plane_refused : (k : ℕ) → out_plane k way s a b ≡ zeros (length_of k b)
    unfolding out_plane
    plane_refused k = rw e

    zeroed : {q0 q1 q2 : List ℕ} → (q0 ≡ zeros b.n0) × ((q1 ≡ zeros b.n1) × (q2 ≡ zeros b.n2)) → FrameAfter way s a b (Err r) q0 q1 q2
    zeroed z = (sym refused, (z.0 ∙ sym (plane_refused 0), (z.1.0 ∙ sym (plane_refused 1), z.1.1 ∙ sym (plane_refused 2))))

  -- an attempt that is refused
  pub attempt_refused : (r : Refusal) → frame_admission way s a b ≡ Err r → {q0 q1 q2 : List ℕ} → AttemptAfter way s a b (Err r) q0 q1 q2
  attempt_refused r e = (sym (refused r e), λ f. absurd (never_both r (sym f)))

  -- it is refused by its setting or its sizes
  pub refused_first : (r : Refusal) → by_sizes (Convert way) s a b ≡ Err r → {q0 q1 q2 : List ℕ} → AttemptAfter way s a b (Err r) q0 q1 q2
  refused_first r e = attempt_refused r (still_refused (Convert way) s _ _ r e)

  -- what is refused leaves zeros
  answered : (v : Result Served Refusal) (r : Refusal) → v ≡ frame_admission way s a b → Err r ≡ frame_by v
      → {q0 q1 q2 : List ℕ} → (q0 ≡ zeros b.n0) × ((q1 ≡ zeros b.n1) × (q2 ≡ zeros b.n2)) → FrameAfter way s a b (Err r) q0 q1 q2
  answered (Ok x) r e f z = absurd (never_both r (sym f))
  answered (Err q) r e f {q0} {q1} {q2} z = subst (λ k. FrameAfter way s a b (Err k) q0 q1 q2) (sym (same_refusal f)) (zeroed q (sym e) z)

  pub zeroed_after : (r : Refusal) → Err r ≡ frame_answer way s a b
      → {q0 q1 q2 : List ℕ} → (q0 ≡ zeros b.n0) × ((q1 ≡ zeros b.n1) × (q2 ≡ zeros b.n2)) → FrameAfter way s a b (Err r) q0 q1 q2
  unfolding frame_answer
  zeroed_after r e z = answered (frame_admission way s a b) r refl e z

  pub turned_away : (v : Result Unit Refusal) → is_err v ≡ true → v ≡ frame_answer way s a b
      → {q0 q1 q2 : List ℕ} → (q0 ≡ zeros b.n0) × ((q1 ≡ zeros b.n1) × (q2 ≡ zeros b.n2)) → FrameAfter way s a b v q0 q1 q2
  turned_away (Ok u) h e z = absurd (true≢false (sym h))
  turned_away (Err r) h e z = zeroed_after r e z

module _ {way : Way} {s : Setting} {a : Picture} {b : Layout} {x : Served} (l : FrameSized way s a b x) where
  pub painted_all : Inside l → {q0 q1 q2 : List ℕ} → MappedPlanes (convert way x) a b q0 q1 q2 → AttemptAfter way s a b (Ok tt) q0 q1 q2
  painted_all inside m =
      let e = let_in l inside in (
        sym (done way s a b x e),
        λ t. (m.0 ∙ sym (plane_done way s a b x e 0), (m.1.0 ∙ sym (plane_done way s a b x e 1), m.1.1 ∙ sym (plane_done way s a b x e 2))),
      )
