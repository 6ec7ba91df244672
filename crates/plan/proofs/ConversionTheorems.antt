-- What the conversion does on settings that are not refused: samples stay within depth, lossless settings lose nothing, and a luma and
-- chroma pixel has a source exactly if it comes back the same. Once for all depths, formulas by formulas.
use mathlib.Core.Path.{◌≡◌, refl, sym, ap, ◌∙◌, subst}
use mathlib.Core.Bool.{Bool, true, false}
use mathlib.Core.Logic.{⊎_elim}
use Prim.Native.Nat.{ℕ, ◌^◌, ◌≤◌, ◌<◌}
use native.Mathlib.Omega.{arith}
use borrow.Author.Tests.{eqb-true, eq-eqb, lt-ltb, le-ltb}
use lib.Dec.{eqb}
use Rattle.rounding.proofs.FromParts.{clipped}
use Rattle.fraction.specs.Fraction.{Frac}
use Rattle.sample.specs.Depth.{InsideRGB, InsideYCC, ThreeDepths}
use Rattle.sample.specs.declared.ChromaDepth.{ChromaDepth}
use Rattle.sample.specs.declared.Depths.{Depths}
use Rattle.sample.specs.declared.Pixel.{Pixel}
use Rattle.sample.proofs.Choices.{both_true, below_or_not}
use Rattle.ycgco.specs.YCgCo.{LossyDepths, LosslessDepths}
use Rattle.ycgco.proofs.Lossless.{lossless_inside, lossless_trip}
use Rattle.ycgco.proofs.Insides.{lossless_reverse_inside, lossy_reverse_inside, lossy_inside}
use Rattle.scale.specs.Scale.{written, written_chroma}
use Rattle.levels.specs.Conversion.{levels_forward, levels_reverse}
use Rattle.levels.specs.declared.LevelSetting.{LevelSetting}
use Rattle.levels.specs.declared.equations.LevelMatrix.{LevelMatrix}
use Rattle.codes.specs.declared.matrix.Formulas.{Formulas}
use Rattle.codes.specs.declared.matrix.Formulas.TheVariants.{ChangePlaces, YCgCo, Levels}
use Rattle.setting.specs.Ready.{level_setting, Agreed, Ready, Keeping, Keeps}
use Rattle.setting.specs.declared.Way.{Way}
use Rattle.setting.specs.declared.Way.TheVariants.{Forward, Reverse}
use Rattle.setting.specs.declared.admission.Served.{Served}
use Rattle.plan.specs.Conversion.{lossy, lossless, ycgco_by, convert_by, convert}
use Rattle.plan.specs.Source.{HasSource, same_pixel, has_source}

-- a level that was written lies within the depth
written_inside : (full : Bool) (d : ℕ) (e : Frac) → written full d e < 2 ^ d
written_inside true d e = clipped d _
written_inside false d e = clipped d _

chroma_inside : (full : Bool) (d : ChromaDepth) (e : Frac) → written_chroma full d e < 2 ^ d.0
chroma_inside true d e = clipped d.0 _
chroma_inside false d e = clipped d.0 _

module _ (m : LevelMatrix) (s : LevelSetting) (p : Pixel) where
  levels_inside : InsideYCC s.depths (levels_forward m s p)
  unfolding levels_forward
  levels_inside =
      record {
        in0 = written_inside s.ycc_full s.depths.luma.0 _;
        in1 = chroma_inside s.ycc_full s.depths.chroma _;
        in2 = chroma_inside s.ycc_full s.depths.chroma _;
      }

  levels_reverse_inside : InsideRGB s.depths (levels_reverse m s p)
  unfolding levels_reverse
  levels_reverse_inside =
      record {
        in0 = written_inside s.rgb_full s.depths.rgb.0 _;
        in1 = written_inside s.rgb_full s.depths.rgb.0 _;
        in2 = written_inside s.rgb_full s.depths.rgb.0 _;
      }

-- YCgCo is lossless where chroma is deeper than RGB, and else lossy
module _ (w : Way) (d : Depths) (p : Pixel) where
  as_lossless : d.rgb.0 < d.chroma.0 → ycgco_by w d p ≡ lossless w d p
  as_lossless l = rw (lt-ltb _ _ l)

  as_lossy : d.chroma.0 ≤ d.rgb.0 → ycgco_by w d p ≡ lossy w d p
  as_lossy l = rw (le-ltb _ _ l)

module _ (d : Depths) (h : ThreeDepths d) (k : (d.rgb.0 ≤ d.luma.0) × (d.luma.0 ≤ d.chroma.0)) where
  pub lossless_depths : d.rgb.0 < d.chroma.0 → LosslessDepths d
  lossless_depths l = record { rgb_some = omega arith; chroma_room = omega arith; luma_room = k.0; chroma_most = h.chroma.most }

  pub lossy_depths : LossyDepths d
  lossy_depths = record { rgb_most = h.rgb.most; chroma_some = omega (arith, h.chroma.least); chroma_most = h.chroma.most }

module _ (s : Served) (p : Pixel) (r : Ready s) where
  abbrev d : Depths
  d = s.depths

  -- every forward sample lies within its plane's depth
  forward_by : (f : Formulas) → Agreed f s → InsideRGB d p → InsideYCC d (convert_by Forward f s p)
  forward_by ChangePlaces k h =
      record {
        in0 = subst (λ n. p.p1 < 2 ^ n) k.0 h.in1;
        in1 = subst (λ n. p.p2 < 2 ^ n) (k.0 ∙ k.1) h.in2;
        in2 = subst (λ n. p.p0 < 2 ^ n) (k.0 ∙ k.1) h.in0;
      }
  forward_by YCgCo k h =
      ⊎_elim
      (λ l. subst (InsideYCC d) (sym (as_lossless Forward d p l)) (lossless_inside d p (lossless_depths d r.three k l) h))
      (λ l. subst (InsideYCC d) (sym (as_lossy Forward d p l)) (lossy_inside d p h k.0))
      (below_or_not d.rgb.0 d.chroma.0)
  forward_by (Levels m) k h = levels_inside m (level_setting s) p

  pub forward_inside : InsideRGB d p → InsideYCC d (convert Forward s p)
  unfolding convert
  forward_inside h = forward_by s.formulas r.agreed h

  -- and so does every reverse sample, of a pixel within depth
  reverse_by : (f : Formulas) → Agreed f s → InsideYCC d p → InsideRGB d (convert_by Reverse f s p)
  reverse_by ChangePlaces k h =
      record {
        in0 = subst (λ n. p.p2 < 2 ^ n) (sym (k.0 ∙ k.1)) h.in2;
        in1 = subst (λ n. p.p0 < 2 ^ n) (sym k.0) h.in0;
        in2 = subst (λ n. p.p1 < 2 ^ n) (sym (k.0 ∙ k.1)) h.in1;
      }
  reverse_by YCgCo k h =
      ⊎_elim
      (λ l. subst (InsideRGB d) (sym (as_lossless Reverse d p l)) (lossless_reverse_inside d p))
      (λ l. subst (InsideRGB d) (sym (as_lossy Reverse d p l)) (lossy_reverse_inside d p))
      (below_or_not d.rgb.0 d.chroma.0)
  reverse_by (Levels m) k h = levels_reverse_inside m (level_setting s) p

  pub reverse_inside : InsideYCC d p → InsideRGB d (convert Reverse s p)
  unfolding convert
  reverse_inside h = reverse_by s.formulas r.agreed h

  -- on a lossless setting reverse after forward is the pixel
  trip_by : (f : Formulas) → Agreed f s → Keeping f s → InsideRGB d p → convert_by Reverse f s (convert_by Forward f s p) ≡ p
  trip_by ChangePlaces k e h = refl
  trip_by YCgCo k e h =
      let l : d.rgb.0 < d.chroma.0 = omega arith in
      as_lossless Reverse d (convert_by Forward YCgCo s p) l
      ∙ ap (lossless Reverse d) (as_lossless Forward d p l)
      ∙ lossless_trip d p (lossless_depths d r.three k l) h
  trip_by (Levels m) k e h = absurd e

  pub trip : Keeps s → InsideRGB d p → convert Reverse s (convert Forward s p) ≡ p
  unfolding convert
  trip e h = trip_by s.formulas r.agreed e h

-- so forward is one-to-one there
pub one_to_one : (s : Served) (p q : Pixel) → Ready s → Keeps s → InsideRGB s.depths p → InsideRGB s.depths q
    → convert Forward s p ≡ convert Forward s q → p ≡ q
one_to_one s p q r e h k f = sym (trip s p r e h) ∙ ap (convert Reverse s) f ∙ trip s q r e k

-- the test of equal pixels
pub same_pixel_lem : (p q : Pixel) → same_pixel p q ≡ true → p ≡ q
same_pixel_lem p q e =
    let t = both_true (eqb p.p0 q.p0) _ e in
    let u = both_true (eqb p.p1 q.p1) _ t.1 in
    λ i. record { p0 = eqb-true p.p0 q.p0 t.0 i; p1 = eqb-true p.p1 q.p1 u.0 i; p2 = eqb-true p.p2 q.p2 u.1 i }

pub pixel_same : (p q : Pixel) → p ≡ q → same_pixel p q ≡ true
pixel_same p q e = rw (eq-eqb _ _ (ap (λ x. x.p0) e), eq-eqb _ _ (ap (λ x. x.p1) e), eq-eqb _ _ (ap (λ x. x.p2) e))

-- a pixel within depth has a source exactly if the test says so
module _ (s : Served) (p : Pixel) (r : Ready s) (e : Keeps s) where
  pub tested : InsideYCC s.depths p → has_source s p ≡ true → HasSource s p
  unfolding has_source
  tested h t = record { source = convert Reverse s p; inside = reverse_inside s p r h; converts = same_pixel_lem _ _ t }

  pub has_source_lem : HasSource s p → has_source s p ≡ true
  unfolding has_source
  has_source_lem x =
      pixel_same _ _
      (ap (λ q. convert Forward s (convert Reverse s q)) (sym x.converts) ∙ ap (convert Forward s) (trip s x.source r e x.inside) ∙ x.converts)
