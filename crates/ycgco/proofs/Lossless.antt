-- The lossless formulas lose nothing: every sample fits its plane, and reverse after forward is the pixel.
-- Forward gives y = (g + t) / 2, cb = g + H − t and cr = r + H − b with t = (r + b) / 2, and H is above every sample.
use mathlib.Core.Path.{◌≡◌, refl, ap, ◌∙◌, subst}
use Prim.Native.Nat.{ℕ, ◌+◌, ◌-◌, ◌/◌}
use native.Mathlib.Omega.{arith}
use lib.IntN.{pos, ◌+ℤ◌, ◌-ℤ◌}
use lib.Pow.{pow_mono}
use Rattle.rounding.specs.Rounding.{half, clip}
use Rattle.rounding.proofs.Difference.{parts}
use Rattle.rounding.proofs.FromParts.{is_pos, clip_within}
use Rattle.sample.specs.Depth.{M, H, InsideRGB, InsideYCC}
use Rattle.sample.specs.declared.Depths.{Depths}
use Rattle.sample.specs.declared.Pixel.{Pixel}
use Rattle.sample.proofs.DepthLaws.{doubles}
use Rattle.ycgco.specs.YCgCo.{LosslessDepths, y_of, cb_of, cr_of, lossless_forward, lossless_reverse}
use Rattle.ycgco.proofs.Arithmetic.{lossless_y, lossless_cb, lossless_cr}
use Rattle.ycgco.proofs.Middle.{wide}

abbrev t : Pixel → ℕ
t p = (p.p0 + p.p2) / 2

abbrev middle : Depths → ℕ
middle d = H d.chroma.0

-- the samples of forward, as natural numbers
abbrev plainly : Depths → Pixel → Pixel
plainly d p = record { p0 = (p.p1 + t p) / 2; p1 = p.p1 + middle d - t p; p2 = p.p0 + middle d - p.p2 }

module _ (d : Depths) (p : Pixel) (k : LosslessDepths d) (h : InsideRGB d p) where
  forward_plainly : plainly d p ≡ lossless_forward d p
  unfolding lossless_forward
  forward_plainly =
      let u = wide k in
      λ i.
      record {
        p0 = lossless_y (middle d) p.p0 p.p1 p.p2 refl i;
        p1 = lossless_cb (middle d) p.p0 p.p1 p.p2 refl (omega arith) i;
        p2 = lossless_cr (middle d) p.p0 p.p1 p.p2 refl (omega arith) i;
      }

  plainly_inside : InsideYCC d (plainly d p)
  plainly_inside =
      let u = wide k in
      let e = doubles d.chroma.0 (omega (arith, k.chroma_room)) in
      let w = pow_mono {j = d.luma.0} k.luma_room in
      record { in0 = omega arith; in1 = omega arith; in2 = omega arith }

  -- every sample of forward fits its plane
  pub lossless_inside : InsideYCC d (lossless_forward d p)
  lossless_inside = subst (λ q. InsideYCC d q) forward_plainly plainly_inside

  -- and is the whole number of its formula, which is never negative
  pub lossless_exact : (pos (lossless_forward d p).p0 ≡ y_of d p) × ((pos (lossless_forward d p).p1 ≡ cb_of d p) × (pos (lossless_forward d p).p2 ≡ cr_of d p))
  lossless_exact =
      let u = wide k in
      rw (← forward_plainly)
      (is_pos _ (search parts depth 20) (omega arith), (is_pos _ (search parts depth 20) (omega arith), is_pos _ (search parts depth 20) (omega arith)))

  abbrev top : ℕ
  top = M d.rgb.0

  abbrev q : Pixel
  q = plainly d p

  green : clip top (pos q.p0 -ℤ half (pos q.p1 -ℤ pos (middle d)) +ℤ (pos q.p1 -ℤ pos (middle d))) ≡ p.p1
  green = let u = wide k in clip_within top p.p1 (search parts depth 30) (omega arith) (omega arith)

  blue : clip top (pos q.p0 -ℤ half (pos q.p1 -ℤ pos (middle d)) -ℤ half (pos q.p2 -ℤ pos (middle d))) ≡ p.p2
  blue = let u = wide k in clip_within top p.p2 (search parts depth 30) (omega arith) (omega arith)

  red : clip top (pos p.p2 +ℤ (pos q.p2 -ℤ pos (middle d))) ≡ p.p0
  red = let u = wide k in clip_within top p.p0 (search parts depth 30) (omega arith) (omega arith)

  -- reverse after forward is the pixel
  pub lossless_trip : lossless_reverse d (lossless_forward d p) ≡ p
  unfolding lossless_reverse
  lossless_trip =
      rw (← forward_plainly)
      (λ i. record { p0 = (ap (λ b. clip top (pos b +ℤ (pos q.p2 -ℤ pos (middle d)))) blue ∙ red) i; p1 = green i; p2 = blue i })
