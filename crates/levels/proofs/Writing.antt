-- An equation's line is the equation, read and written as printed: the line's numbers are the equation's, multiplied out.
use mathlib.Core.Path.{◌≡◌, refl, sym, ap, ◌∙◌}
use mathlib.Core.Bool.{Bool, true, false}
use Prim.Native.Nat.{ℕ, ◌+◌, ◌*◌, ◌<◌}
use native.Mathlib.Nat.{one-mul, mul_comm}
use native.Mathlib.Omega.{arith}
use lib.IntN.{ℤ, pos, ◌+ℤ◌, ◌-ℤ◌, ◌*ℤ◌, +ℤ_idr}
use Rattle.rounding.specs.Rounding.{round, clip}
use Rattle.rounding.proofs.Difference.{parts, parts_of}
use Rattle.rounding.proofs.FromParts.{same}
use Rattle.fraction.specs.Fraction.{Frac, ◌⊕◌, ◌⊗◌, whole, Round}
use Rattle.fraction.proofs.Same.{ring, by_parts}
use Rattle.fraction.proofs.Value.{Value, ⊕_value, ⊗_value, lift, rename, Round-value, itself}
use Rattle.sample.specs.declared.ChromaDepth.{ChromaDepth}
use Rattle.sample.specs.declared.Pixel.{Pixel}
use Rattle.sample.specs.Depth.{M, H, S}
use Rattle.scale.specs.Scale.{light_span, black, chroma_span, grey, light_scale, chroma_scale, level, written, written_chroma}
use Rattle.levels.specs.Equations.{sum_of}
use Rattle.levels.specs.Lines.{writer_of, wrote_level, reader, read, line_of, line_at, line_sample}
use Rattle.scale.specs.declared.Scale.{Scale}
use Rattle.levels.specs.declared.equations.Equation.{Equation}
use Rattle.levels.specs.declared.lines.Readers.{Readers}
use Rattle.levels.specs.declared.lines.Writer.{Writer}

-- a sample's level, on its own scale, and as parts of a denominator that two scales share
level_value : (s : Scale) (v : ℕ) → 0 < s.times → Value (level s v) (pos v -ℤ pos s.plus) s.times
level_value s v = itself (level s v)

pub rgb_value : (s : Scale) (v : ℕ) → 0 < s.times → Value (level s v) (read (reader 1 s.plus) v) s.times
rgb_value s v h = rename refl (one-mul _) (lift 1 (level_value s v h))

pub luma_value : (y c : Scale) (v : ℕ) → 0 < y.times → Value (level y v) (read (reader c.times y.plus) v) (c.times * y.times)
luma_value y c v h = lift c.times (level_value y v h)

pub chroma_value : (y c : Scale) (v : ℕ) → 0 < c.times → Value (level c v) (read (reader y.times c.plus) v) (c.times * y.times)
chroma_value y c v h = rename refl (mul_comm _ _) (lift y.times (level_value c v h))

-- the two ways of writing a level of the value z / n
module _ {e : Frac} {z : ℤ} {n : ℕ} (h : Value e z n) (n-some : 0 < n) where
  full : (m : ℕ) → Round (whole m ⊗ e) ≡ round (pos m *ℤ z +ℤ pos (0 * n)) n
  full m =
      let r = parts_of z in
      Round-value
      (rename (same {x = pos m *ℤ z} {y = pos m *ℤ z +ℤ pos (0 * n)} (search parts) (search parts) (omega arith)) (one-mul n)
      (⊗_value (pos m) 1 (omega arith) h))
      n-some

  whole_value : (m : ℕ) → Value (whole m) (pos (m * n)) n
  whole_value m = record { proper = omega arith; is = by_parts (search parts) (search parts) (omega arith) }

  narrow : (s m o : ℕ) → Round (whole s ⊗ (whole m ⊗ e ⊕ whole o)) ≡ round (pos (m * s) *ℤ z +ℤ pos (o * s * n)) n
  narrow s m o =
      let r = parts_of z in
      Round-value
      (rename
      (same {x = pos s *ℤ (pos m *ℤ z +ℤ pos (o * n))} {y = pos (m * s) *ℤ z +ℤ pos (o * s * n)} (search parts) (search parts) (omega arith))
      (one-mul n)
      (⊗_value (pos s) 1 (omega arith) (⊕_value (rename refl (one-mul n) (⊗_value (pos m) 1 (omega arith) h)) (whole_value o))))
      n-some

  written_law : (f : Bool) (d : ℕ) → written f d e ≡ wrote_level (writer_of f (light_scale f d) (M d)) z n
  written_law true d = ap (clip (M d)) (full (M d) ∙ sym (+ℤ_idr _))
  written_law false d = ap (clip (M d)) (narrow (S d) light_span black ∙ sym (+ℤ_idr _))

  written_chroma_law : (f : Bool) (d : ChromaDepth) → written_chroma f d e ≡ wrote_level (writer_of f (chroma_scale f d) (M d.0)) z n
  written_chroma_law true d = ap (λ x. clip (M d.0) (x +ℤ pos (H d.0))) (full (M d.0))
  written_chroma_law false d = ap (clip (M d.0)) (narrow (S d.0) chroma_span grey ∙ sym (+ℤ_idr _))

-- a line's numerator, over plain numbers: t writes, m and o read the first sample, n and q the two others
line_numbers : (t m n o q u0 u1 u2 d0 d1 d2 x y z k : ℕ)
    → t * (m * u0) * x + t * (n * u1) * y + t * (n * u2) * z + (t * (m * d0) * o + t * (n * d1) * q + t * (n * d2) * q + k)
    + (t * (u0 * (m * o) + d0 * (m * x) + (u1 * (n * q) + d1 * (n * y)) + (u2 * (n * q) + d2 * (n * z))) + 0)
    ≡ t * (u0 * (m * x) + d0 * (m * o) + (u1 * (n * y) + d1 * (n * q)) + (u2 * (n * z) + d2 * (n * q))) + k
    + (t * (m * d0) * x + t * (n * d1) * y + t * (n * d2) * z + (t * (m * u0) * o + t * (n * u1) * q + t * (n * u2) * q))
line_numbers t m n o q u0 u1 u2 d0 d1 d2 x y z k = simp ring (omega arith)

-- an equation's sum over what three samples stand for
abbrev pub equation_at : Equation → Readers → Pixel → ℤ
equation_at w from p = sum_of w (read from.first p.p0) (read from.rest p.p1) (read from.rest p.p2)

line_law : (w : Equation) (from : Readers) (to : Writer) (p : Pixel)
    → line_at (line_of w from to) p ≡ pos to.times *ℤ equation_at w from p +ℤ pos (to.plus * (w.over * from.common))
line_law w from to p =
    let f = from.first in
    let g = from.rest in
    same (search parts depth 20) (search parts depth 20)
    (line_numbers to.times f.mul g.mul f.plus g.plus w.up0 w.up1 w.up2 w.down0 w.down1 w.down2
    p.p0 p.p1 p.p2 (to.plus * (w.over * from.common)))

sample_law : (w : Equation) (from : Readers) (to : Writer) (p : Pixel)
    → line_sample (line_of w from to) p ≡ wrote_level to (equation_at w from p) (w.over * from.common)
sample_law w from to p =
    ap (λ x. clip to.top (round x (w.over * from.common) +ℤ pos to.mid)) (line_law w from to p)

-- The two closing laws: where a level has an equation's value, the equation's line gives the sample that the level is written as.
module _ (w : Equation) (from : Readers) (p : Pixel) {e : Frac} (v : Value e (equation_at w from p) (w.over * from.common)) (some : 0 < w.over * from.common) where
  pub light_sample : (f : Bool) (d : ℕ) → line_sample (line_of w from (writer_of f (light_scale f d) (M d))) p ≡ written f d e
  light_sample f d = sample_law w from (writer_of f (light_scale f d) (M d)) p ∙ sym (written_law v some f d)

  pub chroma_sample : (f : Bool) (d : ChromaDepth) → line_sample (line_of w from (writer_of f (chroma_scale f d) (M d.0))) p ≡ written_chroma f d e
  chroma_sample f d = sample_law w from (writer_of f (chroma_scale f d) (M d.0)) p ∙ sym (written_chroma_law v some f d)
