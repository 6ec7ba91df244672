-- Laws of a loop that asks whether a row comes back: it gathers the bits in which its pixels differ from what they become, and where it has
-- gathered none every pixel so far came back.
use mathlib.Core.Path.{◌≡◌, ap, ◌∙◌, subst}
use mathlib.Core.Bool.{true}
use Prim.Native.Nat.{ℕ, ◌+◌, ◌<◌}
use native.Mathlib.Omega.{arith}
use borrow.Author.Count.{below_more}
use borrow.Author.Tests.{eq-eqb}
use lib.Bits.{bit_or, bit_xor, and_le_l, and_le_r, or_add_and, xor_add_and}
use Rattle.sample.specs.declared.Pixel.{Pixel}
use Rattle.plan.specs.Source.{same_pixel, comes_back}
use Rattle.planes.specs.Three.{Three, pixel_in}

-- of two numbers neither has a bit, and no bit is in one of them alone
neither : (a b : ℕ) → bit_or a b ≡ 0 → (a ≡ 0) × (b ≡ 0)
neither a b e = omega (arith, or_add_and a b, and_le_l a b, and_le_r a b)

alike : (a b : ℕ) → bit_xor a b ≡ 0 → a ≡ b
alike a b e = omega (arith, xor_add_and a b, and_le_l a b, and_le_r a b)

pub same_by_bits : (p q : Pixel) → bit_or (bit_or (bit_xor p.p0 q.p0) (bit_xor p.p1 q.p1)) (bit_xor p.p2 q.p2) ≡ 0 → same_pixel p q ≡ true
same_by_bits p q e =
    let t = neither _ _ e in
    let u = neither _ _ t.0 in
    rw (eq-eqb _ _ (alike p.p0 q.p0 u.0), eq-eqb _ _ (alike p.p1 q.p1 u.1), eq-eqb _ _ (alike p.p2 q.p2 t.1))

-- The loop's invariant: the bits gathered from the first i pixels.
pub record BackUntil (back forth : Pixel → Pixel) (a : Three) (bits i : ℕ) : Type 0 where
  pub came_back : bits ≡ 0 → (k : ℕ) → k < i → comes_back back forth (pixel_in a k) ≡ true

module _ {back forth : Pixel → Pixel} {a : Three} where
  -- a turn: the pixel p at i has the source q, and that becomes r
  pub back_more : {bits more i : ℕ} {p q r : Pixel} → BackUntil back forth a bits i → p ≡ pixel_in a i → q ≡ back p → r ≡ forth q
      → (more ≡ 0 → same_pixel r p ≡ true) → BackUntil back forth a (bit_or bits more) (i + 1)
  back_more {bits} {more} {i} {p} {q} {r} w e f g h =
      record {
        came_back = λ z.
            let n = neither bits more z in
            below_more (λ k. comes_back back forth (pixel_in a k) ≡ true) i (w.came_back n.0)
            (subst (λ x. comes_back back forth x ≡ true) e (subst (λ x. same_pixel x p ≡ true) (g ∙ ap forth f) (h n.1)));
      }
