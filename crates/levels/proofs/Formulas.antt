-- Each printed formula has the value of its equation, and so has the equation as it is written with fractions: put together term by term,
-- over the denominator that the three levels share.
use mathlib.Core.Path.{◌≡◌, refl, ap, ◌∙◌}
use Prim.Native.Nat.{ℕ, ◌+◌, ◌*◌, ◌<◌}
use native.Mathlib.Nat.{one-mul}
use native.Mathlib.Omega.{arith}
use lib.IntN.{ℤ, pos, nat_abs, ◌+ℤ◌, ◌-ℤ◌, ◌*ℤ◌}
use Rattle.rounding.proofs.Difference.{Parts, parts, parts_of}
use Rattle.rounding.proofs.FromParts.{same, absolute}
use Rattle.fraction.specs.Fraction.{Frac, ◌⊖◌, ◌⊗◌, ◌÷◌, part, whole}
use Rattle.fraction.proofs.Value.{Value, ⊕_value, ⊖_value, ⊗_value, ÷_value, lift, rename}
use Rattle.levels.specs.Paper.{KG, EY, EPB, EPR, ER, EG, EB}
use Rattle.levels.specs.Conversion.{Formula, Shares}
use Rattle.levels.specs.Equations.{level_by, sum_of, equation_y, equation_pb, equation_pr, equation_r, equation_g, equation_b}
use Rattle.levels.specs.declared.equations.Equation.{Equation}
use Rattle.levels.specs.declared.equations.Weights.{Weights}

-- a formula that has the value of an equation, at any three levels over one denominator
pub record Gives (f : Formula) (w : Equation) : Type 0 where
  pub value : {x y z : Frac} {u v t : ℤ} {D : ℕ} → Value x u D → Value y v D → Value z t D → Value (f x y z) (sum_of w u v t) (w.over * D)

pub by_equation : (w : Equation) → 0 < w.over → Gives (level_by w) w
by_equation w h =
    record {
      value = λ a b c.
          ⊕_value
          (⊕_value
          (⊗_value (pos w.up0 -ℤ pos w.down0) w.over h a)
          (⊗_value (pos w.up1 -ℤ pos w.down1) w.over h b))
          (⊗_value (pos w.up2 -ℤ pos w.down2) w.over h c);
    }

-- 2(1 - K), for a weight K of k parts that leaves j of n: to multiply by it, and to divide a difference by it
abbrev pub twice : ℕ → ℕ → Frac
twice k n = whole 2 ⊗ (whole 1 ⊖ part (pos k) n)

module _ (k j n : ℕ) (e : k + j ≡ n) (some : 0 < n) where
  twice_size : nat_abs (twice k n).num ≡ 2 * j
  twice_size = let r : Parts (twice k n).num = search parts in omega (arith, absolute r (omega arith))

  times_twice : {x : Frac} {z : ℤ} {D : ℕ} → Value x z D → Value (twice k n ⊗ x) (pos (2 * j) *ℤ z) (n * D)
  times_twice {x} {z} {D} v =
      rename
      (ap (λ m. m *ℤ z) (same {x = (twice k n).num} {y = pos (2 * j)} (search parts) (search parts) (omega arith)))
      (ap (λ m. m * D) (one-mul _ ∙ one-mul n))
      (⊗_value (twice k n).num (twice k n).den (omega arith) v)

  pub over_twice : {x y : Frac} {z w : ℤ} (D : ℕ) → 0 < j → Value x z (n * D) → Value y w (n * D)
      → Value ((x ⊖ y) ÷ twice k n) (z -ℤ w) (2 * j * D)
  over_twice D h u v =
      ÷_value (twice k n) D n (2 * j) some (rw twice_size (omega arith)) (⊖_value u v) (rw twice_size (omega arith))

module _ (k : Weights) (h : Shares k) where
  pub all_some : 0 < k.all
  all_some = omega arith

  pub all_but_blue : k.kb + (k.kr + k.kg) ≡ k.all
  all_but_blue = omega arith

  pub all_but_red : k.kr + (k.kg + k.kb) ≡ k.all
  all_but_red = omega arith

-- The sums as they are printed: EY of ER, EG, EB; ER and EB of EY with EPR or EPB.
abbrev pub sum_y : Weights → ℤ → ℤ → ℤ → ℤ
sum_y k u v w = pos k.kr *ℤ u +ℤ pos k.kg *ℤ v +ℤ pos k.kb *ℤ w

abbrev pub sum_r : Weights → ℤ → ℤ → ℤ
sum_r k u w = pos k.all *ℤ u +ℤ pos (2 * (k.kg + k.kb)) *ℤ w

abbrev pub sum_b : Weights → ℤ → ℤ → ℤ
sum_b k u v = pos k.all *ℤ u +ℤ pos (2 * (k.kr + k.kg)) *ℤ v

green_numbers : (n kr kg kb ua ub va vb wa wb : ℕ) → kr + kg + kb ≡ n
    → n * (n * ua) + kr * (n * ub + 2 * (kg + kb) * wb) + kb * (n * ub + 2 * (kr + kg) * vb)
    + ((n * kg + 0) * ub + (0 * vb + 2 * kb * (kr + kg) * va) + (0 * wb + 2 * kr * (kg + kb) * wa))
    ≡ (n * kg + 0) * ua + (0 * va + 2 * kb * (kr + kg) * vb) + (0 * wa + 2 * kr * (kg + kb) * wb)
    + (n * (n * ub) + kr * (n * ua + 2 * (kg + kb) * wa) + kb * (n * ua + 2 * (kr + kg) * va))
green_numbers n kr kg kb ua ub va vb wa wb e = omega (arith, ap (λ m. m * (n * ua)) e, ap (λ m. m * (n * ub)) e)

module _ (k : Weights) (h : Shares k) {x y z : Frac} {u v w : ℤ} {D : ℕ} (hx : Value x u D) (hy : Value y v D) (hz : Value z w D) where
  pub printed_y : Value (EY k x y z) (sum_y k u v w) (k.all * D)
  printed_y =
      ⊕_value
      (⊕_value (⊗_value (pos k.kr) k.all (all_some k h) hx) (⊗_value (pos k.kg) k.all (all_some k h) hy))
      (⊗_value (pos k.kb) k.all (all_some k h) hz)

  y_value : Value (EY k x y z) (sum_of (equation_y k) u v w) ((equation_y k).over * D)
  y_value =
      let p = parts_of u in
      let q = parts_of v in
      let r = parts_of w in
      rename (same {x = sum_y k u v w} {y = sum_of (equation_y k) u v w} (search parts) (search parts depth 10) (omega arith)) refl printed_y

  pb_value : Value (EPB k x y z) (sum_of (equation_pb k) u v w) ((equation_pb k).over * D)
  pb_value =
      let p = parts_of u in
      let q = parts_of v in
      let r = parts_of w in
      rename
      (same {x = pos k.all *ℤ w -ℤ sum_y k u v w} {y = sum_of (equation_pb k) u v w} (search parts depth 10) (search parts depth 10)
      (omega (arith, ap (λ m. m * r.plus) h.sum, ap (λ m. m * r.minus) h.sum)))
      refl
      (over_twice k.kb (k.kr + k.kg) k.all (all_but_blue k h) (all_some k h) D (omega arith) (lift k.all hz) printed_y)

  pr_value : Value (EPR k x y z) (sum_of (equation_pr k) u v w) ((equation_pr k).over * D)
  pr_value =
      let p = parts_of u in
      let q = parts_of v in
      let r = parts_of w in
      rename
      (same {x = pos k.all *ℤ u -ℤ sum_y k u v w} {y = sum_of (equation_pr k) u v w} (search parts depth 10) (search parts depth 10)
      (omega (arith, ap (λ m. m * p.plus) h.sum, ap (λ m. m * p.minus) h.sum)))
      refl
      (over_twice k.kr (k.kg + k.kb) k.all (all_but_red k h) (all_some k h) D (omega arith) (lift k.all hx) printed_y)

  -- The reverse, where x, y and z stand for EY, EPB and EPR.
  pub printed_r : Value (ER k x y z) (sum_r k u w) (k.all * D)
  printed_r = ⊕_value (lift k.all hx) (times_twice k.kr (k.kg + k.kb) k.all (all_but_red k h) (all_some k h) hz)

  pub printed_b : Value (EB k x y z) (sum_b k u v) (k.all * D)
  printed_b = ⊕_value (lift k.all hx) (times_twice k.kb (k.kr + k.kg) k.all (all_but_blue k h) (all_some k h) hy)

  r_value : Value (ER k x y z) (sum_of (equation_r k) u v w) ((equation_r k).over * D)
  r_value =
      let p = parts_of u in
      let q = parts_of v in
      let r = parts_of w in
      rename (same {x = sum_r k u w} {y = sum_of (equation_r k) u v w} (search parts depth 10) (search parts depth 10) (omega arith)) refl printed_r

  b_value : Value (EB k x y z) (sum_of (equation_b k) u v w) ((equation_b k).over * D)
  b_value =
      let p = parts_of u in
      let q = parts_of v in
      let r = parts_of w in
      rename (same {x = sum_b k u v} {y = sum_of (equation_b k) u v w} (search parts depth 10) (search parts depth 10) (omega arith)) refl printed_b

  pub g_value : Value (EG k x y z) (sum_of (equation_g k) u v w) ((equation_g k).over * D)
  g_value =
      let p = parts_of u in
      let q = parts_of v in
      let r = parts_of w in
      rename
      (same {x = pos k.all *ℤ (pos k.all *ℤ u) -ℤ pos k.kr *ℤ sum_r k u w -ℤ pos k.kb *ℤ sum_b k u v} {y = sum_of (equation_g k) u v w}
      (search parts depth 14) (search parts depth 10)
      (green_numbers k.all k.kr k.kg k.kb p.plus p.minus q.plus q.minus r.plus r.minus h.sum))
      (omega arith)
      (÷_value (KG k) (k.all * D) k.all k.kg (all_some k h) h.green
      (⊖_value
      (⊖_value (lift k.all (lift k.all hx)) (⊗_value (pos k.kr) k.all (all_some k h) printed_r))
      (⊗_value (pos k.kb) k.all (all_some k h) printed_b))
      refl)

-- the six formulas and their equations
module _ (k : Weights) (h : Shares k) where
  pub gives_y : Gives (EY k) (equation_y k)
  gives_y = record { value = y_value k h }

  pub gives_pb : Gives (EPB k) (equation_pb k)
  gives_pb = record { value = pb_value k h }

  pub gives_pr : Gives (EPR k) (equation_pr k)
  gives_pr = record { value = pr_value k h }

  pub gives_r : Gives (ER k) (equation_r k)
  gives_r = record { value = r_value k h }

  pub gives_g : Gives (EG k) (equation_g k)
  gives_g = record { value = g_value k h }

  pub gives_b : Gives (EB k) (equation_b k)
  gives_b = record { value = b_value k h }
