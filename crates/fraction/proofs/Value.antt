-- "x has the value z / D", for a denominator D that the reader chooses: one rule for each operation, so that a formula's value
-- is put together term by term, and no large polynomial is ever met.
use mathlib.Core.Path.{◌≡◌, ap, subst}
use Prim.Native.Nat.{ℕ, ◌+◌, ◌*◌, ◌<◌}
use native.Mathlib.Nat.{mul-pos, mul-add, add-mul, eq_of_mul-eq-mul_left}
use native.Mathlib.Omega.{arith}
use lib.IntN.{ℤ, pos, nat_abs, ◌+ℤ◌, ◌-ℤ◌, ◌*ℤ◌}
use Rattle.rounding.specs.Rounding.{round}
use Rattle.rounding.proofs.Difference.{parts, parts_of, parts_scale, parts_times}
use Rattle.fraction.specs.Fraction.{Frac, ◌⊕◌, ◌⊖◌, ◌⊗◌, ◌÷◌, part, ◌≈◌, SameValue, Round}
use Rattle.fraction.proofs.Same.{ring, Round-≈, to_parts, by_parts, ≈_refl, ≈_sym, ≈_trans}

pub record Value (x : Frac) (z : ℤ) (D : ℕ) : Type 0 where
  pub proper : 0 < x.den
  pub is : x ≈ part z D

pub itself : (x : Frac) → 0 < x.den → Value x x.num x.den
itself x h = record { proper = h; is = ≈_refl x }

sum_numbers : (a b d a' b' d' z z' w w' D : ℕ) → a * D + z' * d ≡ z * d + b * D → a' * D + w' * d' ≡ w * d' + b' * D
    → (a * d' + a' * d) * D + (z' + w') * (d * d') ≡ (z + w) * (d * d') + (b * d' + b' * d) * D
sum_numbers a b d a' b' d' z z' w w' D u v =
    simp ring (omega (arith, simp ring at (ap (λ n. n * d') u), simp ring at (ap (λ n. n * d) v)))

module _ {x y : Frac} {z w : ℤ} {D : ℕ} (u : x ≈ part z D) (v : y ≈ part w D) where
  sum : x ⊕ y ≈ part (z +ℤ w) D
  sum =
      let r = parts_of x.num in
      let r' = parts_of y.num in
      let s = parts_of z in
      let s' = parts_of w in
      by_parts {x = x ⊕ y} {y = part (z +ℤ w) D} (search parts) (search parts)
      (sum_numbers r.plus r.minus x.den r'.plus r'.minus y.den s.plus s.minus s'.plus s'.minus D
      (to_parts r s u) (to_parts r' s' v))

  difference : x ⊖ y ≈ part (z -ℤ w) D
  difference =
      let r = parts_of x.num in
      let r' = parts_of y.num in
      let s = parts_of z in
      let s' = parts_of w in
      by_parts {x = x ⊖ y} {y = part (z -ℤ w) D} (search parts) (search parts)
      (sum_numbers r.plus r.minus x.den r'.minus r'.plus y.den s.plus s.minus s'.minus s'.plus D
      (to_parts r s u) (omega (arith, to_parts r' s' v)))

times_numbers : (p q a b d z z' D n : ℕ) → a * D + z' * d ≡ z * d + b * D
    → (p * a + q * b) * (n * D) + (p * z' + q * z) * (n * d) ≡ (p * z + q * z') * (n * d) + (p * b + q * a) * (n * D)
times_numbers p q a b d z z' D n u =
    simp ring (omega (arith, simp ring at (ap (λ k. k * (n * p)) u), simp ring at (ap (λ k. k * (n * q)) u)))

product : (m : ℤ) (n : ℕ) {x : Frac} {z : ℤ} {D : ℕ} → x ≈ part z D → part m n ⊗ x ≈ part (m *ℤ z) (n * D)
product m n {x} {z} {D} u =
    let t = parts_of m in
    let r = parts_of x.num in
    let s = parts_of z in
    by_parts {x = part m n ⊗ x} {y = part (m *ℤ z) (n * D)} (parts_times t r) (parts_times t s)
    (times_numbers t.plus t.minus r.plus r.minus x.den s.plus s.minus D n (to_parts r s u))

lift_numbers : (a b d z z' D n : ℕ) → a * D + z' * d ≡ z * d + b * D → a * (n * D) + n * z' * d ≡ n * z * d + b * (n * D)
lift_numbers a b d z z' D n u = simp ring (omega (arith, simp ring at (ap (λ k. k * n) u)))

lifted : (n : ℕ) {x : Frac} {z : ℤ} {D : ℕ} → x ≈ part z D → x ≈ part (pos n *ℤ z) (n * D)
lifted n {x} {z} {D} u =
    let r = parts_of x.num in
    let s = parts_of z in
    by_parts {x = x} {y = part (pos n *ℤ z) (n * D)} r (parts_scale n s)
    (lift_numbers r.plus r.minus x.den s.plus s.minus D n (to_parts r s u))

regroup : (a n D m e : ℕ) → n * (a * e * (m * D)) ≡ a * (n * D) * (m * e)
regroup a n D m e = simp ring

over_numbers : (a b d z z' D n m e N : ℕ) → a * (n * D) + z' * d ≡ z * d + b * (n * D) → N * n ≡ m * e
    → n * (a * e * (m * D) + z' * (d * N)) ≡ n * (z * (d * N) + b * e * (m * D))
over_numbers a b d z z' D n m e N u v =
    let f : n * (z' * (d * N)) ≡ z' * d * (N * n) = simp ring in
    let g : n * (z * (d * N)) ≡ z * d * (N * n) = simp ring in
    let h = ap (λ k. k * (m * e)) u in
    simp (mul-add, f, g, v, regroup) (simp add-mul at h)

quotient : {x : Frac} (y : Frac) {z : ℤ} (D n m : ℕ) → 0 < n → x ≈ part z (n * D) → nat_abs y.num * n ≡ m * y.den → x ÷ y ≈ part z (m * D)
quotient {x} y {z} D n m p u v =
    let r = parts_of x.num in
    let s = parts_of z in
    by_parts {x = x ÷ y} {y = part z (m * D)} (search parts) s
    (eq_of_mul-eq-mul_left n p _ _
    (over_numbers r.plus r.minus x.den s.plus s.minus D n m y.den (nat_abs y.num) (to_parts r s u) v))

-- The rules.
pub ⊕_value : {x y : Frac} {z w : ℤ} {D : ℕ} → Value x z D → Value y w D → Value (x ⊕ y) (z +ℤ w) D
⊕_value u v = record { proper = mul-pos u.proper v.proper; is = sum u.is v.is }

pub ⊖_value : {x y : Frac} {z w : ℤ} {D : ℕ} → Value x z D → Value y w D → Value (x ⊖ y) (z -ℤ w) D
⊖_value u v = record { proper = mul-pos u.proper v.proper; is = difference u.is v.is }

-- a constant m / n multiplies D by n
pub ⊗_value : (m : ℤ) (n : ℕ) → 0 < n → {x : Frac} {z : ℤ} {D : ℕ} → Value x z D → Value (part m n ⊗ x) (m *ℤ z) (n * D)
⊗_value m n h u = record { proper = mul-pos h u.proper; is = product m n u.is }

-- a fraction y, which is m / n and above 0, puts m for the n of the denominator
pub ÷_value : {x : Frac} (y : Frac) {z : ℤ} (D n m : ℕ) → 0 < n → 0 < nat_abs y.num → Value x z (n * D)
    → nat_abs y.num * n ≡ m * y.den → Value (x ÷ y) z (m * D)
÷_value y D n m p q u v = record { proper = mul-pos u.proper q; is = quotient y D n m p u.is v }

-- both multiplied by n
pub lift : (n : ℕ) {x : Frac} {z : ℤ} {D : ℕ} → Value x z D → Value x (pos n *ℤ z) (n * D)
lift n u = record { proper = u.proper; is = lifted n u.is }

-- the same numbers under other names
pub rename : {x : Frac} {z w : ℤ} {D F : ℕ} → z ≡ w → D ≡ F → Value x z D → Value x w F
rename {x} e f u = record { proper = u.proper; is = subst (λ y. x ≈ y) (λ i. part (e i) (f i)) u.is }

pub Round-value : {x : Frac} {z : ℤ} {D : ℕ} → Value x z D → 0 < D → Round x ≡ round z D
Round-value u h = Round-≈ u.proper h u.is

-- two fractions of one value
pub both : {x y : Frac} {z : ℤ} {D : ℕ} → 0 < D → Value x z D → Value y z D → SameValue x y
both {x} {y} {z} {D} h u v =
    record { left_proper = u.proper; right_proper = v.proper; equal = ≈_trans {y = part z D} h u.is (≈_sym v.is) }
