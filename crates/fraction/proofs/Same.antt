-- Fractions of the same value. Round cannot tell them apart.
use mathlib.Core.Path.{◌≡◌, refl, sym, ap, ◌∙◌}
use Prim.Native.Nat.{ℕ, suc, ◌+◌, ◌*◌, ◌/◌, ◌<◌}
use native.Mathlib.Nat.{mul-pos, mul_comm, mul_assoc, mul_left_comm, mul-add, add-mul, one-mul, mul-one, mul-zero, zero-mul, mul-div-mul_right, eq_of_mul-eq-mul_right}
use native.Mathlib.Omega.{arith}
use lib.IntN.{ℤ, pos, negsuc, neg_ℤ, ◌*ℤ◌}
use Rattle.rounding.specs.Rounding.{round}
use Rattle.rounding.proofs.Difference.{Parts, parts, parts_of}
use Rattle.rounding.proofs.FromParts.{same, apart, round_down}
use Rattle.fraction.specs.Fraction.{Frac, ◌≈◌, Round}

-- sums of products in one order, so that `omega` meets each product once
pub ruleset ring = (mul-add, add-mul, mul_assoc, mul_comm, mul_left_comm, one-mul, mul-one, mul-zero, zero-mul)

scaled : (a d e : ℕ) → 0 < e → (2 * (a * e) + d * e) / (2 * (d * e)) ≡ (2 * a + d) / (2 * d)
scaled a d e h =
    let p : 2 * (a * e) + d * e ≡ (2 * a + d) * e = omega arith in
    let q : 2 * (d * e) ≡ 2 * d * e = omega arith in
    rw (p, q) (mul-div-mul_right (2 * a + d) (2 * d) h)

round_scale : (z : ℤ) (d e : ℕ) → 0 < e → round (z *ℤ pos e) (d * e) ≡ round z d
unfolding round
round_scale (pos a) d e h = ap pos (scaled a d e h)
round_scale (negsuc a) d e h =
    round_down (suc a * e) (d * e) {z = neg_ℤ (pos (suc a * e))} (search parts) (mul-pos {m = suc a} (omega arith) h) (omega arith)
    ∙ ap (λ n. neg_ℤ (pos n)) (scaled (suc a) d e h)

pub Round-≈ : {x y : Frac} → 0 < x.den → 0 < y.den → x ≈ y → Round x ≡ Round y
Round-≈ {x} {y} p q e =
    sym (round_scale x.num x.den y.den q)
    ∙ (λ i. round (e.crossed i) (mul_comm x.den y.den i))
    ∙ round_scale y.num y.den x.den p

-- the same value, said of the numerators' parts
pub to_parts : {x y : Frac} (r : Parts x.num) (s : Parts y.num) → x ≈ y
    → r.plus * y.den + s.minus * x.den ≡ s.plus * x.den + r.minus * y.den
to_parts {x} {y} r s e =
    apart {x = x.num *ℤ pos y.den} {y = y.num *ℤ pos x.den} (search parts) (search parts) e.crossed

pub by_parts : {x y : Frac} (r : Parts x.num) (s : Parts y.num)
    → r.plus * y.den + s.minus * x.den ≡ s.plus * x.den + r.minus * y.den → x ≈ y
by_parts {x} {y} r s e =
    record { crossed = same {x = x.num *ℤ pos y.den} {y = y.num *ℤ pos x.den} (search parts) (search parts) e }

pub ≈_refl : (x : Frac) → x ≈ x
≈_refl x = record { crossed = refl }

pub ≈_sym : {x y : Frac} → x ≈ y → y ≈ x
≈_sym e = record { crossed = sym e.crossed }

trans_numbers : (a b d c e f g h k : ℕ) → 0 < f → a * f + e * d ≡ c * d + b * f → c * k + h * f ≡ g * f + e * k
    → (a * k + h * d) * f ≡ (g * d + b * k) * f
trans_numbers a b d c e f g h k p u v = omega (arith, ap (λ n. n * k) u, ap (λ n. n * d) v)

pub ≈_trans : {x y z : Frac} → 0 < y.den → x ≈ y → y ≈ z → x ≈ z
≈_trans {x} {y} {z} p u v =
    let r = parts_of x.num in
    let s = parts_of y.num in
    let t = parts_of z.num in
    by_parts r t
    (eq_of_mul-eq-mul_right y.den p _ _
    (trans_numbers r.plus r.minus x.den s.plus s.minus y.den t.plus t.minus z.den p (to_parts r s u) (to_parts s t v)))
