-- Numerator and denominator of a level are exact as floats, so that the division rounds once and never gives a NaN.
use mathlib.Core.Path.{◌≡◌, refl, sym, ap, ◌∙◌, subst}
use mathlib.Core.Bool.{Bool, true, false, cond}
use Prim.Native.Nat.{ℕ, zero, suc, ◌+◌, ◌*◌, ◌^◌, ◌≤◌, ◌<◌}
use native.Mathlib.Nat.{mul-pos}
use native.Mathlib.Omega.{arith}
use lib.Dec.{T, ltb, le→leb, lt→ltb, eqb-suc-zero}
use lib.IntN.{ℤ, pos, negsuc, nat_abs, ◌-ℤ◌}
use lib.Ieee.{Float, nan, inf, fin, Format, binary32, prec, emax, low, unlike, up, down, odd, units, round, div, of_int, in_float, is_nan}
use lib.Ieee.Exact.{HasValue}
use lib.Ieee.Fits.{up_pos, down_pos}
use lib.Ieee.Back.{round_whole}
use lib.Ieee.Scale.{round_same}
use Rattle.rounding.proofs.Difference.{Holds, subtracted}
use Rattle.sample.specs.Depth.{most_depth, M}
use Rattle.scale.specs.declared.Scale.{Scale}
use Rattle.meter.specs.Level.{float_quotient, IsExactly, nearest_to, IsNumber, Measurable}

-- Whole numbers of up to 24 bits.
pub in_float_lem : (z : ℤ) → nat_abs z ≤ 2 ^ 24 → T (in_float binary32 z)
unfolding in_float
in_float_lem (pos n) h = le→leb n (2 ^ 24) h
in_float_lem (negsuc n) h = lt→ltb n (2 ^ 24) h

pub exact : (z : ℤ) → nat_abs z ≤ 2 ^ 24 → IsExactly (of_int binary32 z) z
unfolding of_int
exact (pos n) h = round_whole binary32 false n h
exact (negsuc n) h = round_whole binary32 true (suc n) h

-- a difference of two numbers is no larger than the larger
size : (z : ℤ) (a b m : ℕ) → Holds z a b → a ≤ m → b ≤ m → nat_abs z ≤ m
size (pos n) a b m h p q = omega arith
size (negsuc n) a b m h p q = omega arith

pub numerator_size : (v : ℕ) (s : Scale) → v ≤ M most_depth → Measurable s → nat_abs (pos v -ℤ pos s.plus) ≤ 2 ^ 24
numerator_size v s l h = size (pos v -ℤ pos s.plus) v s.plus (2 ^ 24) (subtracted v s.plus) (omega arith) (omega arith)

-- A quotient of two exact floats is the fraction, rounded once.
unlike_positive : (s : Bool) → unlike s false ≡ s
unlike_positive true = refl
unlike_positive false = refl

crossed : (m u d n w c a b : ℕ) → m * u * 1 ≡ a * d → n * w * 1 ≡ b * c → m * u * c * b ≡ a * (n * w * d)
crossed m u d n w c a b h k =
    let e : m * u ≡ a * d = omega arith in
    let g : n * w ≡ b * c = omega arith in
    rw (e, g) (omega arith)

divided : (f : Format) (x y : Float) (t : Bool) (a b : ℕ) → 0 < b → HasValue x t a 1 → HasValue y false b 1 → div f x y ≡ round f t a b
unfolding div
divided f nan y t a b p h k = absurd h
divided f (inf s) y t a b p h k = absurd h
divided f (fin s m e) nan t a b p h k = absurd k
divided f (fin s m e) (inf r) t a b p h k = absurd k
divided f (fin s m e) (fin r zero d) t a b p h k = let l = mul-pos p (down_pos d) in absurd (omega arith)
divided f (fin s m e) (fin r (suc n) d) t a b p h k =
    rw (eqb-suc-zero n)
    ((λ i. round f (unlike (h.0 i) (k.0 i)) (m * up e * down d) (suc n * up d * down e))
    ∙ ap (λ q. round f q (m * up e * down d) (suc n * up d * down e)) (unlike_positive t)
    ∙ round_same f t (m * up e * down d) (suc n * up d * down e) a b
    (mul-pos (mul-pos (omega arith) (up_pos d)) (down_pos e)) p
    (crossed m (up e) (down e) (suc n) (up d) (down d) a b h.1 k.1))

over : (z : ℤ) (n : ℕ) → nat_abs z ≤ 2 ^ 24 → 0 < n → n ≤ 2 ^ 24 → div binary32 (of_int binary32 z) (of_int binary32 (pos n)) ≡ nearest_to z n
over (pos m) n h p q = divided binary32 _ _ false m n p (exact (pos m) h) (exact (pos n) q)
over (negsuc m) n h p q = divided binary32 _ _ true (suc m) n p (exact (negsuc m) h) (exact (pos n) q)

pub one_rounding : (v : ℕ) (s : Scale) → v ≤ M most_depth → Measurable s → float_quotient v s ≡ nearest_to (pos v -ℤ pos s.plus) s.times
one_rounding v s l h = over (pos v -ℤ pos s.plus) s.times (numerator_size v s l h) h.some (omega arith)

-- What `f32::to_bits` asks of a level.
odd_number : (d : ℕ) (s : Bool) (q k l : ℕ) → IsNumber (odd d s q k l)
unfolding odd is_nan
odd_number d s zero k l = tt
odd_number d s (suc q) k l = tt

chosen_number : (b : Bool) (x y : Float) → IsNumber x → IsNumber y → IsNumber (cond b x y)
chosen_number true x y h k = h
chosen_number false x y h k = k

units_number : (f : Format) (s : Bool) (q k : ℕ) → IsNumber (units f s q k)
unfolding units is_nan
units_number f s q k =
    chosen_number (ltb (q * 2 ^ k) (2 ^ (low f + suc (emax f)))) (odd (suc (prec f)) s q k (low f)) (inf s)
    (odd_number (suc (prec f)) s q k (low f)) tt

round_number : (f : Format) (s : Bool) (m n : ℕ) → IsNumber (round f s m n)
unfolding round
round_number f s m n = units_number f s _ _

nearest_number : (z : ℤ) (n : ℕ) → IsNumber (nearest_to z n)
nearest_number (pos m) n = round_number binary32 false m n
nearest_number (negsuc m) n = round_number binary32 true (suc m) n

pub is_number : (v : ℕ) (s : Scale) → v ≤ M most_depth → Measurable s → IsNumber (float_quotient v s)
is_number v s l h =
    subst IsNumber (sym (one_rounding v s l h)) (nearest_number (pos v -ℤ pos s.plus) s.times)
