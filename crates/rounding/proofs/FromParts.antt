-- From two parts back to the whole number: equations, fits, Clip and Round.
use mathlib.Core.Path.{◌≡◌, refl, sym, ap, ◌∙◌, subst}
use Prim.Native.Nat.{ℕ, zero, suc, ◌+◌, ◌*◌, ◌-◌, ◌/◌, ◌≤◌, ◌<◌, ◌^◌, min}
use native.Mathlib.Omega.{arith}
use lib.IntN.{ℤ, pos, negsuc, neg_ℤ, nat_abs}
use lib.Pow.{pow_pos}
use lib.Signed.{mag}
use mir.Syntax.{Width}
use mir.Val.{SFits, hbits, to_z, of_z}
use mir.ValLaws.{to_z-of_z}
use Rattle.sample.specs.Depth.{M}
use Rattle.rounding.specs.Rounding.{clip, Clip, round, sample}
use Rattle.rounding.proofs.Difference.{Holds, Parts}

-- Two whole numbers are equal where a + d is c + b, and the other way round.
equal : (x y : ℤ) (a b c d : ℕ) → Holds x a b → Holds y c d → a + d ≡ c + b → x ≡ y
equal (pos n) (pos m) a b c d h k e = ap pos (omega arith)
equal (pos n) (negsuc m) a b c d h k e = absurd (omega arith)
equal (negsuc n) (pos m) a b c d h k e = absurd (omega arith)
equal (negsuc n) (negsuc m) a b c d h k e = ap negsuc (omega arith)

pub same : {x y : ℤ} (r : Parts x) (s : Parts y) → r.plus + s.minus ≡ s.plus + r.minus → x ≡ y
same {x} {y} r s e = equal x y r.plus r.minus s.plus s.minus r.holds s.holds e

one_number : (x : ℤ) (a b c d : ℕ) → Holds x a b → Holds x c d → a + d ≡ c + b
one_number (pos n) a b c d h k = omega arith
one_number (negsuc n) a b c d h k = omega arith

pub apart : {x y : ℤ} (r : Parts x) (s : Parts y) → x ≡ y → r.plus + s.minus ≡ s.plus + r.minus
apart {x} {y} r s e =
    one_number y r.plus r.minus s.plus s.minus (subst (λ z. Holds z r.plus r.minus) e r.holds) s.holds

-- a natural number of the code for a whole number of the formulas
pub is_pos : {z : ℤ} (n : ℕ) (r : Parts z) → n + r.minus ≡ r.plus → pos n ≡ z
is_pos {z} n r e = equal (pos n) z n 0 r.plus r.minus (omega arith) r.holds (omega arith)

is_negsuc : {z : ℤ} (n : ℕ) (r : Parts z) → r.minus ≡ r.plus + suc n → negsuc n ≡ z
is_negsuc {z} n r e = equal (negsuc n) z 0 (suc n) r.plus r.minus (omega arith) r.holds (omega arith)

-- a sample for a whole number that is not negative
pub is_sample : {z : ℤ} (n : ℕ) (r : Parts z) → n + r.minus ≡ r.plus → n ≡ sample z
unfolding sample
is_sample {z} n r e = ap sample (is_pos n r e)

-- the size of a whole number that is not negative
size : (z : ℤ) (a b : ℕ) → Holds z a b → b ≤ a → nat_abs z + b ≡ a
size (pos n) a b h l = h
size (negsuc n) a b h l = absurd (omega arith)

pub absolute : {z : ℤ} (r : Parts z) → r.minus ≤ r.plus → nat_abs z + r.minus ≡ r.plus
absolute {z} r l = size z r.plus r.minus r.holds l

-- a signed number of the machine holds z, and reads back as z
magnitude : (z : ℤ) (a b m : ℕ) → Holds z a b → a < b + m → b ≤ a + m → mag z < m
magnitude (pos n) a b m h l u = omega arith
magnitude (negsuc n) a b m h l u = omega arith

pub signed_fits : {w : Width} {z : ℤ} (r : Parts z) → r.plus < r.minus + 2 ^ hbits w → r.minus ≤ r.plus + 2 ^ hbits w → SFits w z
signed_fits {w} {z} r l u = record { sfits = magnitude z r.plus r.minus (2 ^ hbits w) r.holds l u }

pub reads_back : (w : Width) {z : ℤ} (r : Parts z) → r.plus < r.minus + 2 ^ hbits w → r.minus ≤ r.plus + 2 ^ hbits w → to_z w (of_z w z) ≡ z
reads_back w {z} r l u = to_z-of_z w z (signed_fits r l u)

-- Clip, in the two parts, and what that is within 0..top, at or below 0, at or above top
clip_holds : (top : ℕ) (z : ℤ) (a b : ℕ) → Holds z a b → clip top z ≡ min (a - b) top
unfolding clip
clip_holds top (pos n) a b h = omega arith
clip_holds top (negsuc n) a b h = omega arith

pub clip_of : (top : ℕ) {z : ℤ} (r : Parts z) → clip top z ≡ min (r.plus - r.minus) top
clip_of top {z} r = clip_holds top z r.plus r.minus r.holds

pub clip_within : (top n : ℕ) {z : ℤ} (r : Parts z) → n + r.minus ≡ r.plus → n ≤ top → clip top z ≡ n
clip_within top n r e l = let is = clip_of top r in omega arith

pub clip_most : (top : ℕ) (z : ℤ) → clip top z ≤ top
unfolding clip
clip_most top (pos n) = omega arith
clip_most top (negsuc n) = omega arith

-- so a sample that was clipped lies within its depth
pub clipped : (n : ℕ) (z : ℤ) → Clip n z < 2 ^ n
clipped n z = let u = clip_most (M n) z in let v = pow_pos n in omega arith

pub clip_same : {s t : ℕ} {x y : ℤ} → s ≡ t → x ≡ y → clip s x ≡ clip t y
clip_same p q = λ i. clip (p i) (q i)

-- Round, of a number that is n, and of one that is n below zero
round_at : (n d : ℕ) → round (pos n) d ≡ pos ((2 * n + d) / (2 * d))
unfolding round
round_at n d = refl

round_under : (n d : ℕ) → round (negsuc n) d ≡ neg_ℤ (pos ((2 * suc n + d) / (2 * d)))
unfolding round
round_under n d = refl

pub round_up : (n d : ℕ) {z : ℤ} (r : Parts z) → n + r.minus ≡ r.plus → round z d ≡ pos ((2 * n + d) / (2 * d))
round_up n d r e = ap (λ z. round z d) (sym (is_pos n r e)) ∙ round_at n d

pub round_down : (n d : ℕ) {z : ℤ} (r : Parts z) → 0 < n → n + r.plus ≡ r.minus → round z d ≡ neg_ℤ (pos ((2 * n + d) / (2 * d)))
round_down zero d r l e = absurd (omega arith)
round_down (suc n) d r l e = ap (λ z. round z d) (sym (is_negsuc n r (omega arith))) ∙ round_under n d
