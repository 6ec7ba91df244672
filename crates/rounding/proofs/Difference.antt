-- Whole numbers as differences of two natural numbers, so that `omega`, which reads ℕ alone, can reason about ℤ.
-- `Holds z a b` says that z is a − b. There is one rule for each operation, and `search parts` puts them together.
use mathlib.Core.Path.{◌≡◌, sym, ap, ◌∙◌}
use mathlib.Core.Bool.{Bool, true, false, not, cond}
use Prim.Native.Nat.{ℕ, zero, suc, ◌+◌, ◌*◌, ◌-◌, ◌/◌, ◌≤◌, ◌<◌}
use native.Mathlib.Nat.{mul-add, add-mul}
use native.Mathlib.Omega.{arith}
use lib.Dec.{T, ltb, ltb→lt, nltb→le}
use lib.IntN.{ℤ, pos, negsuc, neg_ℤ, sub_ℕ, ◌+ℤ◌, ◌-ℤ◌, ◌*ℤ◌}
use Rattle.rounding.specs.Rounding.{half}

abbrev pub Holds : ℤ → ℕ → ℕ → Type 0
Holds (pos n) a b = n + b ≡ a
Holds (negsuc n) a b = b ≡ a + suc n

-- The two parts of z, packed so that `search` can find them.
pub record Parts (z : ℤ) : Type 0 where
  pub plus : ℕ
  pub minus : ℕ
  pub holds : Holds z plus minus

by_test : (c : Bool) (x y : ℤ) (P : ℤ → Type 0) → (T c → P x) → (T (not c) → P y) → P (cond c x y)
by_test true x y P f g = f tt
by_test false x y P f g = g tt

natural_difference : (p q a b : ℕ) → p + b ≡ a + q → Holds (sub_ℕ p q) a b
natural_difference p q a b h =
    by_test (ltb p q) (negsuc (q - suc p)) (pos (p - q)) (λ z. Holds z a b)
    (λ t. let k : p < q = ltb→lt p q t in omega arith)
    (λ t. let k : q ≤ p = nltb→le p q t in omega arith)

negative : (n a b : ℕ) → b ≡ a + n → Holds (neg_ℤ (pos n)) a b
negative zero a b h = omega arith
negative (suc n) a b h = h

pub negated : (z : ℤ) (a b : ℕ) → Holds z a b → Holds (neg_ℤ z) b a
negated (pos n) a b h = negative n b a (omega arith)
negated (negsuc n) a b h = omega arith

pub added : (x y : ℤ) (a b c d : ℕ) → Holds x a b → Holds y c d → Holds (x +ℤ y) (a + c) (b + d)
added (pos n) (pos m) a b c d h k = omega arith
added (pos n) (negsuc m) a b c d h k = natural_difference n (suc m) (a + c) (b + d) (omega arith)
added (negsuc n) (pos m) a b c d h k = natural_difference m (suc n) (a + c) (b + d) (omega arith)
added (negsuc n) (negsuc m) a b c d h k = omega arith

pub subtracted : (m n : ℕ) → Holds (pos m -ℤ pos n) m n
subtracted m zero = omega arith
subtracted m (suc n) = natural_difference m (suc n) m (suc n) (omega arith)

-- half of a − b, rounded down, is (a + b) / 2 − b
pub halved : (z : ℤ) (a b : ℕ) → Holds z a b → Holds (half z) ((a + b) / 2) b
unfolding half
halved (pos n) a b h = omega arith
halved (negsuc n) a b h = omega arith

pub scaled : (k : ℕ) (z : ℤ) (a b : ℕ) → Holds z a b → Holds (pos k *ℤ z) (k * a) (k * b)
scaled k (pos n) a b h = sym (mul-add k n b) ∙ ap (λ x. k * x) h
scaled k (negsuc n) a b h = negative (k * suc n) (k * a) (k * b) (ap (λ x. k * x) h ∙ mul-add k a (suc n))

pub scaled_right : (k : ℕ) (z : ℤ) (a b : ℕ) → Holds z a b → Holds (z *ℤ pos k) (a * k) (b * k)
scaled_right k (pos n) a b h = sym (add-mul n b k) ∙ ap (λ x. x * k) h
scaled_right k (negsuc n) a b h = negative (suc n * k) (a * k) (b * k) (ap (λ x. x * k) h ∙ add-mul a (suc n) k)

pub multiplied : (x y : ℤ) (a b c d : ℕ) → Holds x a b → Holds y c d → Holds (x *ℤ y) (a * c + b * d) (a * d + b * c)
multiplied (pos n) (pos m) a b c d h k = rw (← h, ← k) (omega arith)
multiplied (pos n) (negsuc m) a b c d h k = negative (n * suc m) (a * c + b * d) (a * d + b * c) (rw (← h, k) (omega arith))
multiplied (negsuc n) (pos m) a b c d h k = negative (suc n * m) (a * c + b * d) (a * d + b * c) (rw (h, ← k) (omega arith))
multiplied (negsuc n) (negsuc m) a b c d h k = rw (h, k) (omega arith)

-- The same rules, of packed parts.
abbrev pub parts_pos : {n : ℕ} → Parts (pos n)
parts_pos {n} = record { plus = n; minus = 0; holds = omega arith }

abbrev pub parts_negsuc : {n : ℕ} → Parts (negsuc n)
parts_negsuc {n} = record { plus = 0; minus = suc n; holds = omega arith }

abbrev pub parts_sub : (m n : ℕ) → Parts (pos m -ℤ pos n)
parts_sub m n = record { plus = m; minus = n; holds = subtracted m n }

abbrev pub parts_neg : {z : ℤ} → Parts z → Parts (neg_ℤ z)
parts_neg {z} r = record { plus = r.minus; minus = r.plus; holds = negated z r.plus r.minus r.holds }

abbrev pub parts_add : {x y : ℤ} → Parts x → Parts y → Parts (x +ℤ y)
parts_add {x} {y} r s =
    record {
      plus = r.plus + s.plus;
      minus = r.minus + s.minus;
      holds = added x y r.plus r.minus s.plus s.minus r.holds s.holds;
    }

abbrev pub parts_half : {z : ℤ} → Parts z → Parts (half z)
parts_half {z} r =
    record { plus = (r.plus + r.minus) / 2; minus = r.minus; holds = halved z r.plus r.minus r.holds }

abbrev pub parts_scale : (k : ℕ) {z : ℤ} → Parts z → Parts (pos k *ℤ z)
parts_scale k {z} r = record { plus = k * r.plus; minus = k * r.minus; holds = scaled k z r.plus r.minus r.holds }

abbrev pub parts_scale_right : (k : ℕ) {z : ℤ} → Parts z → Parts (z *ℤ pos k)
parts_scale_right k {z} r =
    record { plus = r.plus * k; minus = r.minus * k; holds = scaled_right k z r.plus r.minus r.holds }

abbrev pub parts_times : {x y : ℤ} → Parts x → Parts y → Parts (x *ℤ y)
parts_times {x} {y} r s =
    record {
      plus = r.plus * s.plus + r.minus * s.minus;
      minus = r.plus * s.minus + r.minus * s.plus;
      holds = multiplied x y r.plus r.minus s.plus s.minus r.holds s.holds;
    }

pub ruleset parts = (
  parts_pos,
  parts_negsuc,
  parts_sub,
  parts_neg,
  parts_add,
  parts_half,
  parts_scale,
  parts_scale_right,
  parts_times,
)

-- Any whole number is what it has above zero less what it has below.
unfoldable pub up : ℤ → ℕ
up (pos n) = n
up (negsuc n) = 0

unfoldable pub down : ℤ → ℕ
down (pos n) = 0
down (negsuc n) = suc n

pub itself : (z : ℤ) → Holds z (up z) (down z)
unfolding up down
itself (pos n) = omega arith
itself (negsuc n) = omega arith

abbrev pub parts_of : (z : ℤ) → Parts z
parts_of z = record { plus = up z; minus = down z; holds = itself z }
