-- Why a quotient can be found by a multiplication: the product never leads above it, and what is left over makes up for the rest.
use mathlib.Core.Path.{◌≡◌, sym, ap, ◌∙◌}
use mathlib.Core.Bool.{Bool, true, false, cond}
use Prim.Native.Nat.{ℕ, ◌+◌, ◌*◌, ◌-◌, ◌/◌, ◌^◌, ◌≤◌, ◌<◌, min}
use native.Mathlib.Nat.{add-mul, mul_assoc, mul_left_comm, mul_right_comm, mul-le-mul_left, mul-le-mul_right, lt_of_mul-lt-mul_right, div-mul-le_self, div-lt_iff_lt-mul, lt-div-mul-add}
use native.Mathlib.Omega.{arith}
use lib.Arith.{digits_div}
use lib.Dec.{ltb}
use lib.Pow.{pow_pos}
use Rattle.sample.specs.Depth.{past_samples}
use Rattle.rounding.specs.Quotient.{shift_of, divisor_of, Divides}

-- f stands for c over d, in steps of p; u is n in steps of p. So u f is at most c times n over d.
scaled : (c n u p f d : ℕ) → f * d ≤ c * p → u * p ≤ n → u * f * d ≤ c * n
scaled c n u p f d h l =
    let one = mul-le-mul_left u h in
    let two = mul-le-mul_left c l in
    let left = mul_assoc u f d in
    let right = mul_left_comm u c p in
    omega arith

pub product_low : (n s f d : ℕ) → f * d ≤ 2 ^ 48 * 2 ^ s → n / 2 ^ s * f * d ≤ 2 ^ 48 * n
product_low n s f d h = scaled (2 ^ 48) n (n / 2 ^ s) (2 ^ s) f d h (div-mul-le_self n (2 ^ s))

-- a product x as above has room, and leads to no more than the quotient
pub product_fits : (x n d : ℕ) → x * d ≤ 2 ^ 48 * n → n / past_samples < d → x < 2 ^ 64
product_fits x n d h l = lt_of_mul-lt-mul_right d {m = x} {n = 2 ^ 64} (omega arith)

pub guess_low : (x n d : ℕ) → x * d ≤ 2 ^ 48 * n → x / 2 ^ 48 * d ≤ n
guess_low x n d h =
    let cut = mul-le-mul_right d (div-mul-le_self x (2 ^ 48)) in
    let order = mul_right_comm (x / 2 ^ 48) (2 ^ 48) d in
    omega arith

-- the quotient, once less than the divisor is left over
pub quotient_is : (n d q r : ℕ) → n / past_samples < d → q * d + r ≡ n → r < d → q ≡ min (n / d) past_samples
quotient_is n d q r h e l =
    let is : n / d ≡ q = ap (λ x. x / d) (sym e) ∙ digits_div q l in
    let small : n / d < past_samples = (div-lt_iff_lt-mul {k = d} {x = n} {y = past_samples} (omega arith)).1 (omega arith) in
    omega arith

-- what stands for a divisor: c over d in steps of p, rounded up before and down after
stands_low : (c d p : ℕ) → 0 < d → 0 < p → c / ((d - 1) / p + 1) * d ≤ c * p
stands_low c d p s t =
    let top : d ≤ ((d - 1) / p + 1) * p = let l = lt-div-mul-add {a = d - 1} t in let more = add-mul ((d - 1) / p) 1 p in omega arith in
    let f = c / ((d - 1) / p + 1) in
    let one = mul-le-mul_left f top in
    let two = mul-le-mul_right p (div-mul-le_self c ((d - 1) / p + 1)) in
    let order = mul_assoc f ((d - 1) / p + 1) p in
    omega arith

-- its shift is a small number, so it may be divided by
chosen_most : (b : Bool) {x y n : ℕ} → x ≤ n → y ≤ n → cond b x y ≤ n
chosen_most true h k = h
chosen_most false h k = k

pub shift_most : (over : ℕ) → shift_of over ≤ 30
unfolding shift_of
shift_most over = chosen_most (ltb over (2 ^ 30)) (omega arith) (chosen_most (ltb over (2 ^ 40)) (omega arith) (chosen_most (ltb over (2 ^ 50)) (omega arith) (omega arith)))

pub divides : (over : ℕ) → 0 < over → Divides (divisor_of over)
divides over h =
    record { some = h; shift_in = shift_most over; below = stands_low (2 ^ 48) over (2 ^ shift_of over) h (pow_pos (shift_of over)) }
