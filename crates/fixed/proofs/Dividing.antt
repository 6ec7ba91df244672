-- Long division keeps an equation: whole parts and rest, twice as large with each bit.
use mathlib.Core.Path.{◌≡◌, sym, ap, ◌∙◌}
use Prim.Native.Nat.{ℕ, ◌+◌, ◌*◌, ◌/◌, ◌^◌, ◌≤◌, ◌<◌}
use native.Mathlib.Nat.{pow-succ', mul-le-mul_right}
use native.Mathlib.Numerals.{add-one}
use native.Mathlib.Omega.{arith}
use lib.Arith.{digits_div}
use lib.Pow.{pow_mono}
use Rattle.fixed.specs.Steps.{Parts}
use Rattle.fixed.specs.declared.division.Part.{Part}

pub double : (i : ℕ) → 2 ^ (i + 1) ≡ 2 * 2 ^ i
double i = rw (add-one, pow-succ')

-- no bit yet, and one bit more
pub none : (p : Part) (e : ℕ) → p.rest < e → Parts p e 1 p
none p e h = record { exact = omega arith; rest_in = h; whole_in = omega arith }

pub more : {p q r : Part} {e : ℕ} (i : ℕ) → Parts p e (2 ^ i) q → Parts q e 2 r → Parts p e (2 ^ (i + 1)) r
more {p} {q} {r} {e} i h k =
    rw (double i)
    (record {
      exact = let a = h.exact in let b = k.exact in omega arith;
      rest_in = k.rest_in;
      whole_in = let a = h.whole_in in let b = k.whole_in in omega arith;
    })

-- while bits are left, a quotient that began at w has room for one more
pub room : (i n w : ℕ) → i < n → 2 ^ n * (w + 1) ≤ 2 ^ 64 → 2 ^ i * (w + 1) ≤ 2 ^ 63
room i n w l h =
    let up : 2 ^ (i + 1) ≤ 2 ^ n = pow_mono (omega arith) in
    let all = mul-le-mul_right (w + 1) up in
    let both = ap (λ u. u * (w + 1)) (double i) in
    omega arith

-- what is exact but for less than e is the quotient
pub quotient_is : {q e rest n : ℕ} → q * e + rest ≡ n → rest < e → q ≡ n / e
quotient_is {q} {e} h l = sym (digits_div q l) ∙ ap (λ k. k / e) h
