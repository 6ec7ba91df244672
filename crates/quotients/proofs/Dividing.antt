-- Parts that are left out, moved by whole ones and then divided, are one division.
use mathlib.Core.Path.{◌≡◌, sym, ap, ◌∙◌}
use Prim.Native.Nat.{ℕ, ◌+◌, ◌*◌, ◌-◌, ◌/◌, ◌≤◌}
use native.Mathlib.Nat.{mul-add-div_right, div-div-eq-div-mul, le-div_iff_mul-le}
use native.Mathlib.Omega.{arith}
use Rattle.quotients.specs.Parts.{parts}

-- whole parts, added to what is left of a number
moved : (k x : ℕ) → (k * 4294967296 + x) / 4294967296 ≡ k + x / 4294967296
moved k x = mul-add-div_right {m = 4294967296} (omega arith) k x

pub nearest_is : (factor n : ℕ) → (parts factor n + 16384) / 32768 ≡ (factor * n + 70368744177664) / 140737488355328
nearest_is factor n =
    ap (λ x. x / 32768) (plus ∙ sym (moved 16384 (factor * n)))
    ∙ div-div-eq-div-mul (16384 * 4294967296 + factor * n) 4294967296 32768
    ∙ ap (λ x. x / 140737488355328) (omega arith)
  where
    plus : parts factor n + 16384 ≡ 16384 + factor * n / 4294967296
    plus = omega arith

-- what is taken away is there
pub there : (factor n take : ℕ) → take ≤ parts factor n → take * 4294967296 ≤ factor * n
there factor n take h = (le-div_iff_mul-le {k = 4294967296} {x = take} {y = factor * n} (omega arith)).0 h

pub lowered_is : (factor n take v : ℕ) → v + take * 4294967296 ≡ factor * n → (parts factor n - take) / 65536 ≡ v / 281474976710656
lowered_is factor n take v e = ap (λ x. x / 65536) less ∙ div-div-eq-div-mul v 4294967296 65536
  where
    less : parts factor n - take ≡ v / 4294967296
    less =
        let m = moved take v in
        let same : (take * 4294967296 + v) / 4294967296 ≡ factor * n / 4294967296 = ap (λ x. x / 4294967296) (omega arith) in
        omega arith
