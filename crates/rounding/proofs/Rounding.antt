-- Clip(Round((p - q) / den) + mid) from one quotient, whichever of p and q is larger.
use mathlib.Core.Path.{◌≡◌}
use mathlib.Core.Bool.{Bool, true, false, cond}
use Prim.Native.Nat.{ℕ, ◌+◌, ◌*◌, ◌-◌, ◌/◌, ◌≤◌, ◌<◌, min}
use native.Mathlib.Omega.{arith}
use lib.Dec.{ltb}
use lib.IntN.{pos, neg_ℤ, ◌+ℤ◌, ◌-ℤ◌}
use borrow.Author.Tests.{ltb-true, ltb-false}
use Rattle.sample.specs.Depth.{past_samples}
use Rattle.rounding.specs.Rounding.{round, clip, Rounds}
use Rattle.rounding.proofs.Difference.{parts, parts_sub}
use Rattle.rounding.proofs.FromParts.{clip_of, round_up, round_down}

-- how far p is from q, and that over den, halves away from zero
abbrev pub gap : ℕ → ℕ → ℕ
gap p q = p - q + (q - p)

abbrev pub nearest : ℕ → ℕ → ℕ → ℕ
nearest p q den = (2 * gap p q + den) / (2 * den)

-- n is that, or both are past every sample, which is past every top
pub record Nearest (p q den n : ℕ) : Type 0 where
  pub near : min n past_samples ≡ min (nearest p q den) past_samples

-- so is a quotient whose two numbers are those, however they were worked out, and one that stops past every sample
pub divided : {p q den m over : ℕ} → m ≡ 2 * gap p q + den → over ≡ 2 * den → Nearest p q den (m / over)
divided e f = record { near = λ i. min (e i / f i) past_samples }

pub stopped : {p q den m n : ℕ} → n ≡ min m past_samples → Nearest p q den m → Nearest p q den n
stopped is near = record { near = omega arith }

-- mid moved by it, on the side where p - q lies
module _ (p q den mid top : ℕ) where
  pub from_zero : q ≤ p → clip top (round (pos p -ℤ pos q) den +ℤ pos mid) ≡ min (mid + nearest p q den) top
  from_zero h =
      rw (round_up (gap p q) den (parts_sub p q) (omega arith))
      (let c = clip_of top {z = pos (nearest p q den) +ℤ pos mid} (search parts) in omega arith)

  pub below_zero : p < q → clip top (round (pos p -ℤ pos q) den +ℤ pos mid) ≡ min (mid - nearest p q den) top
  below_zero h =
      rw (round_down (gap p q) den (parts_sub p q) (omega arith) (omega arith))
      (let c = clip_of top {z = neg_ℤ (pos (nearest p q den)) +ℤ pos mid} (search parts) in omega arith)

-- the same by what the code found, and by its test
pub rounded : {p q den mid top n : ℕ} → Rounds p q den mid top → Nearest p q den n → (below : Bool) → ltb p q ≡ below
    → cond below (mid - n) (min (mid + n) top) ≡ clip top (round (pos p -ℤ pos q) den +ℤ pos mid)
rounded {p} {q} {den} {mid} {top} fits is true side =
    let moved = below_zero p q den mid top (ltb-true p q side) in omega arith
rounded {p} {q} {den} {mid} {top} fits is false side =
    let moved = from_zero p q den mid top (ltb-false p q side) in omega arith
