-- Numbers that passed the tests are exact.
use mathlib.Core.Path.{◌≡◌, ap, ◌∙◌}
use Prim.Native.Nat.{ℕ, ◌+◌, ◌*◌, ◌-◌, ◌/◌, ◌≤◌, ◌<◌}
use native.Mathlib.Nat.{lt-div-mul-add, div-mul-le_self}
use native.Mathlib.Omega.{arith}
use Rattle.runs.specs.declared.Run.{Run}
use Rattle.quotients.specs.Exact.{Even, LumaExact, ShareExact, Testable}
use Rattle.quotients.specs.declared.factors.Share.{Share}

-- a quotient and one more is past the unit, by its divisor at the most
pub record Past (d : ℕ) : Type 0 where
  pub over : 140737488355328 < (140737488355328 / d + 1) * d
  pub under : (140737488355328 / d + 1) * d ≤ 140737488355328 + d

pub past_unit : (d : ℕ) → 0 < d → Past d
past_unit d some =
    let high = lt-div-mul-add {a = 140737488355328} some in
    let low = div-mul-le_self 140737488355328 d in
    record { over = omega arith; under = omega arith }

pub luma_exact : {r : Run} (scale bias e factor : ℕ) → Even r e (e / 2) → r.start ≡ 0 → 140737488355328 < factor * (scale * e)
    → (factor * (scale * e) - 140737488355328) * bias < 140737488355328 → LumaExact r scale bias factor
luma_exact {r} scale bias e factor even none past fine =
    let some = even.h_some in
    record {
      e = e;
      h = e / 2;
      rest = factor * (scale * e) - 140737488355328;
      miss = 0;
      evenly = even;
      factor_is = omega arith;
      rest_some = omega arith;
      start_is = rw none (omega arith);
      tie = omega arith;
      past_fine = rw none (omega arith);
      short_fine = rw none (omega arith);
      above = rw none (omega arith);
    }

pub share_exact : {r : Run} {mid scale bias low e : ℕ} (s : Share) (rest miss : ℕ) → Testable r scale bias low mid → Even r e (e / 2)
    → s.factor * (scale * e) ≡ 281474976710656 + rest → s.factor * (scale * bias) + miss ≡ s.take * 4294967296 + mid * 281474976710656 + 140737488355328
    → 0 < rest → 2 * miss ≤ rest → rest * (bias - low) + e * miss < 281474976710656 → bias - low < e * mid + e / 2 → ShareExact r mid scale bias low s
share_exact {r} {mid} {scale} {bias} {low} {e} s rest miss t even units start some tie fine far =
    let in-low = t.low_in in
    let up : rest * (2 * bias - low) ≡ rest * bias + rest * (bias - low) = ap (λ i. rest * i) (around bias low in-low) ∙ omega arith in
    let down : rest * bias ≡ rest * low + rest * (bias - low) = ap (λ i. rest * i) (apart bias low in-low) ∙ omega arith in
    record {
      e = e;
      h = e / 2;
      rest = rest;
      miss = miss;
      evenly = even;
      factor_is = omega arith;
      rest_some = some;
      start_is = rw t.start_is (omega arith);
      tie = tie;
      past_fine = rw t.start_is (omega arith);
      short_fine = rw t.start_is (omega arith);
      above = rw t.start_is (omega arith);
    }
  where
    around : (bias low : ℕ) → low ≤ bias → 2 * bias - low ≡ bias + (bias - low)
    around bias low h = omega arith

    apart : (bias low : ℕ) → low ≤ bias → bias ≡ low + (bias - low)
    apart bias low h = omega arith
