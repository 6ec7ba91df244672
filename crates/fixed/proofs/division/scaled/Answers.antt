-- `fixed::division::scaled` meets its contract: both words together leave over what the second leaves.
use mathlib.Core.Path.{◌≡◌, ap, ◌∙◌}
use Prim.Native.Nat.{ℕ, ◌+◌, ◌*◌, ◌/◌, ◌^◌, ◌≤◌}
use native.Mathlib.Nat.{mul-le-mul, mod-lt, div-add-mod'}
use native.Mathlib.Omega.{arith}
use lib.Pow.{pow_mono}
use Rattle.sample.specs.Depth.{past_samples}
use Rattle.fixed.specs.Words.{past_words, word}
use Rattle.fixed.proofs.Dividing.{quotient_is}
use Rattle.fixed.proofs.division.scaled.Goals as goal

pub bits-upper-requires : goal.bits-upper-requires
bits-upper-requires c =
    let a = c.args in
    let small : 2 ^ a.k ≤ 2 ^ 34 = pow_mono c.requires.k_bound in
    let l = mul-le-mul {n₁ = 2 ^ a.k} {m₁ = a.a / a.e + 1} {n₂ = 2 ^ 34} {m₂ = past_samples} small (omega arith) in
    record { rest_in = mod-lt a.a c.requires.e_nonzero; e_in = c.requires.e_bound; room = omega arith }

-- the second word divides what the first leaves over
joined : (b t e a high over low rest : ℕ) → high * e + over ≡ t * a → low * e + rest ≡ b * (0 * e + over)
    → (high * b + low) * e + rest ≡ b * t * a
joined b t e a high over low rest h l = let more = ap (λ n. b * n) h in omega arith

pub returns : goal.returns
returns c =
    let a = c.args in
    let upper = c.bits-upper in
    let lower = c.bits-lower in
    let high = upper.result.whole in
    let over = upper.result.rest in
    let low = lower.result.whole in
    let rest = lower.result.rest in
    let first : high * a.e + over ≡ 2 ^ a.k * a.a = upper.ensures.exact ∙ ap (λ n. 2 ^ a.k * n) (div-add-mod' a.a a.e) in
    let exact = joined past_words (2 ^ a.k) a.e a.a high over low rest first lower.ensures.exact in
    record {
      is = quotient_is {q = word high low} {rest = rest} exact lower.ensures.rest_in;
      low_in = let l = lower.ensures.whole_in in omega arith;
    }
