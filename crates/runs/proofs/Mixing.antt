-- Lights of samples up to the largest stay within reach.
use mathlib.Core.Path.{◌≡◌, ap}
use Prim.Native.Nat.{ℕ, ◌+◌, ◌*◌, ◌-◌, ◌≤◌}
use native.Mathlib.Nat.{mul-le-mul, mul-le-mul_left}
use native.Mathlib.Omega.{arith}
use Rattle.sample.specs.Depth.{UpTo}
use Rattle.sample.specs.declared.Pixel.{Pixel}
use Rattle.levels.specs.Conversion.{most_sample}
use Rattle.runs.specs.Found.{Mixes}
use Rattle.runs.specs.Light.{mix_of, Weighs}
use Rattle.runs.specs.declared.Runs.{Runs}
use Rattle.runs.specs.declared.mix.Mix.{Mix}

-- each product of a light, at the largest sample
pub record Lit (k : Mix) (p : Pixel) : Type 0 where
  pub first : k.kr * p.p0 ≤ k.kr * k.most
  pub second : k.kg * p.p1 ≤ k.kg * k.most
  pub third : k.kb * p.p2 ≤ k.kb * k.most
  pub all : k.kr * k.most + k.kg * k.most + k.kb * k.most ≡ k.bias

pub lit : {k : Mix} → Weighs k → (p : Pixel) → UpTo k.most p → Lit k p
lit {k} w p h =
    let sum = ap (λ n. n * k.most) w.sum in
    let most = w.bias_is in
    record {
      first = mul-le-mul_left k.kr h.p0_in;
      second = mul-le-mul_left k.kg h.p1_in;
      third = mul-le-mul_left k.kb h.p2_in;
      all = omega arith;
    }

-- a colour is no further from the light than twice the largest
pub in_reach : (a b c v most bias light : ℕ) → bias ≡ (a + b + c) * most → v ≤ most → (a + b + c) * v + bias - light ≤ 2 * bias
in_reach a b c v most bias light e h = let l = mul-le-mul_left (a + b + c) h in omega arith

-- a colour v, whose weight is c, is furthest below the light where it is 0 and the others are largest, and furthest above it the other way round
pub least_away : (a b c v x y most bias : ℕ) → bias ≡ (a + b + c) * most → x ≤ most → y ≤ most
    → c * most ≤ (a + b + c) * v + bias - (a * x + b * y + c * v)
least_away a b c v x y most bias e h k = let l = mul-le-mul_left a h in let m = mul-le-mul_left b k in omega arith

pub most_away : (a b c v x y most bias : ℕ) → bias ≡ (a + b + c) * most → v ≤ most
    → (a + b + c) * v + bias - (a * x + b * y + c * v) + c * most ≤ 2 * bias
most_away a b c v x y most bias e h = let l = mul-le-mul_left (a + b) h in omega arith

-- the largest light has few bits
pub bias_in : (all most : ℕ) → all ≤ 65535 → most ≤ most_sample → all * most ≤ 65535 * 4095
bias_in all most h k = mul-le-mul h k

-- weights that are taken `scale` times
module _ {r : Runs} {scale : ℕ} (m : Mixes r scale) where
  -- their sum, and the largest light with it
  pub record Taken : Type 0 where
    pub sum : scale * r.kr + scale * r.kg + scale * r.kb ≡ scale * r.all
    pub bias : scale * r.bias ≡ scale * r.all * r.most
    pub bias_in : scale * r.all * r.most ≤ 65535 * 4095

  pub taken : Taken
  taken =
      let sum = ap (λ n. scale * n) m.sum in
      let bias = ap (λ n. scale * n) m.bias_is in
      record { sum = omega arith; bias = omega arith; bias_in = bias_in (scale * r.all) r.most m.all_in m.most_in }

  pub weighs : Weighs (mix_of r scale)
  weighs = let t = taken in record { sum = t.sum; bias_is = t.bias; bias_in = let i = t.bias_in in let e = t.bias in omega arith }
