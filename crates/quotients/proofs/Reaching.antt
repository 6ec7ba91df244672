-- However far a colour is from the light, there is as much as is taken away.
use mathlib.Core.Path.{◌≡◌, sym, ap, ◌∙◌}
use Prim.Native.Nat.{ℕ, ◌+◌, ◌*◌, ◌≤◌}
use native.Mathlib.Nat.{le_trans, mul-le-mul_left}
use native.Mathlib.Omega.{arith}
use Rattle.rounding.proofs.Lifted.{div_mono}
use Rattle.sample.specs.Depth.{UpTo}
use Rattle.sample.specs.declared.Pixel.{Pixel}
use Rattle.runs.specs.Light.{blue_by, red_by}
use Rattle.runs.proofs.Mixing.{least_away, most_away}
use Rattle.quotients.specs.Parts.{parts}
use Rattle.quotients.specs.declared.factors.Quotients.{Quotients}

pub parts_more : (factor : ℕ) {m n : ℕ} → m ≤ n → parts factor m ≤ parts factor n
parts_more factor h = div_mono 4294967296 (omega arith) (mul-le-mul_left factor h)

-- the numbers of a colour, for weights that sum to what the largest light was made of
module _ (kr kg kb most bias : ℕ) (bias_is : bias ≡ (kr + kg + kb) * most) (p : Pixel) (inside : UpTo most p) where
  pub blue_least : kb * most ≤ blue_by kr kg kb bias p
  blue_least = least_away kr kg kb p.p2 p.p0 p.p1 most bias bias_is inside.p0_in inside.p1_in

  pub blue_most : blue_by kr kg kb bias p + kb * most ≤ 2 * bias
  blue_most = most_away kr kg kb p.p2 p.p0 p.p1 most bias bias_is inside.p2_in

  pub red_least : kr * most ≤ red_by kr kg kb bias p
  red_least = let l = least_away kg kb kr p.p0 p.p1 p.p2 most bias (omega arith) inside.p1_in inside.p2_in in omega arith

  pub red_most : red_by kr kg kb bias p + kr * most ≤ 2 * bias
  red_most = let l = most_away kg kb kr p.p0 p.p1 p.p2 most bias (omega arith) inside.p0_in in omega arith

module _ (k : Quotients) (p : Pixel) (inside : UpTo k.mix.most p) where
  bias_is : k.mix.bias ≡ (k.mix.kr + k.mix.kg + k.mix.kb) * k.mix.most
  bias_is = k.weighs.bias_is ∙ ap (λ n. n * k.mix.most) (sym k.weighs.sum)

  pub blue_there : k.blue.take ≤ parts k.blue.factor (blue_by k.mix.kr k.mix.kg k.mix.kb k.mix.bias p)
  blue_there = le_trans k.blue_there (parts_more k.blue.factor (blue_least k.mix.kr k.mix.kg k.mix.kb k.mix.most k.mix.bias bias_is p inside))

  pub red_there : k.red.take ≤ parts k.red.factor (red_by k.mix.kr k.mix.kg k.mix.kb k.mix.bias p)
  red_there = le_trans k.red_there (parts_more k.red.factor (red_least k.mix.kr k.mix.kg k.mix.kb k.mix.most k.mix.bias bias_is p inside))
