-- `quotients::numbers::exact` meets its contract: what was tested is what makes a share exact.
use Prim.Native.Nat.{◌*◌, ◌-◌, ◌≤◌}
use native.Mathlib.Nat.{mul-le-mul}
use native.Mathlib.Omega.{arith}
use Rattle.quotients.proofs.Testing.{share_exact}
use Rattle.quotients.proofs.numbers.exact.Goals as goal
use Rattle.quotients.proofs.numbers.exact.Goals.{Else-rest-miss, Start}

-- the products of the tests
module _ (c : Else-rest-miss) where
  far_in : c.in_ok-rest.rest * (c.args.bias - c.args.low) ≤ 1073741823 * (65535 * 4095)
  far_in =
      let r : c.in_ok-rest.rest ≤ 1073741823 = let l = c.in_ok-rest.ensures.upper_bound in omega arith in
      let f : c.args.bias - c.args.low ≤ 65535 * 4095 = let l = c.requires.testable.bias_in in omega arith in
      mul-le-mul r f

  miss_in : c.args.e * c.in_ok-miss.miss ≤ 65535 * 1073741824
  miss_in = let l = c.in_ok-miss.ensures.upper_bound in let m : c.in_ok-miss.miss ≤ 1073741824 = omega arith in mul-le-mul c.requires.e_bound m

pub returns : goal.returns
returns c =
    let rest = c.in_ok-rest in
    let miss = c.in_ok-miss in
    share_exact c.args.by rest.rest miss.miss c.requires.testable c.requires.even rest.ensures.value miss.ensures.value rest.ensures.lower_bound
    (omega arith) (omega arith) (omega arith)
