-- `quotients::numbers::luma_factor` meets its contract: a quotient and one more is a little past the unit, and what it has too much was tested.
use Prim.Native.Nat.{◌*◌, ◌≤◌, ◌<◌}
use native.Mathlib.Nat.{mul-le-mul, mul-pos}
use native.Mathlib.Omega.{arith}
use Rattle.quotients.proofs.Testing.{Past, past_unit, luma_exact}
use Rattle.quotients.proofs.numbers.luma_factor.Goals as goal
use Rattle.quotients.proofs.numbers.luma_factor.Goals.{In_ok-e}

-- where e was found
module _ (c : In_ok-e) where
  d_some : 0 < c.args.scale * c.in_ok-e.e
  d_some = mul-pos c.requires.scale_nonzero (let h = c.in_ok-e.ensures.even.h_some in let even = c.in_ok-e.ensures.even.even in omega arith)

  d_in : c.args.scale * c.in_ok-e.e ≤ 65535 * 65535
  d_in = mul-le-mul c.requires.scale_bound c.in_ok-e.ensures.upper_bound

  past : Past (c.args.scale * c.in_ok-e.e)
  past = past_unit _ d_some

pub returns : goal.returns
returns c =
    record {
      luma_exact = luma_exact c.args.scale c.args.bias c.in_ok-e.e _ c.in_ok-e.ensures.even (omega arith) (past ((goal.at.returns c).In_ok-e)).over
          (omega arith);
      upper_bound = omega arith;
    }
