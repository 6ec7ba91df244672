-- `fixed::reduce::turned` meets its contract for a weight of either sign.
use mathlib.Core.Path.{refl}
use Prim.Native.Nat.{◌*◌, ◌-◌, ◌/◌}
use native.Mathlib.Omega.{arith}
use Rattle.fixed.proofs.Reducing.{twice_below, twice_from, weight_takes, weight_adds, moved_in}
use Rattle.fixed.proofs.reduce.turned.Goals as goal

pub overflow_mul-result : goal.overflow_mul-result
overflow_mul-result c =
    let a = c.args in
    let l = moved_in a.g (a.down - a.up) a.down a.most (omega arith) in
    let room = c.requires.taken_in in
    omega arith

pub returns-then-up-down : goal.returns-then-up-down
returns-then-up-down c =
    let a = c.args in
    let is = twice_below a.g a.up a.down (omega arith) c.requires.divides in
    record {
      weight = weight_takes a.g (2 * (a.down - a.up) / a.g) a.up a.down a.most (omega arith) is;
      moved_is = refl;
      moved_in = moved_in a.g (a.down - a.up) a.down a.most (omega arith);
    }

pub returns-else-up-down : goal.returns-else-up-down
returns-else-up-down c =
    let a = c.args in
    let is = twice_from a.g a.up a.down (omega arith) c.requires.divides in
    record {
      weight = weight_adds a.g (2 * (a.up - a.down) / a.g) a.up a.down a.most (omega arith) is;
      moved_is = omega arith;
      moved_in = omega arith;
    }
