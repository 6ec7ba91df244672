-- `fixed::reduce::parted` meets its contract on both sides of zero.
use Prim.Native.Nat.{◌-◌}
use native.Mathlib.Nat.{div-le_self}
use native.Mathlib.Omega.{arith}
use Rattle.fixed.proofs.Reducing.{whole_below, whole_from}
use Rattle.fixed.proofs.reduce.parted.Goals as goal

pub returns-then-p-q : goal.returns-then-p-q
returns-then-p-q c =
    let a = c.args in
    let is = whole_below a.g a.p a.q (omega arith) c.requires.g in
    record { is = omega arith; minus_in = let l = div-le_self (a.q - a.p) a.g in omega arith }

pub returns-else-p-q : goal.returns-else-p-q
returns-else-p-q c =
    let a = c.args in
    let is = whole_from a.g a.p a.q (omega arith) c.requires.g in
    record { is = omega arith; minus_in = omega arith }
