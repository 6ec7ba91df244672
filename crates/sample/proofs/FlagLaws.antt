-- Laws of a flag as a number.
use mathlib.Core.Path.{◌≡◌, refl}
use mathlib.Core.Bool.{Bool, true, false}
use Prim.Native.Nat.{◌≤◌}
use native.Mathlib.Omega.{arith}
use lib.Dec.{eqb}
use Rattle.sample.specs.Flag.{one_if}

pub one_most : (b : Bool) → one_if b ≤ 1
one_most true = omega arith
one_most false = omega arith

pub one_none : (b : Bool) → one_if b ≡ 0 → b ≡ false
one_none true e = absurd (omega arith)
one_none false e = refl

-- the flag comes out again
pub one_out : (b : Bool) → eqb (one_if b) 1 ≡ b
one_out true = refl
one_out false = refl
