-- `rounding::common::common` meets its contract: what divides both numbers at any turn divides the two that it began with.
use mathlib.Core.Path.{◌≡◌}
use native.Mathlib.Nat.{dvd-mod_iff, dvd_refl, dvd-zero}
use native.Mathlib.Omega.{arith}
use Rattle.rounding.proofs.common.common.Goals as goal

pub loop-y-preserved : goal.loop-y-preserved
loop-y-preserved c = (omega arith, λ d h k. c.loop-y.invariant.1 d ((dvd-mod_iff d h).0 k) h)

pub returns : goal.returns
returns c =
    let l = c.loop-y in
    let none : l.y ≡ 0 = omega arith in
    let both = l.invariant.1 l.x (dvd_refl l.x) (rw none (dvd-zero l.x)) in
    record { some = l.invariant.0; first = both.0; second = both.1 }
