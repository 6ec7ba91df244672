-- `convert::back::lossless` meets its contract: with each turn the bits are gathered from one pixel more.
use mathlib.Core.Path.{◌≡◌}
use Prim.Native.Nat.{◌≤◌}
use lib.ListN.{length}
use Rattle.ycgco.specs.YCgCo.{lossless_forward, lossless_reverse}
use Rattle.planes.specs.Three.{held}
use Rattle.convert.proofs.BackLaws.{BackUntil}
use Rattle.convert.proofs.back.lossless.Given as goal

abbrev pub invariant-loop-i : goal.invariant-loop-i
invariant-loop-i l =
    (l.i ≤ l.i-end) × ((l.i-end ≡ length l.a.p0.now) × BackUntil (lossless_reverse l.back) (lossless_forward l.forth) (held l.a) l.apart l.i)
