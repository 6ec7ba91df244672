-- `rounding::narrow::clip_moved` meets its contract: of the two moves one is by nothing, and to stop at `top` before the other changes
-- nothing, as it only leads further up.
use mathlib.Core.Path.{◌≡◌}
use Prim.Native.Nat.{ℕ, ◌+◌, ◌-◌, min}
use native.Mathlib.Omega.{arith}
use Rattle.rounding.proofs.Difference.{parts_sub}
use Rattle.rounding.proofs.FromParts.{clip_of}
use Rattle.rounding.proofs.narrow.clip_moved.Goals as goal

stopped : (n up down top : ℕ) → min (min (n - down) top + up) top ≡ min (n - down + up) top
stopped n up down top = omega arith

moved : (n p q : ℕ) → n - (q - p) + (p - q) ≡ n + p - q
moved n p q = omega arith

pub returns : goal.returns
returns c =
    let a = c.args in
    let low = stopped a.n (a.p - a.q) (a.q - a.p) a.top in
    let same = moved a.n a.p a.q in
    let is = clip_of a.top (parts_sub (a.n + a.p) a.q) in
    cc
