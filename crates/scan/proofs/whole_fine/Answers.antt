-- `scan::whole_fine` meets its contract: where the stride is the width, every sample of the picture is in the part that is lent.
use mathlib.Core.Path.{◌≡◌}
use Prim.Native.Nat.{◌*◌, ◌+◌, ◌-◌}
use native.Mathlib.Nat.{zero-add}
use native.Mathlib.Omega.{arith}
use borrow.Author.Tests.{leb-true}
use Rattle.scan.proofs.Searches.{part_fine}
use Rattle.planes.proofs.SizeLaws.{index_inside}
use Rattle.scan.proofs.whole_fine.Goals as goal

pub returns : goal.returns
returns c e j i h k =
    let a = c.args in
    let within = index_inside a.width a.height a.stride j i h k in
    let whole : c.needed.result - 0 ≡ c.needed.result = omega arith in
    part_fine a.p.now a.stride j i 0 c.needed.result (j * a.stride + i) a.top c.largest.result (zero-add _) (omega arith) (omega arith) (omega arith)
    (rw whole c.largest.ensures) (leb-true _ _ e)
