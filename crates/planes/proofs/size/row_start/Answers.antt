-- `planes::size::row_start` meets its contract: a product is no larger than that of the limits.
use native.Mathlib.Omega.{arith}
use Rattle.planes.proofs.SizeLaws.{row_start}
use Rattle.planes.proofs.size.row_start.Goals as goal

pub overflow_mul-result : goal.overflow_mul-result
overflow_mul-result c =
    omega (arith, row_start c.args.j c.args.height c.args.stride (omega arith) (omega arith) (omega arith))

pub returns : goal.returns
returns c = row_start _ _ _ (omega arith) (omega arith) (omega arith)
