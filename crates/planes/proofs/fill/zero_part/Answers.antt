-- `planes::fill::zero_part` meets its contract: what `zero_all` left of the part stands between what was before and after it.
use mathlib.Core.Path.{ap, ◌∙◌}
use native.Mathlib.Omega.{arith}
use Rattle.tables.specs.Table.{zeros, patched}
use Rattle.tables.proofs.Tables.{part_length}
use Rattle.planes.proofs.fill.zero_part.Goals as goal

pub returns : goal.returns
returns c =
    let p = c.args in
    ap (patched p.out.now p.a p.e)
    (c.zero_all.ensures ∙ ap zeros (part_length p.out.now p.a p.e (omega arith) (omega arith)))
