-- `levels::equations::luma` meets its contract: each equation is its definition's.
use Rattle.levels.specs.Equations.{luma_matrix}
use Rattle.levels.proofs.equations.luma.Goals as goal

pub returns : goal.returns
unfolding luma_matrix
returns c =
    rw (
      c.equation_y.ensures,
      c.equation_pb.ensures,
      c.equation_pr.ensures,
      c.equation_r.ensures,
      c.equation_g.ensures,
      c.equation_b.ensures,
      c.of-k.ensures.value,
    )
