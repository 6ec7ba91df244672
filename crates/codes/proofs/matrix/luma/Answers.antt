-- `codes::matrix::luma` meets its contract.
use Rattle.codes.proofs.matrix.luma.Goals as goal

pub returns : goal.returns
returns c = rw c.luma-matrix.ensures
