-- `codes::label::matrix_label` meets its contract: the label follows from what the code means.
use mathlib.Core.Path.{◌≡◌, sym, ap, ◌∙◌}
use Rattle.codes.specs.Label.{label_of}
use Rattle.codes.specs.declared.matrix.Matrix.{Matrix}
use Rattle.codes.proofs.label.matrix_label.Goals as goal

-- what the code means, read off the variant that was met
met : {m n k : Matrix} → m ≡ n → m ≡ k → label_of k ≡ label_of n
met e f = ap label_of (sym f ∙ e)

pub returns-in-Served : goal.returns-in-Served
returns-in-Served c = met c.matrix_of.ensures c.in-Served.is

pub returns-in-Unserved : goal.returns-in-Unserved
returns-in-Unserved c = met c.matrix_of.ensures c.in-Unserved.is

pub returns-in-Unspecified : goal.returns-in-Unspecified
returns-in-Unspecified c = met c.matrix_of.ensures c.in-Unspecified.is

pub returns-in-Reserved : goal.returns-in-Reserved
returns-in-Reserved c = met c.matrix_of.ensures c.in-Reserved.is
