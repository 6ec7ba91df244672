-- `codes::label::label_for` meets its contract: each kind of code goes to its own table.
use Rattle.codes.proofs.label.label_for.Goals as goal

pub returns-in-Primaries : goal.returns-in-Primaries
returns-in-Primaries c = rw c.in-Primaries.is c.primaries_label.ensures

pub returns-in-Transfer : goal.returns-in-Transfer
returns-in-Transfer c = rw c.in-Transfer.is c.transfer_label.ensures

pub returns-in-Matrix : goal.returns-in-Matrix
returns-in-Matrix c = rw c.in-Matrix.is c.matrix_label.ensures
