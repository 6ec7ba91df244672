-- `rows::word_rows::word_plane` meets its contract: the choice for the plane is the one that a sample by words makes.
use Rattle.std.proofs.Common.{rules}
use borrow.Author.Tests.{eq-eqb, ne_eqb}
use Rattle.fixed.specs.Words.{raised_sample, sided_sample}
use Rattle.convert.proofs.RowLaws.{row_by_steps}
use Rattle.rows.proofs.word_rows.word_plane.Goals as goal

pub returns-then-by : goal.returns-then-by
returns-then-by c =
    rw (eq-eqb _ _ c.if-by.true) (row_by_steps (raised_sample c.args.by) (λ p v e. search rules) c.each_sample.ensures)

pub returns-else-by : goal.returns-else-by
returns-else-by c =
    rw (ne_eqb _ _ c.if-by.false) (row_by_steps (sided_sample c.args.by) (λ p v e. search rules) c.each_sample-else-by.ensures)
