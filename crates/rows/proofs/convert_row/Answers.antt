-- `rows::convert_row` meets its contract, plan by plan: each step is its formula.
use Rattle.std.proofs.Common.{rules}
use Rattle.light.specs.Light.{light_pixel}
use Rattle.quotients.specs.Quotients.{quotients_pixel}
use Rattle.convert.proofs.RowLaws.{rows_by_steps}
use Rattle.rows.proofs.convert_row.Goals as goal

pub returns-in-Quotients : goal.returns-in-Quotients
returns-in-Quotients c = rw c.in-Quotients.is (rows_by_steps (quotients_pixel c.in-Quotients.by) (λ p q e. search rules) c.each_pixel.ensures)

pub returns-in-Light : goal.returns-in-Light
returns-in-Light c = rw c.in-Light.is (rows_by_steps (light_pixel c.in-Light.by) (λ p q e. search rules) c.each_pixel-in-Light.ensures)

pub returns-in-Words : goal.returns-in-Words
returns-in-Words c = rw c.in-Words.is c.by_words.ensures
