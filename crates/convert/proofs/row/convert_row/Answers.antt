-- `convert::row::convert_row` meets its contract, plan by plan: a row that is copied is the row of its own samples, and of every other plan each
-- step is its formula.
use mathlib.Core.Path.{refl, ◌∙◌}
use Rattle.std.proofs.Common.{rules}
use Rattle.ycgco.specs.YCgCo.{lossy_forward, lossy_reverse, lossless_forward, lossless_reverse}
use Rattle.convert.proofs.RowLaws.{row_itself, rows_by_steps}
use Rattle.convert.proofs.row.convert_row.Goals as goal

pub returns-in-PlacesForward : goal.returns-in-PlacesForward
returns-in-PlacesForward c =
    let e = c.copy_three.ensures in
    let w = c.requires.one_width in
    rw c.in-PlacesForward.is (e.b0_after ∙ row_itself _ _ w.a1_long, (e.b1_after ∙ row_itself _ _ w.a2_long, e.b2_after ∙ row_itself _ _ refl))

pub returns-in-PlacesReverse : goal.returns-in-PlacesReverse
returns-in-PlacesReverse c =
    let e = c.copy_three-in-PlacesReverse.ensures in
    let w = c.requires.one_width in
    rw c.in-PlacesReverse.is (e.b0_after ∙ row_itself _ _ w.a2_long, (e.b1_after ∙ row_itself _ _ refl, e.b2_after ∙ row_itself _ _ w.a1_long))

pub returns-in-LossyForward : goal.returns-in-LossyForward
returns-in-LossyForward c = rw c.in-LossyForward.is (rows_by_steps (lossy_forward c.in-LossyForward.d) (λ p q e. search rules) c.each_pixel.ensures)

pub returns-in-LossyReverse : goal.returns-in-LossyReverse
returns-in-LossyReverse c = rw c.in-LossyReverse.is (rows_by_steps (lossy_reverse c.in-LossyReverse.d) (λ p q e. search rules) c.each_pixel-in-LossyReverse.ensures)

pub returns-in-LosslessForward : goal.returns-in-LosslessForward
returns-in-LosslessForward c = rw c.in-LosslessForward.is (rows_by_steps (lossless_forward c.in-LosslessForward.d) (λ p q e. search rules) c.each_pixel-in-LosslessForward.ensures)

pub returns-in-LosslessReverse : goal.returns-in-LosslessReverse
returns-in-LosslessReverse c = rw c.in-LosslessReverse.is (rows_by_steps (lossless_reverse c.in-LosslessReverse.d) (λ p q e. search rules) c.each_pixel-in-LosslessReverse.ensures)
