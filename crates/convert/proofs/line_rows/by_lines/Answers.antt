-- `convert::line_rows::by_lines` meets its contract, plane by plane.
use Rattle.std.proofs.Common.{rules}
use Rattle.levels.specs.Lines.{line_sample}
use Rattle.convert.proofs.RowLaws.{row_by_steps}
use Rattle.convert.proofs.line_rows.by_lines.Goals as goal

pub returns : goal.returns
returns c = (
  row_by_steps (line_sample c.args.lines.first.line) (λ p v e. search rules) c.each_sample.ensures,
  (
    row_by_steps (line_sample c.args.lines.second.line) (λ p v e. search rules) c.each_sample-2.ensures,
    row_by_steps (line_sample c.args.lines.third.line) (λ p v e. search rules) c.each_sample-3.ensures,
  ),
)
