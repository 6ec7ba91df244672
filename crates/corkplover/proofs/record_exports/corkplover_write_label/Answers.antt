-- `corkplover::record_exports::corkplover_write_label` meets its contract: the label of its four parameters is written, and the answer packed as it is.
use mathlib.Core.Path.{ap, ◌∙◌}
use Rattle.nclx.specs.Record.{written_into}
use Rattle.corkplover.specs.RecordPacking.{packed_check}
use Rattle.corkplover.proofs.record_exports.corkplover_write_label.Goals as goal

pub returns : goal.returns
returns c =
    (c.pack_done.ensures ∙ ap packed_check c.write_into.ensures.value, c.write_into.ensures.out_after ∙ ap (λ l. written_into l c.args.out.now) c.label_from-label.ensures)
