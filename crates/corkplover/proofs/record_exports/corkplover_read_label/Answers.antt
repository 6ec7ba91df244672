-- `corkplover::record_exports::corkplover_read_label` meets its contract: the answer is packed as it is.
use mathlib.Core.Path.{ap, ◌∙◌}
use Rattle.corkplover.specs.RecordPacking.{packed_read}
use Rattle.corkplover.proofs.record_exports.corkplover_read_label.Goals as goal

pub returns : goal.returns
returns c = c.pack_read.ensures ∙ ap packed_read c.read_label.ensures
