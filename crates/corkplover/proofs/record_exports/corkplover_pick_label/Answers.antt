-- `corkplover::record_exports::corkplover_pick_label` meets its contract: the answer is packed as it is.
use mathlib.Core.Path.{ap, ◌∙◌}
use Rattle.corkplover.specs.RecordPacking.{packed_choice}
use Rattle.corkplover.proofs.record_exports.corkplover_pick_label.Goals as goal

pub returns : goal.returns
returns c = c.pack_choice.ensures ∙ ap packed_choice c.pick_label.ensures
