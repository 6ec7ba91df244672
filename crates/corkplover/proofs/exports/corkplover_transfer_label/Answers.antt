-- The exported transfer label is the number of the label, or of the refusal.
use Rattle.corkplover.proofs.exports.corkplover_transfer_label.Goals as goal

pub returns : goal.returns
returns c = cc
