-- Each track leads on, and there are no more tracks than bytes.
use Rattle.std.proofs.Common.{◌≤◌, ◌-◌}
use Rattle.file_label.proofs.tracks.Given as goal

abbrev pub invariant-loop-s : goal.invariant-loop-s
invariant-loop-s g l = l.n ≤ l.at

abbrev pub decreases-loop-s : goal.decreases-loop-s
decreases-loop-s g l = l.end - l.at
