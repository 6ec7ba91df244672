-- What is said so far lies inside.
use Rattle.std.proofs.Common.{◌≤◌, ◌-◌}
use Rattle.media.specs.SaidIn.{SaidIn}
use Rattle.media.proofs.file.entries_said.Given as goal

abbrev pub invariant-loop-s : goal.invariant-loop-s
invariant-loop-s g l = record { after : l.from ≤ l.at; said : SaidIn l.from l.end l.said }

abbrev pub decreases-loop-s : goal.decreases-loop-s
decreases-loop-s g l = l.end - l.at
