-- What is said so far lies inside.
use Rattle.std.proofs.Common.{◌≤◌, ◌-◌}
use Rattle.media.specs.SaidIn.{SaidIn}
use Rattle.media.proofs.file.tracks_said.Given as goal

abbrev pub invariant-loop-at : goal.invariant-loop-at
invariant-loop-at g l = record { after : l.from ≤ l.at; said : SaidIn l.from l.end l.said }

abbrev pub decreases-loop-at : goal.decreases-loop-at
decreases-loop-at g l = l.end - l.at
