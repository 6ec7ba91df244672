-- What remains of the walk from each position is the walk.
use Rattle.std.proofs.Common.{◌≤◌, ◌-◌}
use Rattle.boxes.proofs.WalkLaws.{Rest}
use Rattle.boxes.proofs.walk.Given as goal

abbrev pub invariant-loop-h : goal.invariant-loop-h
invariant-loop-h l = record { within : l.at ≤ l.room; rest : Rest l.part l.room l.kind l.at }

abbrev pub decreases-loop-h : goal.decreases-loop-h
decreases-loop-h l = l.room - l.at
