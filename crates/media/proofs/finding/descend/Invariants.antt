-- Each box of the path lies in the one before.
use Rattle.media.specs.Inside.{Part}
use Rattle.media.proofs.finding.descend.Given as goal

abbrev pub invariant-loop-kind : goal.invariant-loop-kind
invariant-loop-kind g l = Part l.from l.end l.part
