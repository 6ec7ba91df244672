-- Each line is left behind.
use Rattle.std.proofs.Common.{length}
use Rattle.case_lines.proofs.all.Given as goal

abbrev pub decreases-loop-lines : goal.decreases-loop-lines
decreases-loop-lines g l = length l.lines.text.now
