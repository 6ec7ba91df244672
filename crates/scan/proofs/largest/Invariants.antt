-- `scan::largest`: m is the largest of the elements passed so far.
use mathlib.Core.Path.{◌≡◌}
use Rattle.scan.specs.First.{largest_of}
use Rattle.scan.proofs.largest.Given as goal

abbrev pub invariant-loop-v : goal.invariant-loop-v
invariant-loop-v l = l.m ≡ largest_of l.v-index l.s
