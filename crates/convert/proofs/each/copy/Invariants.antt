-- `convert::each::copy` meets its contract: with each turn the rows are the same for one element more.
use Rattle.std.proofs.Common.{◌≡◌, length, take}
use Rattle.convert.proofs.each.copy.Given as goal

abbrev pub invariant-loop-i : goal.invariant-loop-i
invariant-loop-i l = (l.i-end ≡ length l.a) × (length l.b ≡ length l.a) × (take l.i l.b ≡ take l.i l.a)
