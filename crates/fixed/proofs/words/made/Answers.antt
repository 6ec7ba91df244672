-- `fixed::words::made` meets its contract: the words are the numbers found, and a cast loses nothing of them.
use native.Mathlib.Omega.{arith}
use Rattle.fixed.proofs.Finishing.{good}
use Rattle.fixed.proofs.words.made.Goals as goal

pub returns : goal.returns
returns c =
    good c.requires.finished (omega (arith, c.ranges)) c.weight_of.ensures c.weight_of-2.ensures c.weight_of-3.ensures
