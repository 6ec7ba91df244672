-- `fixed::by_words::sums_of` meets its contract: the products are largest at the largest sample, and words have room for that.
use native.Mathlib.Omega.{arith}
use Rattle.fixed.proofs.Carrying.{high_fits}
use Rattle.fixed.proofs.by_words.sums_of.Goals as goal

pub sum-high-requires : goal.sum-high-requires
sum-high-requires c =
    high_fits c.requires.words_fit
    c.distance-u0.result c.distance-u1.result c.distance-u2.result (omega arith) (omega arith) (omega arith)
