-- `fixed::by_words::sided_sample` meets its contract: both whole numbers are the sums'.
use native.Mathlib.Omega.{arith}
use Rattle.fixed.proofs.Carrying.{whole_fits}
use Rattle.fixed.proofs.by_words.sided_sample.Goals as goal

pub whole-down-requires : goal.whole-down-requires
whole-down-requires c =
    rw c.sums_of-s.ensures (whole_fits c.requires.words_fit c.requires.up_to 0 (omega arith))

pub whole-up-requires : goal.whole-up-requires
whole-up-requires c =
    rw c.sums_of-s.ensures (whole_fits c.requires.words_fit c.requires.up_to c.args.by.add c.requires.words_fit.add_in)
