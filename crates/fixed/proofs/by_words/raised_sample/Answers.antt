-- `fixed::by_words::raised_sample` meets its contract: the whole number is the sums'.
use Rattle.fixed.proofs.Carrying.{whole_fits}
use Rattle.fixed.proofs.by_words.raised_sample.Goals as goal

pub whole-up-requires : goal.whole-up-requires
whole-up-requires c =
    rw c.sums_of-s.ensures (whole_fits c.requires.words_fit c.requires.up_to c.args.by.add c.requires.words_fit.add_in)
